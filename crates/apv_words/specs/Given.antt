-- What is given of an option.
use Rattle.std.specs.Prelude.{Bool, List, find, Option, option_and_then, is_some}
use Rattle.std.specs.Str.{bytes_eq}
use Rattle.apv_words.specs.Table.{Text}
use Rattle.apv_words.specs.Cut.{Pair}

abbrev pub pair_of : List Pair → Text → Option Pair
pair_of pairs name = find (λ pair. bytes_eq pair.name name) pairs

-- the option is given
abbrev pub is_given : List Pair → Text → Bool
is_given pairs name = is_some (pair_of pairs name)

-- the value that is given
abbrev pub value_of : List Pair → Text → Option Text
value_of pairs name = option_and_then (λ pair. pair.value) (pair_of pairs name)
