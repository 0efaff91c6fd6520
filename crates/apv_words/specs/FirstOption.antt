-- The option at the start of words, by the form of the first word.
use Rattle.std.specs.Prelude.{ℕ, Bool, true, false, List, [], ◌∷◌, Option, Some, None, map}
use Rattle.std.specs.Prelude.{option_and_then, slice_get, if◌then◌else◌}
use Rattle.clap.specs.Lexer.{long_of}
use Rattle.apv_words.specs.Table.{OptionRow, Text, row_by_name, takes_value}
use Rattle.apv_words.specs.Cut.{Pair, may_stand_alone}
use Rattle.apv_words.specs.View.{text_of}
use Rattle.apv_words.specs.declared.cutting.Given.{Given}

-- an option that is given, as the definitions see it
abbrev pub pair_at : Given → Pair
pair_at given = record { name = given.name.now; value = text_of given.value }

abbrev pub pairs_at : List Given → List Pair
pairs_at givens = map pair_at givens

-- an option, and how many words it and its value are
abbrev pub FirstOption : Type 0
FirstOption = Option (Pair × ℕ)

abbrev pub first_view : Given × ℕ → Pair × ℕ
first_view first = (pair_at first.0, first.1)

-- the option with the next word as its value
abbrev pub with_own : Text → Option Text → FirstOption
with_own name None = None
with_own name (Some own) =
    if may_stand_alone own then Some (record { name = name; value = Some own }, 2) else None

-- the option with what its word says of its value
abbrev pub with_value : Bool → Text → Option Text → Option Text → FirstOption
with_value false name None next = Some (record { name = name; value = None }, 1)
with_value false name (Some value) next = None
with_value true name (Some value) next = Some (record { name = name; value = Some value }, 1)
with_value true name None next = with_own name next

abbrev pub first_by_row : Option OptionRow → Option Text → Option Text → FirstOption
first_by_row row value next =
    option_and_then (λ row. with_value (takes_value row.kind) row.name value next) row

abbrev pub first_by_word : List OptionRow → Option (Text × Option Text) → Option Text → FirstOption
first_by_word table flag next = option_and_then (λ flag. first_by_row (row_by_name table flag.0) flag.1 next) flag

-- the option whose first word is `first`, where `next` follows
abbrev pub option_of : List OptionRow → Text → Option Text → FirstOption
option_of table first next = first_by_word table (long_of first) next

abbrev pub first_option : List OptionRow → List Text → FirstOption
first_option table [] = None
first_option table (first ∷ rest) = option_of table first (slice_get rest 0)
