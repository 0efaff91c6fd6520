-- The words of a command line, cut into options and their values.
use Rattle.std.specs.Prelude.{◌≡◌, Bool, true, false, not, ◌==◌, ◌⊎◌, List, [], ◌∷◌, ◌++◌}
use Rattle.std.specs.Prelude.{map, Option, Some, None, is_some}
use Rattle.std.specs.Option.{option_map}
use Rattle.apv_words.specs.Table.{OptionRow, Text, repeats, row_by_name, takes_value}

-- an option that is given, by its name without the two dashes, and its value
pub record Pair : Type 0 where
  pub name : Text
  pub value : Option Text

-- the table has the option, and it takes a value exactly where one is given
abbrev pub IsOption : List OptionRow → Pair → Type 0
IsOption table pair =
    option_map (λ row. takes_value row.kind) (row_by_name table pair.name) ≡ Some (is_some pair.value)

-- `--name`
abbrev pub dashed : Text → Text
dashed name = 45 ∷ 45 ∷ name

-- `--name=value`
abbrev pub joined : Text → Text → Text
joined name value = dashed name ++ 61 ∷ value

-- a value of its own doesn't begin with a dash, unless it is the word `-`
abbrev pub may_stand_alone : Text → Bool
may_stand_alone [] = true
may_stand_alone (b ∷ []) = true
may_stand_alone (b ∷ c ∷ rest) = not (b == 45)

-- the words are the option and its value, and then the rest
abbrev pub SpellsOption : Text → Option Text → List Text → List Text → Type 0
SpellsOption name None words rest = words ≡ dashed name ∷ rest
SpellsOption name (Some value) words rest =
    (words ≡ joined name value ∷ rest)
    ⊎ ((words ≡ dashed name ∷ value ∷ rest) × (may_stand_alone value ≡ true))

-- the words are these options and their values, one after another
abbrev pub SpellsOptions : List OptionRow → List Pair → List Text → Type 0
SpellsOptions table [] words = words ≡ []
SpellsOptions table (pair ∷ pairs) words =
    IsOption table pair
    × ((rest : List Text) × SpellsOption pair.name pair.value words rest × SpellsOptions table pairs rest)

abbrev pub given_names : List Pair → List Text
given_names pairs = map (λ pair. pair.name) pairs

-- the words are these options and their values, and each option occurs once
pub record Cut (table : List OptionRow) (words : List Text) (pairs : List Pair) : Type 0 where
  pub spelled : SpellsOptions table pairs words
  pub once : repeats (given_names pairs) ≡ false

-- the words can't be cut
abbrev pub NoCut : List OptionRow → List Text → Type 0
NoCut table words = (pairs : List Pair) → Cut table words pairs → ⊥
