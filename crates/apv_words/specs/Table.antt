-- A table of options.
use Rattle.std.specs.Prelude.{ℕ, Bool, true, false, not, ◌&&◌, ◌||◌, ◌==◌, List, [], ◌∷◌, map, find}
use Rattle.std.specs.Prelude.{Option}
use Rattle.std.specs.List.{list_all, list_any}
use Rattle.std.specs.Str.{bytes_eq}
use Rattle.apv_base.specs.declared.options.Opt.{Opt}
use Rattle.apv_words.specs.declared.table.Bounds.{Bounds}

abbrev pub Text : Type 0
Text = List ℕ

-- what the value of an option is: there is none, the name of a file, the same or `-`, a number, two
-- numbers with `:`, numbers with commas, one or two digits with an optional `-` up to a size, or
-- one of some texts
pub data ValueKind : Type 0 where
  Flag : ValueKind
  Name : ValueKind
  NameOrDash : ValueKind
  Number : Bounds → ValueKind
  Ratio : Bounds → ValueKind
  Numbers : List Bounds → ValueKind
  Signed : ℕ → ValueKind
  Choice : List Text → ValueKind

-- a condition of an option on another one: it is given, it isn't given, it has that value, it hasn't
-- that value or isn't given, or the option's own number is below its number
pub data RowCondition : Type 0 where
  With : Text → RowCondition
  Without : Text → RowCondition
  HasValue : Text → Text → RowCondition
  LacksValue : Text → Text → RowCondition
  Below : Text → RowCondition

-- whether an option is required: never, always, or where all of these conditions hold
pub data RowRequirement : Type 0 where
  Optional : RowRequirement
  Required : RowRequirement
  RequiredWhere : List RowCondition → RowRequirement

-- an option: what a refusal names, its name without the two dashes, its value, whether it is
-- required, and the conditions of which none may hold where it is given
pub record OptionRow : Type 0 where
  pub opt : Opt
  pub name : Text
  pub kind : ValueKind
  pub requirement : RowRequirement
  pub clashes : List RowCondition

abbrev pub row : Opt → Text → ValueKind → RowRequirement → List RowCondition → OptionRow
row opt name kind requirement clashes =
    record { opt = opt; name = name; kind = kind; requirement = requirement; clashes = clashes }

-- an option that isn't required and is beside every other one
abbrev pub optional : Opt → Text → ValueKind → OptionRow
optional opt name kind = row opt name kind Optional []

abbrev pub required : Opt → Text → ValueKind → OptionRow
required opt name kind = row opt name kind Required []

abbrev pub takes_value : ValueKind → Bool
takes_value Flag = false
takes_value _ = true

-- the first option of that name
abbrev pub row_by_name : List OptionRow → Text → Option OptionRow
row_by_name table name = find (λ row. bytes_eq row.name name) table

-- a text of the list is in it once more
abbrev pub repeats : List Text → Bool
repeats [] = false
repeats (text ∷ rest) = list_any (bytes_eq text) rest || repeats rest

-- not empty, and without `=` (61)
abbrev pub is_option_name : Text → Bool
is_option_name [] = false
is_option_name (b ∷ bs) = list_all (λ x. not (x == 61)) (b ∷ bs)

abbrev pub names_of : List OptionRow → List Text
names_of table = map (λ row. row.name) table

-- each option has a name of its own
abbrev pub is_table : List OptionRow → Bool
is_table table = list_all is_option_name (names_of table) && not (repeats (names_of table))
