-- Why options that are given, each once, are refused: the first cause in the order of the table.
use Rattle.std.specs.Prelude.{◌≡◌, ◌⊎◌, Bool, true, false, not, ◌&&◌, List, find}
use Rattle.std.specs.Prelude.{Option, Some, None, if◌then◌else◌}
use Rattle.std.specs.List.{filter_map, list_all, list_any}
use Rattle.std.specs.Option.{option_map_or}
use Rattle.std.specs.Str.{bytes_eq}
use Rattle.apv_base.specs.declared.options.Opt.{Opt}
use Rattle.apv_base.specs.declared.options.UsageKind.{UsageKind}
use Rattle.apv_base.specs.declared.options.UsageKind.TheVariants.{Words, Value, Missing, Clash}
use Rattle.apv_base.specs.declared.options.UsageKind.TheVariants.{SameName}
use Rattle.apv_words.specs.Cut.{Cut, NoCut, Pair}
use Rattle.apv_words.specs.Given.{is_given, value_of}
use Rattle.apv_words.specs.Table.{Below, RowCondition, HasValue, LacksValue, With, Without}
use Rattle.apv_words.specs.Table.{Optional, Required, RequiredWhere, RowRequirement}
use Rattle.apv_words.specs.Table.{Name, NameOrDash, OptionRow, Text, ValueKind, repeats}
use Rattle.apv_words.specs.Values.{is_dash, is_good, is_smaller}

-- the name of a file that isn't standard input or output
abbrev pub own_name : ValueKind → Option Text → Option Text
own_name Name (Some name) = if is_dash name then None else Some name
own_name NameOrDash (Some name) = if is_dash name then None else Some name
own_name _ _ = None

abbrev pub file_names : (Text → Option Text) → List OptionRow → List Text
file_names value table = filter_map (λ row. own_name row.kind (value row.name)) table

-- the option of that row is the cause, or else what comes later
abbrev pub fault_or : (Opt → UsageKind) → Option OptionRow → Option UsageKind → Option UsageKind
fault_or kind (Some row) later = Some (kind row.opt)
fault_or kind None later = later

-- the value is that text
abbrev pub is_value : Text → Option Text → Bool
is_value text value = option_map_or (bytes_eq text) value false

-- the first number is below the second one, or below 0 where there is no second one; so none is then
abbrev pub is_below : Option Text → Option Text → Bool
is_below (Some own) (Some other) = is_smaller own other
is_below _ _ = false

-- by the value of each option, and whether it is given
module _ (value : Text → Option Text) (given : Text → Bool) where
  abbrev pub is_bad : OptionRow → Bool
  is_bad row = option_map_or (λ text. not (is_good row.kind text)) (value row.name) false

  -- the condition holds for the option of that name
  abbrev pub holds : Text → RowCondition → Bool
  holds name (With other) = given other
  holds name (Without other) = not (given other)
  holds name (HasValue other text) = is_value text (value other)
  holds name (LacksValue other text) = not (is_value text (value other))
  holds name (Below other) = is_below (value name) (value other)

  abbrev pub is_required_by : Text → RowRequirement → Bool
  is_required_by name Optional = false
  is_required_by name Required = true
  is_required_by name (RequiredWhere conditions) = list_all (holds name) conditions

  abbrev pub is_missing : OptionRow → Bool
  is_missing row = is_required_by row.name row.requirement && not (given row.name)

  abbrev pub is_clashing : OptionRow → Bool
  is_clashing row = given row.name && list_any (holds row.name) row.clashes

  abbrev pub same_name : List OptionRow → Option UsageKind
  same_name table = if repeats (file_names value table) then Some SameName else None

  abbrev pub clash : List OptionRow → Option UsageKind
  clash table = fault_or Clash (find is_clashing table) (same_name table)

  abbrev pub missing : List OptionRow → Option UsageKind
  missing table = fault_or Missing (find is_missing table) (clash table)

  abbrev pub fault_by : List OptionRow → Option UsageKind
  fault_by table = fault_or Value (find is_bad table) (missing table)

abbrev pub fault_of : List OptionRow → List Pair → Option UsageKind
fault_of table pairs = fault_by (value_of pairs) (is_given pairs) table

-- the words are refused for that cause: they can't be cut, or what they are cut into has that fault
abbrev pub HasFault : List OptionRow → List Text → UsageKind → Type 0
HasFault table words kind =
    ((kind ≡ Words) × NoCut table words)
    ⊎ ((pairs : List Pair) × Cut table words pairs × (fault_of table pairs ≡ Some kind))
