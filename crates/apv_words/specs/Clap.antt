-- The command that `clap` reads words by.
use Rattle.std.specs.Prelude.{◌≡◌, Bool, true, false, List, [], ◌∷◌, map, Some}
use Rattle.clap.specs.Simple.{App, Shape, new_rule, new_shape}
use Rattle.clap.specs.Walk.{Rule}
use Rattle.clap.specs.declared.builder.action.ArgAction.{ArgAction}
use Rattle.clap.specs.declared.builder.action.ArgAction.TheVariants.{Set, SetTrue}
use Rattle.apv_words.specs.Table.{OptionRow, Text, takes_value}

-- the rule of an option: `--name`, with a value or alone, neither required nor excluding anything
abbrev pub action_for : Bool → ArgAction
action_for true = Set
action_for false = SetTrue

abbrev pub plain_rule : Text → Bool → Rule
plain_rule name takes =
    record (new_rule name) { long = Some name; action = Some (action_for takes) }

abbrev pub plain_rules : List OptionRow → List Rule
plain_rules table = map (λ row. plain_rule row.name (takes_value row.kind)) table

-- these rules and no others, without help and version
abbrev pub shape_with : Text → List Rule → Shape
shape_with program rules = record (new_shape program) {
  rules = rules;
  disable_help_flag = true;
  disable_version_flag = true;
}

abbrev pub app_with : Text → List Rule → App
app_with program rules = record { top = shape_with program rules; subs = [] }

abbrev pub app_for : Text → List OptionRow → App
app_for program table = app_with program (plain_rules table)

-- the words are the program's name and then the rest
abbrev pub IsAfterProgram : List Text → List Text → Type 0
IsAfterProgram rest words = (program : Text) × (words ≡ program ∷ rest)
