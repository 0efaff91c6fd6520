-- The options of the editor's commands.
use Rattle.std.specs.Prelude.{List, [], ◌∷◌, codes}
use Rattle.apv_base.specs.declared.options.Opt.TheVariants as opts
use Rattle.apv_words.specs.Encoder.{from_to}
use Rattle.apv_words.specs.Table.{Below, Name, NameOrDash, Number, OptionRow, Required, ValueKind}
use Rattle.apv_words.specs.Table.{optional, required, row}

abbrev pub input_row : OptionRow
input_row = required opts.Input (codes "input") NameOrDash

abbrev pub output_row : OptionRow
output_row = required opts.Output (codes "output") NameOrDash

-- the number of an access unit
abbrev pub unit_number : ValueKind
unit_number = Number (from_to 0 4294967295)

abbrev pub edit_list_table : List OptionRow
edit_list_table = input_row ∷ output_row ∷ []

abbrev pub edit_cut_table : List OptionRow
edit_cut_table =
    input_row ∷ output_row
    ∷ required opts.From (codes "from") unit_number
    ∷ row opts.To (codes "to") unit_number Required (Below (codes "from") ∷ [])
    ∷ []

abbrev pub edit_join_table : List OptionRow
edit_join_table = input_row ∷ required opts.Second (codes "second") Name ∷ output_row ∷ []

abbrev pub edit_meta_table : List OptionRow
edit_meta_table = input_row ∷ output_row ∷ optional opts.Payloads (codes "payloads") Name ∷ []
