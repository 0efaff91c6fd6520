use Rattle.std.proofs.Common.{◌≡◌, drop}
use Rattle.std.specs.List.{list_any}
use Rattle.std.specs.Str.{bytes_eq}
use Rattle.apv_words.specs.Fault.{file_names}
use Rattle.apv_words.specs.Options.{value_in}
use Rattle.apv_words.specs.View.{table_view}
use Rattle.apv_words.proofs.reading.Options.has_name.Given as goal

abbrev pub invariant-loop-row : goal.invariant-loop-row
invariant-loop-row l =
    list_any (bytes_eq l.name) (file_names (value_in l.self) (table_view (drop l.row-index l.rows)))
    ≡ list_any (bytes_eq l.name) (file_names (value_in l.self) (table_view l.rows))
