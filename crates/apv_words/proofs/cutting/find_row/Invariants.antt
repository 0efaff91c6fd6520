use Rattle.std.proofs.Common.{◌≡◌, drop}
use Rattle.apv_words.specs.Table.{row_by_name}
use Rattle.apv_words.specs.View.{table_view}
use Rattle.apv_words.proofs.cutting.find_row.Given as goal

abbrev pub invariant-loop-row : goal.invariant-loop-row
invariant-loop-row l = row_by_name (table_view (drop l.row-index l.table)) l.name ≡ row_by_name (table_view l.table) l.name
