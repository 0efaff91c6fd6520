use Rattle.std.proofs.Common.{◌≡◌, drop, find}
use Rattle.apv_words.specs.Fault.{is_missing}
use Rattle.apv_words.specs.Options.{holds_in, table_in}
use Rattle.apv_words.specs.View.{table_view}
use Rattle.apv_words.proofs.reading.Options.first_missing.Given as goal

abbrev pub invariant-loop-row : goal.invariant-loop-row
invariant-loop-row l =
    find (holds_in is_missing l.self) (table_view (drop l.row-index l.self.table.now)) ≡ find (holds_in is_missing l.self) (table_in l.self)
