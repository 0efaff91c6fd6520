use Rattle.std.proofs.Common.{◌-◌, ◌≤◌}
use Rattle.apv_grid.specs.Pad.{SetsRow, row_samples}
use Rattle.apv_grid.proofs.pad.copy_row.Given as goal

abbrev pub invariant-loop-x : goal.invariant-loop-x
invariant-loop-x l = record { range : l.x ≤ l.width; copied : SetsRow l.grid l.comp l.to 0 l.x (row_samples l.grid l.initial.values l.comp l.from) l.initial.values l.values }

abbrev pub decreases-loop-x : goal.decreases-loop-x
decreases-loop-x l = l.width - l.x
