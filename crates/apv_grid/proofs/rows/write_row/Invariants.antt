use Rattle.std.proofs.Common.{◌-◌, ◌≤◌, length}
use Rattle.apv_grid.specs.Buffer.{HasRow}
use Rattle.apv_grid.proofs.rows.write_row.Given as goal

abbrev pub invariant-loop-done : goal.invariant-loop-done
invariant-loop-done l = record { range : l.done ≤ length l.row; written : HasRow l.grid l.comp l.x l.y l.row l.done l.initial.values l.values }

abbrev pub decreases-loop-done : goal.decreases-loop-done
decreases-loop-done l = length l.row - l.done
