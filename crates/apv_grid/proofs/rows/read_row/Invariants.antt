use Rattle.std.proofs.Common.{◌-◌, ◌≤◌, length}
use Rattle.apv_grid.specs.Buffer.{IsRow}
use Rattle.apv_grid.proofs.rows.read_row.Given as goal

abbrev pub invariant-loop-done : goal.invariant-loop-done
invariant-loop-done l = record { range : l.done ≤ length l.row; read : IsRow l.grid l.comp l.x l.y l.values l.done l.row }

abbrev pub decreases-loop-done : goal.decreases-loop-done
decreases-loop-done l = length l.row - l.done
