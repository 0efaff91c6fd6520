use Rattle.std.proofs.Common.{◌≡◌}
use Rattle.bench.proofs.grid.rows.frame_in.Given as goal

abbrev pub invariant-loop-comp : goal.invariant-loop-comp
invariant-loop-comp l = l.frame.grid ≡ l.initial.frame.grid
