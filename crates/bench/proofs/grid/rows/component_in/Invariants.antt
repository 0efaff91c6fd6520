use Rattle.std.proofs.Common.{◌≡◌}
use Rattle.bench.proofs.grid.rows.component_in.Given as goal

abbrev pub invariant-loop-y : goal.invariant-loop-y
invariant-loop-y l = l.frame.grid ≡ l.initial.frame.grid
