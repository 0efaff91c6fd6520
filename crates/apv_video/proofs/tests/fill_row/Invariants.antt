use Rattle.std.proofs.Common.{◌≡◌}
use Rattle.apv_video.proofs.tests.fill_row.Given as goal

abbrev pub invariant-loop-x : goal.invariant-loop-x
invariant-loop-x l = l.frame.grid ≡ l.initial.frame.grid
