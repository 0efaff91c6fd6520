use Rattle.std.proofs.Common.{◌≡◌}
use Rattle.apv_video.proofs.tests.fill.Given as goal

abbrev pub invariant-loop-comp : goal.invariant-loop-comp
invariant-loop-comp l = l.frame.grid ≡ l.initial.frame.grid
