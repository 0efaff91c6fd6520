use Rattle.std.proofs.Common.{◌≡◌}
use Rattle.apv_video.proofs.tests.fill_component.Given as goal

abbrev pub invariant-loop-y : goal.invariant-loop-y
invariant-loop-y l = l.frame.grid ≡ l.initial.frame.grid
