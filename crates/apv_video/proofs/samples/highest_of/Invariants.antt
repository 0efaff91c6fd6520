use Rattle.std.proofs.Common.{get_or}
use Rattle.apv_video.specs.Reads.{AreValuesBelow, IsHighest}
use Rattle.apv_video.proofs.samples.highest_of.Given as goal

-- the highest so far
abbrev pub invariant-loop-sample : goal.invariant-loop-sample
invariant-loop-sample l = IsHighest (AreValuesBelow (λ i. get_or l.samples i 0) l.sample-index) l.highest
