use Rattle.std.proofs.Common.{◌≡◌, ◌-◌}
use Rattle.apv_generated.specs.Video.{left_of}
use Rattle.apv_generated.proofs.video.GeneratedVideo.refill.Given as goal

-- the same bytes are left
abbrev pub invariant-loop-self : goal.invariant-loop-self
invariant-loop-self l = left_of l.self ≡ left_of l.initial.self

-- as many pictures may be made
abbrev pub decreases-loop-self : goal.decreases-loop-self
decreases-loop-self l = 8 - l.self.number
