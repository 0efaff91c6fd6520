use Rattle.std.proofs.Common.{◌*◌, ◌≤◌}
use Rattle.apv_enc.proofs.FixedSizeLemmas.{AreFixedSoFar}
use Rattle.apv_enc.proofs.unit.sizes.len_frames_fixed.Given as goal

abbrev pub invariant-loop-track : goal.invariant-loop-track
invariant-loop-track l = record { size : AreFixedSoFar l.tracks l.track-index l.total; few : l.total ≤ l.track-index * 65536 }
