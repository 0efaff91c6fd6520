use Rattle.std.proofs.Common.{◌≡◌, ◌*◌, take}
use Rattle.std.specs.List.{flat_map}
use Rattle.apv_base.specs.model.Picture.{low_first}
use Rattle.apv_video.proofs.samples.samples_to_bytes.Given as goal

-- the samples so far are bytes
abbrev pub invariant-loop-i : goal.invariant-loop-i
invariant-loop-i l = take (2 * l.i) l.bytes ≡ flat_map low_first (take l.i l.samples)
