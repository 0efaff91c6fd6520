use Rattle.std.proofs.Common.{◌≡◌, ◌*◌, length, take}
use Rattle.std.specs.List.{flat_map}
use Rattle.apv_base.specs.model.Picture.{low_first}
use Rattle.apv_video.proofs.samples.bytes_to_samples.Given as goal

-- the bytes so far are those of the samples so far
abbrev pub invariant-loop-i : goal.invariant-loop-i
invariant-loop-i l = record {
  size : length l.samples ≡ length l.initial.samples;
  here : flat_map low_first (take l.i l.samples) ≡ take (2 * l.i) l.bytes;
}
