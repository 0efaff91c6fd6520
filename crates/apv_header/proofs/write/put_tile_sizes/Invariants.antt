use Rattle.std.proofs.Common.{◌≡◌, ◌-◌, ◌*◌, ◌≤◌, length, take}
use Rattle.std.specs.List.{flat_map}
use Rattle.apv_base.specs.model.Bits.{bin}
use Rattle.apv_bits.specs.Writer.{bits_after, slice_name, Appends}
use Rattle.apv_header.proofs.write.put_tile_sizes.Given as goal

-- the sizes so far are written, and there is room for those left
abbrev pub invariant-loop-size : goal.invariant-loop-size
invariant-loop-size l = record {
  room : 32 * (length l.sizes - l.size-index) ≤ length (bits_after l.writer);
  appends : Appends l.initial.writer l.writer (flat_map (bin 32) (take l.size-index l.sizes));
  slice : slice_name l.writer ≡ slice_name l.initial.writer;
}
