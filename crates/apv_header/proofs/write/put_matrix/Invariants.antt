use Rattle.std.proofs.Common.{◌≡◌, ◌-◌, ◌*◌, ◌<◌, ◌≤◌, length, take}
use Rattle.apv_base.specs.model.Bits.{bits}
use Rattle.apv_base.specs.model.Quant.{IsMatrix}
use Rattle.apv_bits.specs.Writer.{bits_after, slice_name, Appends}
use Rattle.apv_header.proofs.write.put_matrix.Given as goal

-- the values so far are written, and there is room for those left
abbrev pub invariant-loop-place : goal.invariant-loop-place
invariant-loop-place l = record {
  matrix : 0 < l.place → IsMatrix l.matrix;
  room : 8 * (length l.matrix - l.place) ≤ length (bits_after l.writer);
  appends : Appends l.initial.writer l.writer (bits (take l.place l.matrix));
  slice : slice_name l.writer ≡ slice_name l.initial.writer;
}
