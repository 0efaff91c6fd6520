use Rattle.std.proofs.Common.{◌≡◌, ◌≤◌, length, take, drop}
use Rattle.std.specs.List.{concat}
use Rattle.apv_base.specs.model.Bits.{bits}
use Rattle.apv_bits.specs.Writer.{bits_after, slice_name, Appends}
use Rattle.apv_header.proofs.write.put_values.Given as goal

-- the matrices so far are written, and there is room for those left
abbrev pub invariant-loop-matrix : goal.invariant-loop-matrix
invariant-loop-matrix l = record {
  room : length (bits (concat (drop l.matrix-index l.matrices))) ≤ length (bits_after l.writer);
  appends : Appends l.initial.writer l.writer (bits (concat (take l.matrix-index l.matrices)));
  slice : slice_name l.writer ≡ slice_name l.initial.writer;
}
