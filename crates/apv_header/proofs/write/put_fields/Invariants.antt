use Rattle.std.proofs.Common.{◌≡◌, ◌≤◌, length, take, drop}
use Rattle.apv_bits.specs.Writer.{bits_after, slice_name, Appends}
use Rattle.apv_header.specs.Words.{AreFields, fields_word, fields_bits}
use Rattle.apv_header.proofs.write.put_fields.Given as goal

-- the fields so far are written, and there is room for those left
abbrev pub invariant-loop-value : goal.invariant-loop-value
invariant-loop-value l = record {
  fields : AreFields (drop l.value-index l.fields);
  room : fields_bits (drop l.value-index l.fields) ≤ length (bits_after l.writer);
  appends : Appends l.initial.writer l.writer (fields_word (take l.value-index l.fields));
  slice : slice_name l.writer ≡ slice_name l.initial.writer;
}
