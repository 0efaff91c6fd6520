use Rattle.std.proofs.Common.{◌≡◌, ◌*◌, ◌^◌, ◌<◌, take}
use Rattle.apv_base.specs.model.Bits.{bin, bits}
use Rattle.apv_bits.proofs.field.number.Given as goal

-- the number has the bits of the bytes so far
abbrev pub invariant-loop-byte : goal.invariant-loop-byte
invariant-loop-byte l = record {
  small : l.all < 2 ^ (8 * l.byte-index);
  bits : bits (take l.byte-index l.bytes) ≡ bin (8 * l.byte-index) l.all;
}
