use Rattle.std.proofs.Common.{◌≡◌, ◌-◌, ◌*◌, ◌/◌, ◌^◌, take}
use Rattle.apv_base.specs.model.Bits.{bin, bits}
use Rattle.apv_bits.proofs.field.store.Given as goal

-- the bytes so far have the top bits of the number
abbrev pub invariant-loop-i : goal.invariant-loop-i
invariant-loop-i l = bits (take l.i l.bytes) ≡ bin (8 * l.i) (l.number / 2 ^ (8 * (l.len - l.i)))
