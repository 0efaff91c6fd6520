use Rattle.std.proofs.Common.{◌≡◌, ℕ, ◌+◌, ◌*◌, ◌%◌, ◌^◌, ◌<◌, length, get_or, bit_or, refl, sym, arith}
use Rattle.apv_base.proofs.BitsLemmas.{bin-zero}
use Rattle.apv_bits.proofs.FieldLemmas.{eight_bytes, pushed, pushed_small, pushed_bits}
use Rattle.apv_bits.proofs.field.number.Goals as goal

pub loop-byte-init : goal.loop-byte-init
loop-byte-init c = record { small = omega arith; bits = sym (bin-zero 0) }

pub loop-byte-preserved : goal.loop-byte-preserved
loop-byte-preserved c =
    let i : ℕ = c.loop-byte.byte-index in
    let all : ℕ = c.loop-byte.all in
    let x : ℕ = get_or c.args.bytes.now i 0 in
    let within : c.loop-byte.byte-index < length c.args.bytes.now = omega arith in
    let small : get_or c.args.bytes.now c.loop-byte.byte-index 0 < 256 = omega (arith, c.type_inv.bytes c.loop-byte.byte-index) in
    let e : bit_or (all * 256 % 2 ^ 64) x ≡ all * 256 + x = pushed i all x (omega arith) c.loop-byte.invariant.small small in
    rw e (record {
      small = pushed_small i all x c.loop-byte.invariant.small small;
      bits = pushed_bits i all x c.args.bytes.now within refl small c.loop-byte.invariant.bits;
    })

pub returns-in-Some-clause-bits : goal.returns-in-Some-clause-bits
returns-in-Some-clause-bits c =
    eight_bytes c.args.bytes.now c.from_be_bytes.result c.in-Some.ensures.cases.long (λ i. omega (arith, c.type_inv.bytes i))
    (rw (← c.in-Some.ensures.cases.same) c.from_be_bytes.ensures)
