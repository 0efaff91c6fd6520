use Rattle.std.proofs.Common.{◌/◌, arith, add-zero, refl}
use Rattle.apv_base.proofs.BitsLemmas.{bin-zero}
use Rattle.apv_bits.proofs.FieldLemmas.{field_is}
use Rattle.apv_bits.proofs.field.field.Goals as goal

pub returns-clause-bits : goal.returns-clause-bits
returns-clause-bits c =
    field_is c.args.place c.args.n (c.args.place / 8) c.min-last.result c.number-window.result c.args.bytes.now
    c.requires.n (omega arith) (omega arith) (omega (arith, c.min-last.ensures)) (omega (arith, c.min-last.ensures)) (omega (arith, c.min-last.ensures))
    c.number-window.ensures.bits

pub returns-then-n-eq0-clause-bits : goal.returns-then-n-eq0-clause-bits
returns-then-n-eq0-clause-bits c = rw (c.if-n-eq0.true, add-zero, bin-zero 0) refl
