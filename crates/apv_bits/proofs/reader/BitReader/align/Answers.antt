use Rattle.std.proofs.Common.{refl}
use Rattle.apv_bits.proofs.ReaderLemmas.{padded_zero, padded_not_zero}
use Rattle.apv_bits.proofs.reader.BitReader.align.Goals as goal

pub returns-then-skipped-ne0-clause-not_zero : goal.returns-then-skipped-ne0-clause-not_zero
returns-then-skipped-ne0-clause-not_zero c =
    let p = padded_not_zero c.self.inside.bytes.now c.self.inside.place c.field-skipped.result c.args.self.now c.self.view_is c.field-skipped.ensures.bits c.field-skipped.ensures.small in
    (λ _. p.0 c.if-skipped-ne0.true, λ _. refl)

pub returns-clause-ok : goal.returns-clause-ok
returns-clause-ok c =
    padded_zero c.self.inside.bytes.now c.self.inside.place c.field-skipped.result c.args.self.now c.self.view_is c.field-skipped.ensures.bits c.if-skipped-ne0.false

pub returns-clause-not_zero : goal.returns-clause-not_zero
returns-clause-not_zero c =
    let p = padded_not_zero c.self.inside.bytes.now c.self.inside.place c.field-skipped.result c.args.self.now c.self.view_is c.field-skipped.ensures.bits c.field-skipped.ensures.small in
    (λ e. cc, λ has. absurd (p.1 has c.if-skipped-ne0.false))
