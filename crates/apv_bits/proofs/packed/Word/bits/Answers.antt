use Rattle.std.proofs.Common.{◌≡◌, length, sym, ap, ◌∙◌}
use Rattle.apv_base.proofs.BitsLemmas.{length-bin}
use Rattle.apv_bits.proofs.packed.Word.bits.Goals as goal

pub returns-clause-small : goal.returns-clause-small
returns-clause-small c =
    let n : length c.args.self.now ≡ c.self.inside.len = ap length (sym c.self.view_is) ∙ length-bin c.self.inside.len c.self.inside.bits in
    rw n c.self.invariant.1

pub returns-clause-bits : goal.returns-clause-bits
returns-clause-bits c =
    let n : length c.args.self.now ≡ c.self.inside.len = ap length (sym c.self.view_is) ∙ length-bin c.self.inside.len c.self.inside.bits in
    rw n (sym c.self.view_is)
