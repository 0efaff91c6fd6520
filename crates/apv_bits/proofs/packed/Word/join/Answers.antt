use Rattle.std.proofs.Common.{◌≡◌, ◌+◌, ◌≤◌, ◌++◌, length, sym, ap, ap₂, ◌∙◌, arith}
use Rattle.apv_base.proofs.BitsLemmas.{length-bin}
use Rattle.apv_bits.proofs.PackedLemmas.{joined_small, joined_bits}
use Rattle.apv_bits.proofs.packed.Word.join.Goals as goal

pub invariant_of-result : goal.invariant_of-result
invariant_of-result c =
    let n : length c.args.self ≡ c.self.inside.len = ap length (sym c.self.view_is) ∙ length-bin c.self.inside.len c.self.inside.bits in
    let m : length c.args.after ≡ c.after.inside.len = ap length (sym c.after.view_is) ∙ length-bin c.after.inside.len c.after.inside.bits in
    let few : c.self.inside.len + c.after.inside.len ≤ 57 = omega arith in
    (few, joined_small c.self.inside.len c.after.inside.len c.self.inside.bits c.after.inside.bits few c.self.invariant.1 c.after.invariant.1)

pub returns-clause-bits : goal.returns-clause-bits
returns-clause-bits c =
    let n : length c.args.self ≡ c.self.inside.len = ap length (sym c.self.view_is) ∙ length-bin c.self.inside.len c.self.inside.bits in
    let m : length c.args.after ≡ c.after.inside.len = ap length (sym c.after.view_is) ∙ length-bin c.after.inside.len c.after.inside.bits in
    let few : c.self.inside.len + c.after.inside.len ≤ 57 = omega arith in
    joined_bits c.self.inside.len c.after.inside.len c.self.inside.bits c.after.inside.bits few c.self.invariant.1 c.after.invariant.1
    ∙ ap₂ (λ a b. a ++ b) c.self.view_is c.after.view_is

pub returns-clause-len : goal.returns-clause-len
returns-clause-len c =
    let n : length c.args.self ≡ c.self.inside.len = ap length (sym c.self.view_is) ∙ length-bin c.self.inside.len c.self.inside.bits in
    let m : length c.args.after ≡ c.after.inside.len = ap length (sym c.after.view_is) ∙ length-bin c.after.inside.len c.after.inside.bits in
    length-bin (c.self.inside.len + c.after.inside.len) _ ∙ ap₂ (λ a b. a + b) (sym n) (sym m)
