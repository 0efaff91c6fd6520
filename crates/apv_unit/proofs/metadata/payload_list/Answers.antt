use Rattle.std.proofs.Common.{arith, ◌≡◌, ◌∙◌, drop, take, length, List, ℕ, refl, ap, sym, subst}
use Rattle.apv_base.specs.model.Payload.{ArePayloads}
use Rattle.apv_base.specs.model.Bits.{number, AreBytes}
use Rattle.apv_base.proofs.DigitsLemmas.{digits-drop, digits-take}
use Rattle.apv_base.proofs.PayloadLemmas.{payloads-spelled}
use Rattle.apv_base.proofs.UnitLemmas.{metadata-parts}
use Rattle.apv_unit.proofs.metadata.payload_list.Goals as goal

pub split_at-requires : goal.split_at-requires
split_at-requires c = (metadata-parts _ _ _ c.requires.1.walked).long

pub split_at-requires-2 : goal.split_at-requires-2
split_at-requires-2 c =
    let parts = metadata-parts _ _ _ c.requires.1.walked in
    let size : c.be32-size.result ≡ number 256 (take 4 c.args.body.now) = c.be32-size.ensures in
    omega (arith, parts.fits, parts.is, size, ap (length {A = ℕ}) c.split_at.ensures.back)

pub returns : goal.returns
returns c ps is =
    let body : List ℕ = c.args.body.now in
    let parts = metadata-parts _ _ _ is.walked in
    let size : c.be32-size.result ≡ number 256 (take 4 body) = c.be32-size.ensures in
    let list : c.split_at-2.result.0.now ≡ take is.size is.rest = rw (c.split_at-2.ensures.front, c.split_at.ensures.back, parts.is, parts.after, size) refl in
    let bytes : AreBytes (take is.size (drop 4 body)) = digits-take 256 is.size (drop 4 body) (omega arith) (digits-drop 256 4 body (λ i. omega (arith, c.type_inv.body i))) in (
      list ∙ payloads-spelled (take is.size is.rest) ps (rw parts.after bytes) is.whole,
      subst (λ (xs : List ℕ). ArePayloads xs ps) (sym list) is.whole,
      omega (arith, c.split_at-2.ensures.front_len, c.split_at.ensures.back_len),
    )
