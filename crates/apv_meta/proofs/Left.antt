-- The first of the payloads that are left of a list.
use Rattle.std.proofs.Common.{◌≡◌, ◌≢◌, ℕ, ◌<◌, List, [], ◌∷◌, length, drop, ap, subst, ◌∙◌, arith, length-drop}
use Rattle.apv_base.specs.model.Payload.{Payload, PayloadAt, ArePayloads}
use Rattle.apv_base.proofs.SequenceLemmas.{sequence-begins}
use Rattle.apv_base.proofs.OneUnitLemmas.{one-payload}

pub some-left : (list : List ℕ) (place : ℕ) → place < length list → drop place list ≢ []
some-left list place lt e = omega (arith, ap (length {A = ℕ}) e, length-drop place list)

-- the payload at the place is the first, and the others are from the next place on
pub first-left : (list : List ℕ) (place next : ℕ) (p : Payload) (ps : List Payload) → place < length list → ArePayloads (drop place list) ps → PayloadAt (drop place list) p (drop next list)
    → (others : List Payload) × (ps ≡ p ∷ others) × ArePayloads (drop next list) others
first-left list place next p ps lt row at =
    let b = sequence-begins PayloadAt _ [] ps row (some-left list place lt) in
    let same = one-payload _ b.0 p b.2 _ b.4 at in
    (b.1, b.3 ∙ ap (λ (q : Payload). q ∷ b.1) same.0, subst (λ (xs : List ℕ). ArePayloads xs b.1) same.1 b.5)
