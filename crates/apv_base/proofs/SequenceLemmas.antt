-- Items one after another: one more at the end, and that a row has one prefix.
use Rattle.std.proofs.Common.{◌≡◌, ◌≢◌, ℕ, List, [], ◌∷◌, ◌++◌, refl, sym, ap₂, ◌∙◌, subst}
use Rattle.apv_base.specs.model.Sequence.{Sequence}

-- one more item
pub sequence-push : {A : Type 0} (At : List ℕ → A → List ℕ → Type 0) (xs ys zs : List ℕ) (items : List A) (item : A) → Sequence At xs items ys → At ys item zs → Sequence At xs (items ++ item ∷ []) zs
sequence-push At xs ys zs [] item row at = (zs, subst (λ (x : List ℕ). At x item zs) (sym row) at, refl)
sequence-push At xs ys zs (first ∷ items) item row at = (row.0, row.1, sequence-push At row.0 ys zs items item row.2 at)

-- rows one after another
pub sequence-append : {A : Type 0} (At : List ℕ → A → List ℕ → Type 0) (xs ys zs : List ℕ) (items more : List A) → Sequence At xs items ys → Sequence At ys more zs → Sequence At xs (items ++ more) zs
sequence-append At xs ys zs [] more row next = subst (λ (x : List ℕ). Sequence At x more zs) (sym row) next
sequence-append At xs ys zs (first ∷ items) more row next = (row.0, row.1, sequence-append At row.0 ys zs items more row.2 next)

-- the same with the lists as they are named
pub sequence-along : {A : Type 0} (At : List ℕ → A → List ℕ → Type 0) (xs ys zs : List ℕ) (items : List A) → ys ≡ zs → Sequence At xs items ys → Sequence At xs items zs
sequence-along At xs ys zs items e row = subst (λ (r : List ℕ). Sequence At xs items r) e row

-- a row that isn't at its end begins with an item
pub sequence-begins : {A : Type 0} (At : List ℕ → A → List ℕ → Type 0) (xs rest : List ℕ) (items : List A) → Sequence At xs items rest → xs ≢ rest → (item : A) × (more : List A) × (after : List ℕ) × (items ≡ item ∷ more) × At xs item after × Sequence At after more rest
sequence-begins At xs rest [] row ne = absurd (ne row)
sequence-begins At xs rest (item ∷ items) row ne = (item, items, row.0, refl, row.1, row.2)

-- at most one item is at the start of a list, and it ends at one place
abbrev pub HasOneItem : {A : Type 0} → (List ℕ → A → List ℕ → Type 0) → Type 0
HasOneItem {A} At = (xs : List ℕ) (a b : A) (ys zs : List ℕ) → At xs a ys → At xs b zs → (a ≡ b) × (ys ≡ zs)

-- a sequence after which there is no item is the only one
pub sequence-one : {A : Type 0} (At : List ℕ → A → List ℕ → Type 0) → HasOneItem At → (xs ys zs : List ℕ) (us vs : List A) → Sequence At xs us ys → Sequence At xs vs zs
    → ((a : A) (after : List ℕ) → At ys a after → ⊥) → ((b : A) (after : List ℕ) → At zs b after → ⊥) → (us ≡ vs) × (ys ≡ zs)
sequence-one At one xs ys zs [] [] r s f g = (refl, sym r ∙ s)
sequence-one At one xs ys zs [] (b ∷ vs) r s f g = absurd (f b s.0 (subst (λ (x : List ℕ). At x b s.0) r s.1))
sequence-one At one xs ys zs (a ∷ us) [] r s f g = absurd (g a r.0 (subst (λ (x : List ℕ). At x a r.0) s r.1))
sequence-one {A} At one xs ys zs (a ∷ us) (b ∷ vs) r s f g =
    let same = one xs a b r.0 s.0 r.1 s.1 in
    let next = sequence-one At one r.0 ys zs us vs r.2 (subst (λ (x : List ℕ). Sequence At x vs zs) (sym same.1) s.2) f g in
    (ap₂ (λ (x : A) (y : List A). x ∷ y) same.0 next.0, next.1)
