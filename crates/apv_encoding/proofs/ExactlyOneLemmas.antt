-- Lists of items of which there is exactly one at each place.
use Rattle.std.proofs.Common.{◌≡◌, ℕ, zero, suc, ◌<◌, List, [], ◌∷◌, length, get_or, refl, ap₂, arith}
use Rattle.apv_base.specs.laws.Answer.{HasExactlyOne}

-- a list of n items, with a property at each place
abbrev pub IsListOf : {A : Type 0} → (ℕ → A → Type 0) → A → ℕ → List A → Type 0
IsListOf {A} P d n xs = (length xs ≡ n) × ((i : ℕ) → i < n → P i (get_or xs i d))

-- what says the same of each item is of exactly one
pub one-by : {A : Type 0} (P Q : A → Type 0) → ((a : A) → P a → Q a) → ((a : A) → Q a → P a) → HasExactlyOne P → HasExactlyOne Q
one-by P Q there back h = record { one = h.one; is = there h.one h.is; only = λ other has. h.only other (back other has) }

-- of exactly one thing two are equal
pub one-same : {A : Type 0} (P : A → Type 0) → HasExactlyOne P → (a b : A) → P a → P b → a ≡ b
one-same P h a b p q = let e = h.only a p in let f = h.only b q in cc

no-items : {A : Type 0} (xs : List A) → length xs ≡ 0 → xs ≡ []
no-items [] e = refl
no-items (x ∷ xs) e = absurd (omega arith)

list-more : {A : Type 0} (P : ℕ → A → Type 0) (d x : A) (n : ℕ) (xs : List A) → P 0 x → IsListOf (λ i. P (suc i)) d n xs → (i : ℕ) → i < suc n → P i (get_or (x ∷ xs) i d)
list-more P d x n xs here more zero lt = here
list-more P d x n xs here more (suc i) lt = more.1 i (omega arith)

list-same : {A : Type 0} (P : ℕ → A → Type 0) (d : A) (n : ℕ) (x : A) (xs others : List A) → ((y : A) → P 0 y → y ≡ x) → ((ys : List A) → IsListOf (λ i. P (suc i)) d n ys → ys ≡ xs) → IsListOf P d (suc n) others → others ≡ x ∷ xs
list-same P d n x xs [] first later has = absurd (omega (arith, has.0))
list-same {A} P d n x xs (y ∷ ys) first later has =
    ap₂ (λ (a : A) (b : List A). a ∷ b) (first y (has.1 0 (omega arith))) (later ys (omega (arith, has.0), λ i lt. has.1 (suc i) (omega arith)))

-- exactly one list has items of which there is exactly one at each place
pub one-list : {A : Type 0} (P : ℕ → A → Type 0) (d : A) (n : ℕ) → ((i : ℕ) → i < n → HasExactlyOne (P i)) → HasExactlyOne (IsListOf P d n)
one-list P d zero each = record { one = []; is = (refl, λ i lt. absurd (omega arith)); only = λ other has. no-items other has.0 }
one-list P d (suc n) each =
    let first = each 0 (omega arith) in
    let later = one-list (λ i. P (suc i)) d n (λ i lt. each (suc i) (omega arith)) in
    record {
      one = first.one ∷ later.one;
      is = (omega (arith, later.is.0), list-more P d first.one n later.one first.is later.is);
      only = λ other has. list-same P d n first.one later.one other first.only later.only has;
    }
