-- The cases of the code, and that no word begins another.
use Rattle.std.proofs.Common.{◌≡◌, ℕ, zero, suc, ◌+◌, ◌-◌, ◌*◌, ◌/◌, ◌^◌, ◌<◌, ◌≤◌, List, [], ◌∷◌, ◌++◌, length, replicate, refl, sym, ap, ap₂, ◌∙◌, arith, append_assoc, length-append, append-nil, ⊎_elim}
use Rattle.std.proofs.lemmas.Nat.{pow_pos, leading_top}
use Rattle.std.proofs.lemmas.Bool.{cases_lt, lt-ltb, le-ltb}
use Rattle.std.proofs.Math.Nat.{pow-suc, pow-le-pow_right}
use lib.Count.{count_leading_zeros}
use Rattle.apv_base.specs.model.Bits.{bin}
use Rattle.apv_base.specs.model.CodeWord.{halvings, log_2, long_word_base, zeros_of, long_word, code_word, HasValue, EndsInside}
use Rattle.apv_base.specs.laws.CodeWord.{IsPrefixFree, HasOneReading}
use Rattle.apv_base.proofs.BitsLemmas.{same_prefixes}

one_zero : ◌≡◌ {A = ℕ} 1 0 → ⊥
one_zero e = omega arith

pub pow_le : (i j : ℕ) → i ≤ j → 2 ^ i ≤ 2 ^ j
pow_le i j h = pow-le-pow_right {n = 2} (omega arith) h

self_lt_pow : (n : ℕ) → n < 2 ^ n
self_lt_pow zero = omega arith
self_lt_pow (suc n) = omega (arith, self_lt_pow n, pow-suc 2 n, pow_pos n)

pow_order : (i j n : ℕ) → 2 ^ i ≤ n → n < 2 ^ suc j → i ≤ j
pow_order i j n low high =
    ⊎_elim (λ (lt : j < i). absurd (omega (arith, pow_le (suc j) i lt))) (λ (le : i ≤ j). le) (cases_lt j i)

halvings_is : (most n j : ℕ) → j ≤ most → 2 ^ j ≤ n → n < 2 ^ suc j → halvings most n ≡ j
unfolding halvings
halvings_is zero n j le low high = omega arith
halvings_is (suc most) n zero le low high = rw (lt-ltb n 2 (omega arith)) refl
halvings_is (suc most) n (suc j) le low high =
    let half : halvings most (n / 2) ≡ j =
    halvings_is most (n / 2) j (omega arith) (omega (arith, pow-suc 2 j)) (omega (arith, pow-suc 2 (suc j))) in
    rw (le-ltb n 2 (omega (arith, pow-suc 2 j, pow_pos j)), half) refl

log_2_is : (n j : ℕ) → 2 ^ j ≤ n → n < 2 ^ suc j → log_2 n ≡ j
log_2_is n j low high = halvings_is n n j (omega (arith, self_lt_pow j)) low high

zeros_of_is : (k j r : ℕ) → r < 2 ^ (k + j) → zeros_of k (long_word_base k j + r) ≡ j
unfolding zeros_of
zeros_of_is k j r h =
    let e : 2 ^ k + 2 ^ (k + j) + r - 2 ^ k ≡ 2 ^ (k + j) + r = omega arith in
    let l : log_2 (2 ^ (k + j) + r) ≡ k + j = log_2_is (2 ^ (k + j) + r) (k + j) (omega arith) (omega (arith, pow-suc 2 (k + j))) in
    rw (e, l) (omega arith)

pub first_word : (k r : ℕ) → r < 2 ^ k → code_word k r ≡ 1 ∷ bin k r
unfolding code_word
first_word k r h = rw (lt-ltb r (2 ^ k) h) refl

pub second_word : (k r : ℕ) → r < 2 ^ k → code_word k (2 ^ k + r) ≡ 0 ∷ 0 ∷ bin k r
unfolding code_word
second_word k r h =
    let e : 2 ^ k + r - 2 ^ k ≡ r = omega arith in
    rw (le-ltb (2 ^ k + r) (2 ^ k) (omega arith), lt-ltb (2 ^ k + r) (2 * 2 ^ k) (omega arith), e) refl

pub further_word : (k j r : ℕ) → r < 2 ^ (k + j) → code_word k (long_word_base k j + r) ≡ long_word k j r
unfolding code_word
further_word k j r h =
    let p : 2 ^ k ≤ 2 ^ (k + j) = pow_le k (k + j) (omega arith) in
    let e : long_word_base k j + r - long_word_base k j ≡ r = omega arith in
    rw (le-ltb (long_word_base k j + r) (2 ^ k) (omega arith), le-ltb (long_word_base k j + r) (2 * 2 ^ k) (omega arith), zeros_of_is k j r h, e) refl

-- which of the three forms the word of v has
pub data Form (k v : ℕ) : Type 0 where
  first : v < 2 ^ k → Form k v
  second : (r : ℕ) → r < 2 ^ k → v ≡ 2 ^ k + r → Form k v
  further : (j r : ℕ) → r < 2 ^ (k + j) → v ≡ long_word_base k j + r → Form k v

-- a number from 2 ^ k on has its highest 1 at k or above
log_2_bounds : (k n : ℕ) → 2 ^ k ≤ n → (j : ℕ) × (2 ^ (k + j) ≤ n) × (n < 2 ^ suc (k + j))
log_2_bounds k n low =
    let top : (i : ℕ) × (count_leading_zeros n n + suc i ≡ n) × (2 ^ i ≤ n) × (n < 2 ^ suc i) =
    leading_top n n (omega (arith, pow_pos k)) (self_lt_pow n) in
    let le : k ≤ top.0 = pow_order k top.0 n low top.3 in
    let e : k + (top.0 - k) ≡ top.0 = omega arith in
    (top.0 - k, rw e top.2, rw e top.3)

pub form : (k v : ℕ) → Form k v
form k v =
    ⊎_elim (λ (lt : v < 2 ^ k). first lt)
    (λ (le : 2 ^ k ≤ v). ⊎_elim
    (λ (lt : v < 2 * 2 ^ k). second (v - 2 ^ k) (omega arith) (omega arith))
    (λ (ge : 2 * 2 ^ k ≤ v).
    let b : (j : ℕ) × (2 ^ (k + j) ≤ v - 2 ^ k) × (v - 2 ^ k < 2 ^ suc (k + j)) = log_2_bounds k (v - 2 ^ k) (omega arith) in
    further b.0 (v - long_word_base k b.0) (omega (arith, pow-suc 2 (k + b.0))) (omega arith))
    (cases_lt v (2 * 2 ^ k)))
    (cases_lt v (2 ^ k))

-- runs of zeros, each ended by a 1, that begin one list are equal
run_same : (i j : ℕ) (x y : List ℕ) → replicate i 0 ++ 1 ∷ x ≡ replicate j 0 ++ 1 ∷ y → (i ≡ j) × (x ≡ y)
run_same zero zero x y e = (refl, cc)
run_same zero (suc j) x y e = absurd (one_zero cc)
run_same (suc i) zero x y e = absurd (one_zero cc)
run_same (suc i) (suc j) x y e = let both : (i ≡ j) × (x ≡ y) = run_same i j x y cc in (ap suc both.0, both.1)

-- the word of v in its form
pub word_first : (k v : ℕ) → v < 2 ^ k → code_word k v ≡ 1 ∷ bin k v
word_first k v h = first_word k v h

pub word_second : (k v r : ℕ) → r < 2 ^ k → v ≡ 2 ^ k + r → code_word k v ≡ 0 ∷ 0 ∷ bin k r
word_second k v r h e = ap (code_word k) e ∙ second_word k r h

pub word_further : (k v j r : ℕ) → r < 2 ^ (k + j) → v ≡ long_word_base k j + r → code_word k v ≡ long_word k j r
word_further k v j r h e = ap (code_word k) e ∙ further_word k j r h

joined : (a b c d x y : List ℕ) → a ≡ c → b ≡ d → a ++ x ≡ b ++ y → c ++ x ≡ d ++ y
joined a b c d x y p q e = cc

tails : {a b c d : ℕ} {x y : List ℕ} → a ∷ b ∷ x ≡ c ∷ d ∷ y → x ≡ y
tails e = cc

long_same : (k i r j s : ℕ) (x y : List ℕ) → r < 2 ^ (k + i) → s < 2 ^ (k + j) → long_word k i r ++ x ≡ long_word k j s ++ y
    → (long_word_base k i + r ≡ long_word_base k j + s) × (x ≡ y)
long_same k i r j s x y hr hs e =
    let run : (i ≡ j) × (bin (k + i) r ++ x ≡ bin (k + j) s ++ y) =
    run_same i j (bin (k + i) r ++ x) (bin (k + j) s ++ y)
    (sym (append_assoc (replicate i 0) (1 ∷ bin (k + i) r) x) ∙ tails e ∙ append_assoc (replicate j 0) (1 ∷ bin (k + j) s) y) in
    let hs' : s < 2 ^ (k + i) = rw run.0 hs in
    let e' : bin (k + i) r ++ x ≡ bin (k + i) s ++ y = run.1 ∙ ap (λ n. bin (k + n) s ++ y) (sym run.0) in
    let both : (r ≡ s) × (x ≡ y) = same_prefixes (k + i) r s x y hr hs' e' in
    (ap₂ (λ m n. long_word_base k m + n) run.0 both.0, both.1)

prefix_free_by : (k v w : ℕ) (x y : List ℕ) → Form k v → Form k w → code_word k v ++ x ≡ code_word k w ++ y → (v ≡ w) × (x ≡ y)
prefix_free_by k v w x y (first a) (first b) e =
    let e' : 1 ∷ (bin k v ++ x) ≡ 1 ∷ (bin k w ++ y) = joined _ _ _ _ x y (word_first k v a) (word_first k w b) e in
    same_prefixes k v w x y a b cc
prefix_free_by k v w x y (first a) (second s b f) e =
    let e' : 1 ∷ (bin k v ++ x) ≡ 0 ∷ 0 ∷ (bin k s ++ y) = joined _ _ _ _ x y (word_first k v a) (word_second k w s b f) e in
    absurd (one_zero cc)
prefix_free_by k v w x y (first a) (further j s b f) e =
    let e' : 1 ∷ (bin k v ++ x) ≡ long_word k j s ++ y = joined _ _ _ _ x y (word_first k v a) (word_further k w j s b f) e in
    absurd (one_zero cc)
prefix_free_by k v w x y (second r a d) (first b) e =
    let e' : 0 ∷ 0 ∷ (bin k r ++ x) ≡ 1 ∷ (bin k w ++ y) = joined _ _ _ _ x y (word_second k v r a d) (word_first k w b) e in
    absurd (one_zero cc)
prefix_free_by k v w x y (second r a d) (second s b f) e =
    let e' : 0 ∷ 0 ∷ (bin k r ++ x) ≡ 0 ∷ 0 ∷ (bin k s ++ y) = joined _ _ _ _ x y (word_second k v r a d) (word_second k w s b f) e in
    let both : (r ≡ s) × (x ≡ y) = same_prefixes k r s x y a b cc in
    (d ∙ ap (λ n. 2 ^ k + n) both.0 ∙ sym f, both.1)
prefix_free_by k v w x y (second r a d) (further j s b f) e =
    let e' : 0 ∷ 0 ∷ (bin k r ++ x) ≡ long_word k j s ++ y = joined _ _ _ _ x y (word_second k v r a d) (word_further k w j s b f) e in
    absurd (one_zero cc)
prefix_free_by k v w x y (further i r a d) (first b) e =
    let e' : long_word k i r ++ x ≡ 1 ∷ (bin k w ++ y) = joined _ _ _ _ x y (word_further k v i r a d) (word_first k w b) e in
    absurd (one_zero cc)
prefix_free_by k v w x y (further i r a d) (second s b f) e =
    let e' : long_word k i r ++ x ≡ 0 ∷ 0 ∷ (bin k s ++ y) = joined _ _ _ _ x y (word_further k v i r a d) (word_second k w s b f) e in
    absurd (one_zero cc)
prefix_free_by k v w x y (further i r a d) (further j s b f) e =
    let e' : long_word k i r ++ x ≡ long_word k j s ++ y = joined _ _ _ _ x y (word_further k v i r a d) (word_further k w j s b f) e in
    let both : (long_word_base k i + r ≡ long_word_base k j + s) × (x ≡ y) = long_same k i r j s x y a b e' in
    (d ∙ both.0 ∙ sym f, both.1)

-- no word begins another: from one list of bits at most one word is read
pub prefix_free : (k v w : ℕ) (x y : List ℕ) → code_word k v ++ x ≡ code_word k w ++ y → (v ≡ w) × (x ≡ y)
prefix_free k v w x y e = prefix_free_by k v w x y (form k v) (form k w) e

pub is_prefix_free : (k : ℕ) → IsPrefixFree (code_word k)
is_prefix_free k v w rest e = (prefix_free k v w rest [] (sym e ∙ sym (append-nil (code_word k w)))).0

-- of each code in which no word begins another, in the stronger form
module _ (word : ℕ → List ℕ) (free : (v w : ℕ) (x y : List ℕ) → word v ++ x ≡ word w ++ y → (v ≡ w) × (x ≡ y)) where
  one_value : (limit : ℕ) (b : List ℕ) (v w : ℕ) → HasValue word limit b v → HasValue word limit b w → v ≡ w
  one_value limit b v w (hv, (x, ex)) (hw, (y, ey)) = (free v w x y (sym ex ∙ ey)).0

  not_inside : (limit : ℕ) (b : List ℕ) (v : ℕ) → HasValue word limit b v → ¬ EndsInside word limit b
  not_inside limit b v (hv, (x, ex)) (w, hw, (y, pos, ey)) =
      let e : word w ++ [] ≡ word v ++ (x ++ y) = append-nil (word w) ∙ ey ∙ ap (λ c. c ++ y) ex ∙ append_assoc (word v) x y in
      let both : (w ≡ v) × ([] ≡ x ++ y) = free w v [] (x ++ y) e in
      absurd (omega (arith, ap length both.1, length-append x y))

  pub one_reading : HasOneReading word
  one_reading = record { value = one_value; ends = not_inside }

pub code_word_reading : (k : ℕ) → HasOneReading (code_word k)
code_word_reading k = one_reading (code_word k) (prefix_free k)
