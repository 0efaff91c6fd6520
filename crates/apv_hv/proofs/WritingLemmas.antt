-- A code word as one or two numbers that are written.
use Rattle.std.proofs.Common.{◌≡◌, ℕ, suc, ◌+◌, ◌-◌, ◌*◌, ◌%◌, ◌^◌, ◌<◌, ◌≤◌, ◌++◌, length, replicate, [], ◌∷◌, refl, sym, ap, ap₂, ◌∙◌, ⊎_elim, arith}
use Rattle.std.proofs.Math.Nat.{pow-suc}
use Rattle.std.proofs.lemmas.Nat.{one_shl, pow-add}
use Rattle.std.proofs.lemmas.Bool.{cases_lt}
use Rattle.apv_base.specs.model.Bits.{digits, bin}
use Rattle.apv_base.specs.model.CodeWord.{code_word, long_word_base}
use Rattle.apv_base.proofs.BitsLemmas.{bin_push, length-bin, bin-zeros}
use Rattle.apv_base.proofs.CodeWordLemmas.{first_word, word_second, word_further, pow_le}

one_bit : bin 1 1 ≡ 1 ∷ []
unfolding digits
one_bit = refl

two_zeros : bin 2 0 ≡ 0 ∷ 0 ∷ []
unfolding digits
two_zeros = refl

zero_one : bin 2 1 ≡ 0 ∷ 1 ∷ []
unfolding digits
zero_one = refl

-- a 1 before k bits
one_prefix : (k r : ℕ) → r < 2 ^ k → bin (k + 1) (2 ^ k + r) ≡ 1 ∷ bin k r
one_prefix k r h =
    let n : k + 1 ≡ 1 + k = omega arith in
    let e : 2 ^ k + r ≡ 1 * 2 ^ k + r = omega arith in
    rw (n, e, bin_push 1 k 1 r h, one_bit) refl

pub first_is : (k v : ℕ) → v < 2 ^ k → code_word k v ≡ bin (k + 1) (2 ^ k + v)
first_is k v h = first_word k v h ∙ sym (one_prefix k v h)

pub second_is : (k v : ℕ) → 2 ^ k ≤ v → v - 2 ^ k < 2 ^ k → code_word k v ≡ bin (k + 2) (v - 2 ^ k)
second_is k v le h =
    let n : k + 2 ≡ 2 + k = omega arith in
    let e : v - 2 ^ k ≡ 0 * 2 ^ k + (v - 2 ^ k) = omega arith in
    let f : bin (2 + k) (0 * 2 ^ k + (v - 2 ^ k)) ≡ 0 ∷ 0 ∷ bin k (v - 2 ^ k) = rw (bin_push 2 k 0 (v - 2 ^ k) h, two_zeros) refl in
    word_second k v (v - 2 ^ k) h (omega arith) ∙ sym (ap₂ bin n e ∙ f)

pub further_is : (k v m : ℕ) → 2 ^ k ≤ v → 2 ^ k ≤ v - 2 ^ k → 2 ^ m ≤ v - 2 ^ k → v - 2 ^ k < 2 * 2 ^ m → k ≤ m
    → code_word k v ≡ bin 2 1 ++ bin (2 * m + 1 - k) (v - 2 ^ k)
further_is k v m le ge low high km =
    let j : ℕ = m - k in
    let r : ℕ = v - 2 ^ k - 2 ^ m in
    let kj : k + j ≡ m = omega arith in
    let small : r < 2 ^ m = omega arith in
    let small' : r < 2 ^ (k + j) = rw kj small in
    let is : v ≡ long_word_base k j + r = rw kj (omega arith) in
    let n : 2 * m + 1 - k ≡ j + (m + 1) = omega arith in
    let e : v - 2 ^ k ≡ 0 * 2 ^ (m + 1) + (2 ^ m + r) = omega arith in
    let lt : 2 ^ m + r < 2 ^ (m + 1) = rw (pow-add 2 m 1) (omega arith) in
    let f : bin (2 * m + 1 - k) (v - 2 ^ k) ≡ replicate j 0 ++ (1 ∷ bin m r) =
    ap₂ bin n e ∙ bin_push j (m + 1) 0 (2 ^ m + r) lt ∙ ap₂ (λ a b. a ++ b) (bin-zeros j) (one_prefix m r small) in
    word_further k v j r small' is ∙ ap (λ i. 0 ∷ 1 ∷ (replicate j 0 ++ 1 ∷ bin i r)) kj ∙ sym (ap₂ (λ a b. a ++ b) zero_one f)

-- ---- lengths

pub length-first : (k v : ℕ) → v < 2 ^ k → length (code_word k v) ≡ k + 1
length-first k v h = ap length (first_is k v h) ∙ length-bin (k + 1) (2 ^ k + v)

pub length-second : (k v : ℕ) → 2 ^ k ≤ v → v - 2 ^ k < 2 ^ k → length (code_word k v) ≡ k + 2
length-second k v le h = ap length (second_is k v le h) ∙ length-bin (k + 2) (v - 2 ^ k)

-- the highest 1 of a number from 2 ^ k on, below 2 ^ n
pub at_least : (k m u : ℕ) → 2 ^ k ≤ u → u < 2 * 2 ^ m → k ≤ m
at_least k m u low high =
    ⊎_elim (λ (lt : m < k). absurd (omega (arith, pow_le (suc m) k lt, pow-suc 2 m))) (λ (le : k ≤ m). le) (cases_lt m k)

pub highest_below : (m n u : ℕ) → 2 ^ m ≤ u → u < 2 ^ n → m < n
highest_below m n u low high =
    ⊎_elim (λ (lt : m < n). lt) (λ (le : n ≤ m). absurd (omega (arith, pow_le n m le))) (cases_lt m n)

pub fits_further : (k m u : ℕ) → u < 2 * 2 ^ m → k ≤ m → u < 2 ^ (2 * m + 1 - k)
fits_further k m u high le = omega (arith, pow_le (suc m) (2 * m + 1 - k) (omega arith), pow-suc 2 m)

-- the highest 1 of 2 ^ k
pub log_of_power : (k m : ℕ) → 2 ^ m ≤ 2 ^ k → 2 ^ k < 2 * 2 ^ m → m ≡ k
log_of_power k m low high = omega (arith, at_least k m (2 ^ k) (omega arith) high, highest_below m (suc k) (2 ^ k) low (omega (arith, pow-suc 2 k)))

-- ---- a further word as one number

module _ (k v m : ℕ) (hk : k ≤ 5) (le : 2 ^ k ≤ v) (ge : 2 ^ k ≤ v - 2 ^ k) (low : 2 ^ m ≤ v - 2 ^ k) (high : v - 2 ^ k < 2 * 2 ^ m) (small : v < 2 ^ 16) where
  pub further_log : k ≤ m
  further_log = at_least k m (v - 2 ^ k) ge high

  pub further_few : m < 16
  further_few = highest_below m 16 (v - 2 ^ k) low (omega arith)

  below : v - 2 ^ k < 2 ^ (2 * m + 1 - k)
  below = fits_further k m (v - 2 ^ k) high further_log

  whole : 1 * 2 ^ (2 * m + 1 - k) % 2 ^ 64 ≡ 1 * 2 ^ (2 * m + 1 - k)
  whole =
      let few : 2 * m + 1 - k < 64 = omega (arith, further_few) in
      one_shl (2 * m + 1 - k) 64 few ∙ (let e : 2 ^ (2 * m + 1 - k) ≡ 1 * 2 ^ (2 * m + 1 - k) = omega arith in e)

  pub further_number : 1 * 2 ^ (2 * m + 1 - k) % 2 ^ 64 + (2 ^ k + v - 1 * (2 * 2 ^ k)) ≡ 1 * 2 ^ (2 * m + 1 - k) + (v - 2 ^ k)
  further_number = omega (arith, whole)

  pub further_small : 1 * 2 ^ (2 * m + 1 - k) + (v - 2 ^ k) < 2 ^ (2 * m + 1 - k + 2)
  further_small = omega (arith, below, pow-add 2 (2 * m + 1 - k) 2)

  pub further_word : code_word k v ≡ bin (2 * m + 1 - k + 2) (1 * 2 ^ (2 * m + 1 - k) + (v - 2 ^ k))
  further_word =
      let n : 2 * m + 1 - k + 2 ≡ 2 + (2 * m + 1 - k) = omega arith in
      further_is k v m le ge low high further_log ∙ sym (ap (λ i. bin i (1 * 2 ^ (2 * m + 1 - k) + (v - 2 ^ k))) n ∙ bin_push 2 (2 * m + 1 - k) 1 (v - 2 ^ k) below)

-- ---- any word as one number

-- whether a value is 2 ^ k or more (s) and 2 * 2 ^ k or more (f), and the number of the highest 1 above (m)
pub data Parts (k v : ℕ) : ℕ → ℕ → ℕ → Type 0 where
  in_first : v < 2 ^ k → Parts k v k 0 0
  in_second : 2 ^ k ≤ v → v - 2 ^ k < 2 ^ k → Parts k v k 1 0
  in_further : (m : ℕ) → 2 ^ k ≤ v → 2 ^ k ≤ v - 2 ^ k → 2 ^ m ≤ v - 2 ^ k → v - 2 ^ k < 2 * 2 ^ m → Parts k v m 1 1

-- the two flags and the highest 1, from what is known of each
pub parts_of : {k v count m s f : ℕ} → count ≡ 2 ^ k
    → (v < count → s ≡ 0) → (count ≤ v → s ≡ 1) → (v < 2 * count → f ≡ 0) → (2 * count ≤ v → f ≡ 1)
    → (v < 2 * 2 ^ k → m ≡ k) → (2 * 2 ^ k ≤ v → 2 ^ m ≤ v - 2 ^ k) → v - 2 ^ k < 2 * 2 ^ m → Parts k v m s f
parts_of {k} {v} {count} {m} e s0 s1 f0 f1 least low high =
    ⊎_elim
    (λ (lt : v < 2 ^ k). rw (s0 (omega arith), f0 (omega arith), least (omega arith)) (in_first lt))
    (λ (le : 2 ^ k ≤ v).
    ⊎_elim
    (λ (lt : v < 2 * 2 ^ k). rw (s1 (omega arith), f0 (omega arith), least lt) (in_second le (omega arith)))
    (λ (ge : 2 * 2 ^ k ≤ v). rw (s1 (omega arith), f1 (omega arith)) (in_further m le (omega arith) (low ge) high))
    (cases_lt v (2 * 2 ^ k)))
    (cases_lt v (2 ^ k))

-- the number of bits of the word
pub parts_few : {k v m s f : ℕ} → k ≤ 5 → v < 2 ^ 16 → Parts k v m s f → 2 * m + 1 - k + s + f ≤ 33
parts_few {k} {v} hk small (in_first lt) = omega arith
parts_few {k} {v} hk small (in_second le lt) = omega arith
parts_few {k} {v} hk small (in_further m le ge low high) = omega (arith, further_few k v m hk le ge low high small)

pub parts_short : {k v m s f : ℕ} (n : ℕ) → k < n → v < 2 ^ n → Parts k v m s f → 2 * m + 1 - k + s + f ≤ 2 * n + 1
parts_short {k} {v} n above fits (in_first lt) = omega arith
parts_short {k} {v} n above fits (in_second le lt) = omega arith
parts_short {k} {v} n above fits (in_further m le ge low high) = omega (arith, highest_below m n (v - 2 ^ k) low (omega arith))

-- the number whose bits are the word
abbrev pub number : ℕ → ℕ → ℕ → ℕ → ℕ → ℕ
number k v m s f = f * 2 ^ (2 * m + 1 - k) % 2 ^ 64 + (2 ^ k + v - s * (2 * 2 ^ k))

pub parts_small : {k v m s f : ℕ} → k ≤ 5 → v < 2 ^ 16 → Parts k v m s f → number k v m s f < 2 ^ (2 * m + 1 - k + s + f)
parts_small {k} {v} hk small (in_first lt) =
    let n : 2 * k + 1 - k + 0 + 0 ≡ k + 1 = omega arith in
    rw n (omega (arith, pow-add 2 k 1))
parts_small {k} {v} hk small (in_second le lt) =
    let n : 2 * k + 1 - k + 1 + 0 ≡ k + 2 = omega arith in
    rw n (omega (arith, pow-add 2 k 2))
parts_small {k} {v} hk small (in_further m le ge low high) =
    let n : 2 * m + 1 - k + 1 + 1 ≡ 2 * m + 1 - k + 2 = omega arith in
    rw (n, further_number k v m hk le ge low high small) (further_small k v m hk le ge low high small)

pub parts_word : {k v m s f : ℕ} → k ≤ 5 → v < 2 ^ 16 → Parts k v m s f → bin (2 * m + 1 - k + s + f) (number k v m s f) ≡ code_word k v
parts_word {k} {v} hk small (in_first lt) =
    let n : 2 * k + 1 - k + 0 + 0 ≡ k + 1 = omega arith in
    let e : number k v k 0 0 ≡ 2 ^ k + v = omega arith in
    ap₂ bin n e ∙ sym (first_is k v lt)
parts_word {k} {v} hk small (in_second le lt) =
    let n : 2 * k + 1 - k + 1 + 0 ≡ k + 2 = omega arith in
    let e : number k v k 1 0 ≡ v - 2 ^ k = omega arith in
    ap₂ bin n e ∙ sym (second_is k v le lt)
parts_word {k} {v} hk small (in_further m le ge low high) =
    let n : 2 * m + 1 - k + 1 + 1 ≡ 2 * m + 1 - k + 2 = omega arith in
    ap₂ bin n (further_number k v m hk le ge low high small) ∙ sym (further_word k v m hk le ge low high small)
