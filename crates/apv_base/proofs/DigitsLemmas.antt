-- Digits of a number, and the number of digits.
use Rattle.std.proofs.Common.{◌≡◌, ℕ, zero, suc, ◌+◌, ◌-◌, ◌*◌, ◌/◌, ◌%◌, ◌^◌, ◌<◌, ◌≤◌, List, [], ◌∷◌, ◌++◌, length, take, drop, replicate, refl, sym, ap, ap₂, ◌∙◌, arith}
use Rattle.std.proofs.Math.Nat.{add-mul-div_right, add-mul-mod_self_right, div-lt_iff_lt-mul, mod-lt, mod-eq_of_lt, div-add-mod', mul_comm, pow-suc, pow-zero}
use Rattle.std.proofs.lemmas.Nat.{pow-add, div-mul-add, mul-add-lt, mul-le}
use Rattle.std.proofs.lemmas.List.{get_or-drop}
use Rattle.apv_base.specs.model.Bits.{digits, number, AreDigits}

pub length-digits : (r n v : ℕ) → length (digits r n v) ≡ n
unfolding digits
length-digits r zero v = refl
length-digits r (suc n) v = ap suc (length-digits r n v)

pub digits-suc : (r n v : ℕ) → digits r (suc n) v ≡ v / r ^ n % r ∷ digits r n v
unfolding digits
digits-suc r n v = refl

pub number-cons : (r d : ℕ) (ds : List ℕ) → number r (d ∷ ds) ≡ d * r ^ length ds + number r ds
unfolding number
number-cons r d ds = refl

pub number-nil : (r : ℕ) → number r [] ≡ 0
unfolding number
number-nil r = refl

pub power_above : (r n : ℕ) → 0 < r → 0 < r ^ n
power_above r zero lt = omega (arith, pow-zero r)
power_above r (suc n) lt = rw pow-suc (omega (arith, mul-le 1 1 (r ^ n) r (power_above r n lt) lt))

-- a digit of b isn't changed by what is above it
digit_low : (r i k a b : ℕ) → 0 < r → (a * r ^ (suc k + i) + b) / r ^ i % r ≡ b / r ^ i % r
digit_low r i k a b lt =
    let e : a * r ^ (suc k + i) + b ≡ b + (a * r ^ k * r) * r ^ i = rw (pow-add r (suc k) i, pow-suc r k) (omega arith) in
    rw (e, add-mul-div_right b (a * r ^ k * r) (power_above r i lt), add-mul-mod_self_right (b / r ^ i) (a * r ^ k) r) refl

pub digits_low : (r n m a b : ℕ) → 0 < r → n ≤ m → digits r n (a * r ^ m + b) ≡ digits r n b
unfolding digits
digits_low r zero m a b lt le = refl
digits_low r (suc n) m a b lt le =
    let k : ℕ = m - n - 1 in
    let e : m ≡ suc k + n = omega arith in
    ap₂ (λ (x : ℕ) (y : List ℕ). x ∷ y) (rw e (digit_low r n k a b lt)) (digits_low r n m a b lt (omega arith))

pub digits-tail : (r d : ℕ) (ds : List ℕ) → AreDigits r (d ∷ ds) → AreDigits r ds
digits-tail r d ds h i = h (suc i)

pub number_below : (r : ℕ) (ds : List ℕ) → AreDigits r ds → number r ds < r ^ length ds
number_below r [] h = omega (arith, number-nil r, pow-zero r)
number_below r (d ∷ ds) h =
    rw (number-cons, pow-suc) (mul-add-lt d (r ^ length ds) (number r ds) r (h 0) (number_below r ds (digits-tail r d ds h)))

-- the digits of the number that they spell
pub digits-number : (r : ℕ) (ds : List ℕ) → 0 < r → AreDigits r ds → digits r (length ds) (number r ds) ≡ ds
unfolding digits
digits-number r [] lt h = refl
digits-number r (d ∷ ds) lt h =
    let below = number_below r ds (digits-tail r d ds h) in
    let top : (d * r ^ length ds + number r ds) / r ^ length ds ≡ d = div-mul-add d (r ^ length ds) (number r ds) below in
    rw (number-cons, top, mod-eq_of_lt (h 0), digits_low r (length ds) (length ds) d (number r ds) lt (omega arith), digits-number r ds lt (digits-tail r d ds h)) refl

-- the number of its digits
pub number-digits : (r n v : ℕ) → 0 < r → v < r ^ n → number r (digits r n v) ≡ v
unfolding digits
number-digits r zero v lt h = omega (arith, number-nil r, pow-zero r, h)
number-digits r (suc n) v lt h =
    let p = power_above r n lt in
    let top : v / r ^ n < r = (div-lt_iff_lt-mul p).1 (rw (mul_comm r (r ^ n), ← pow-suc r n) h) in
    let split : v / r ^ n * r ^ n + v % r ^ n ≡ v = div-add-mod' v (r ^ n) in
    let same : digits r n v ≡ digits r n (v % r ^ n) = ap (digits r n) (sym split) ∙ digits_low r n n (v / r ^ n) (v % r ^ n) lt (omega arith) in
    let low : number r (digits r n v) ≡ v % r ^ n = ap (number r) same ∙ number-digits r n (v % r ^ n) lt (mod-lt v p) in
    let high : v / r ^ n % r * r ^ length (digits r n v) ≡ v / r ^ n * r ^ n = ap₂ (λ (x y : ℕ). x * r ^ y) (mod-eq_of_lt top) (length-digits r n v) in
    number-cons r (v / r ^ n % r) (digits r n v) ∙ ap₂ (λ (x y : ℕ). x + y) high low ∙ split

pub digits-drop : (r n : ℕ) (xs : List ℕ) → AreDigits r xs → AreDigits r (drop n xs)
digits-drop r n xs h i = rw get_or-drop (h (n + i))

pub digits-take : (r n : ℕ) (xs : List ℕ) → 0 < r → AreDigits r xs → AreDigits r (take n xs)
digits-take r zero xs lt h i = lt
digits-take r (suc n) [] lt h i = lt
digits-take r (suc n) (x ∷ xs) lt h zero = h 0
digits-take r (suc n) (x ∷ xs) lt h (suc i) = digits-take r n xs lt (digits-tail r x xs h) i

-- digits of a radix are below it
pub digits-small : (r n v : ℕ) → 0 < r → AreDigits r (digits r n v)
unfolding digits
digits-small r zero v some i = some
digits-small r (suc n) v some zero = mod-lt (v / r ^ n) some
digits-small r (suc n) v some (suc i) = digits-small r n v some i

-- digits before digits
pub digits-append : (r : ℕ) (xs ys : List ℕ) → AreDigits r xs → AreDigits r ys → AreDigits r (xs ++ ys)
digits-append r [] ys first later i = later i
digits-append r (x ∷ xs) ys first later zero = first 0
digits-append r (x ∷ xs) ys first later (suc i) = digits-append r xs ys (λ j. first (suc j)) later i

-- zeros are digits of every radix
pub zeros-small : {r : ℕ} (n : ℕ) → AreDigits (suc r) (replicate n 0)
zeros-small zero i = omega arith
zeros-small (suc n) zero = omega arith
zeros-small (suc n) (suc i) = zeros-small n i
