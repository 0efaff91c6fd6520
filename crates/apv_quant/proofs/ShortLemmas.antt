-- Quotients by a reciprocal of 32 bits.
use Rattle.std.proofs.Common.{◌≡◌, ◌≢◌, ℕ, ℤ, suc, ◌+◌, ◌-◌, ◌*◌, ◌/◌, ◌%◌, ◌^◌, ◌<◌, ◌≤◌, List, length, get_or, set, ap, arith, below_more, get_or-set_same, get_or-set_other}
use Rattle.std.proofs.Math.Nat.{mul-le-mul_left, mul-le-mul_right, le_of_mul-le-mul_right, lt_of_mul-lt-mul_right, mod-lt, div-div-eq-div-mul}
use Rattle.std.proofs.Math.Pow.{pow_mono}
use Rattle.std.proofs.lemmas.Nat.{div-add-mod', mul-le, pow-add, pow_pos, div_below}
use Rattle.apv_quant.specs.Quotient.{reciprocal_of, short_quotient, IsRounded, IsShortReciprocal, short_level}
use Rattle.std.specs.Prelude.{unsigned_abs}
use Rattle.apv_base.specs.model.Quant.{IsNearest}
use Rattle.apv_quant.proofs.NearestLemmas.{nearest_by_rounded}

-- the quotient q of a size a by a reciprocal r that is 2 ^ 32 * w / s, rounded up, is a * w / s, rounded
short_rounds : (a r s w q : ℕ) → 0 < s → s ≤ 2 ^ 15 → a ≤ 2 ^ 15 → 2 ^ 32 * w ≤ r * s → r * s < 2 ^ 32 * w + s
    → q * 2 ^ 32 ≤ a * r + (2 ^ 31 - 2 ^ 16) → a * r + (2 ^ 31 - 2 ^ 16) < q * 2 ^ 32 + 2 ^ 32 → IsRounded (a * w) s q
short_rounds a r s w q some small few least most low high =
    let f1 : q * 2 ^ 32 * s ≤ (a * r + (2 ^ 31 - 2 ^ 16)) * s = mul-le-mul_right s low in
    let f2 : suc (a * r + (2 ^ 31 - 2 ^ 16)) * s ≤ (q * 2 ^ 32 + 2 ^ 32) * s = mul-le-mul_right s high in
    let f3 : a * (r * s) ≤ a * (2 ^ 32 * w + s) = mul-le-mul_left a (omega arith) in
    let f4 : a * (2 ^ 32 * w) ≤ a * (r * s) = mul-le-mul_left a least in
    let f5 : a * s ≤ 2 ^ 15 * s = mul-le-mul_right s few in
    record { below = omega (arith, f1, f3, f5); above = omega (arith, f2, f4) }

-- what is rounded stays so times a positive number
rounded_times : (n s q p : ℕ) → 0 < p → IsRounded n s q → IsRounded (n * p) (s * p) q
rounded_times n s q p some r =
    let f1 : suc (2 * (q * s)) * p ≤ (2 * n + s) * p = mul-le-mul_right p r.below in
    let f2 : 2 * n * p ≤ (2 * (q * s) + s) * p = mul-le-mul_right p r.above in
    record { below = omega (arith, f1); above = omega (arith, f2) }

-- a reciprocal of 32 bits at a shift b, by the bits of one of 64 bits
short_bounds : (s b m : ℕ) → 0 < s → b ≤ 10 → m ≡ (2 ^ 64 - 1) / (s * 2 ^ (32 - b)) → (2 ^ 32 * 2 ^ b ≤ (m + 1) * s) × ((m + 1) * s < 2 ^ 32 * 2 ^ b + s)
short_bounds s b m some high is =
    let p = 2 ^ (32 - b) in
    let d = s * p in
    let positive : 0 < p = pow_pos (32 - b) in
    let one : 1 * 1 ≤ s * p = mul-le 1 1 s p some positive in
    let rest : (2 ^ 64 - 1) % d < d = mod-lt (2 ^ 64 - 1) (omega arith) in
    let split : m * d + (2 ^ 64 - 1) % d ≡ 2 ^ 64 - 1 = rw is (div-add-mod' (2 ^ 64 - 1) d) in
    let whole : 2 ^ 32 * 2 ^ b * p ≡ 2 ^ 64 = rw (← pow-add 2 32 b, ← pow-add 2 (32 + b) (32 - b)) (ap (λ k. 2 ^ k) {y = 64} (omega arith)) in
    (le_of_mul-le-mul_right {k = p} (omega arith) positive, omega (arith, lt_of_mul-lt-mul_right p {m = m * s} {n = 2 ^ 32 * 2 ^ b} (omega arith)))

-- the reciprocal of 32 bits of a step number that is a small multiple of a power of 2
pub short_reciprocal : (s b t m : ℕ) → s / 2 ^ t * 2 ^ t ≡ s → 0 < s / 2 ^ t → s / 2 ^ t ≤ 2 ^ 15 → b ≤ 10 → t ≤ b → m ≡ reciprocal_of s
    → m / 2 ^ (32 - b) + 1 < 65534 * 2 ^ 16 → IsShortReciprocal s b (m / 2 ^ (32 - b) + 1)
short_reciprocal s b t m multiple some small high low is few =
    let k = s / 2 ^ t in
    let p = 2 ^ t in
    let w = 2 ^ (b - t) in
    let r = m / 2 ^ (32 - b) + 1 in
    let positive : 0 < p = pow_pos t in
    let one : 1 * 1 ≤ k * p = mul-le 1 1 k p some positive in
    let bounds = short_bounds s b (m / 2 ^ (32 - b)) (omega arith) high (rw is (div-div-eq-div-mul (2 ^ 64 - 1) s (2 ^ (32 - b)))) in
    let power : w * p ≡ 2 ^ b = rw (← pow-add 2 (b - t) t) (ap (λ j. 2 ^ j) {y = b} (omega arith)) in
    let factor : k * p * r ≡ s * r = ap (λ x. x * r) multiple in
    let least : 2 ^ 32 * w ≤ r * k = le_of_mul-le-mul_right {k = p} (omega arith) positive in
    let most : r * k < 2 ^ 32 * w + k = lt_of_mul-lt-mul_right p (omega arith) in
    record {
      some = omega arith;
      few = few;
      exact = λ a h.
          let sum = a * r + (2 ^ 31 - 2 ^ 16) in
          let rest : sum % 2 ^ 32 < 2 ^ 32 = mod-lt sum (omega arith) in
          let split = div-add-mod' sum (2 ^ 32) in
          let reduced = short_rounds a r k w (short_quotient a r) some small h least most (omega arith) (omega arith) in
          let times = rounded_times (a * w) k (short_quotient a r) p positive reduced in
          let size : a * w * p ≡ a * 2 ^ b = omega (arith, ap (λ x. a * x) power) in
          rw (← size, ← multiple) times;
    }

-- the bits of a reciprocal of 64 bits that are kept leave room
pub short_fits : (m b : ℕ) → m < 2 ^ 64 → b ≤ 10 → m / 2 ^ (32 - b) < 2 ^ 42
short_fits m b fits high =
    let most : 22 ≤ 32 - b = omega arith in
    let power : 2 ^ 22 ≤ 2 ^ (32 - b) = pow_mono most in
    div_below m (2 ^ (32 - b)) (2 ^ 42) (pow_pos (32 - b)) (omega arith)

-- the reciprocal of 32 bits of a step number above 2 ^ b is small
pub short_few : (s b m : ℕ) → 2 ^ b < s → b ≤ 10 → m ≡ reciprocal_of s → m / 2 ^ (32 - b) < 65534 * 2 ^ 16 - 1
short_few s b m low high is =
    let p = 2 ^ (32 - b) in
    let most : 22 ≤ 32 - b = omega arith in
    let power : 2 ^ 22 ≤ p = pow_mono most in
    let whole : 2 ^ b * p ≡ 2 ^ 32 = rw (← pow-add 2 b (32 - b)) (ap (λ k. 2 ^ k) {y = 32} (omega arith)) in
    let more : suc (2 ^ b) * p ≤ s * p = mul-le-mul_right p low in
    let quotient : m / p ≡ (2 ^ 64 - 1) / (s * p) = rw is (div-div-eq-div-mul (2 ^ 64 - 1) s p) in
    let some : 0 < s * p = omega (arith, whole, more, power) in
    let few = div_below (2 ^ 64 - 1) (s * p) (65534 * 2 ^ 16 - 1) some (omega (arith, whole, more, power)) in
    omega (arith, quotient, few)

-- one more reciprocal in halves
pub halves_more : (steps high low : List ℕ) (b i r : ℕ) → i < length high → i < length low → IsShortReciprocal (get_or steps i 0) b r
    → ((k : ℕ) → k < i → IsShortReciprocal (get_or steps k 0) b (get_or high k 0 * 2 ^ 16 + get_or low k 0))
    → (k : ℕ) → k < i + 1 → IsShortReciprocal (get_or steps k 0) b (get_or (set high i (r / 65536)) k 0 * 2 ^ 16 + get_or (set low i (r % 65536)) k 0)
halves_more steps high low b i r in_high in_low is before =
    below_more _ _
    (λ k h. let ne : k ≢ i = omega arith in rw (get_or-set_other high i k (r / 65536) 0, get_or-set_other low i k (r % 65536) 0) (before k h))
    (let whole : r / 65536 * 2 ^ 16 + r % 65536 ≡ r = omega arith in
    rw (get_or-set_same high i (r / 65536) 0, get_or-set_same low i (r % 65536) 0, whole) is)

-- the level by a reciprocal of 32 bits is nearest
pub nearest_by_short : (c l : ℤ) (s b r : ℕ) → IsShortReciprocal s b r → unsigned_abs c ≤ 2 ^ 15 → l ≡ short_level c r → IsNearest c s b l
nearest_by_short c l s b r is small level =
    rw level (nearest_by_rounded c s b (short_quotient (unsigned_abs c) r) is.some (is.exact (unsigned_abs c) small))
