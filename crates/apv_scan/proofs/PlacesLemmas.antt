-- The places of a block by the bits of a number.
use Rattle.std.proofs.Common.{◌≡◌, ℕ, zero, suc, ℤ, pos, ◌+◌, ◌-◌, ◌*◌, ◌/◌, ◌%◌, ◌^◌, ◌<◌, ◌≤◌, ◌≢◌, min, List, [], ◌∷◌, unsigned_abs, bit_and, refl, sym, ap, ◌∙◌, ⊎_elim, arith}
use Rattle.std.specs.Int.{bit_at, trailing_zeros, w64}
use Rattle.std.proofs.lemmas.Bool.{cases_eq}
use Rattle.std.proofs.lemmas.Nat.{pow_pos, pow-add, pow_below, shr_split, mod_below}
use Rattle.std.proofs.lemmas.Nat.Bits.{bit_at_and, bit_at-zero, bit_at-trailing_zeros, bit_at_clear_same, bit_at_clear_other, bit_at_cat_low, bit_at_cat_high, bit_at_ones_above, same_from_bits_below}
use Rattle.apv_base.specs.model.Block.{places}
use Rattle.apv_scan.specs.Places.{places_in}
use Rattle.apv_scan.proofs.ElementLemmas.{places_zero, places_level}

-- ---- places

no_places : (z : ℕ → ℤ) (p : ℕ) → places z 0 p ≡ []
unfolding places
no_places z p = refl

-- only which levels are 0 counts
places_same : (y z : ℕ → ℤ) (n p : ℕ) → ((i : ℕ) → p ≤ i → i < p + n → min 1 (unsigned_abs (y i)) ≡ min 1 (unsigned_abs (z i))) → places y n p ≡ places z n p
places_same y z zero p same = no_places y p ∙ sym (no_places z p)
places_same y z (suc n) p same =
    let here : min 1 (unsigned_abs (y p)) ≡ min 1 (unsigned_abs (z p)) = same p (omega arith) (omega arith) in
    let later : places y n (suc p) ≡ places z n (suc p) = places_same y z n (suc p) (λ i low high. same i (omega arith) (omega arith)) in
    ⊎_elim
    (λ (none : unsigned_abs (y p) ≡ 0). places_zero y n p none ∙ later ∙ sym (places_zero z n p (omega (arith, here))))
    (λ (some : unsigned_abs (y p) ≢ 0).
    let big : 0 < unsigned_abs (y p) = omega arith in
    let big' : 0 < unsigned_abs (z p) = omega (arith, here) in
    places_level y n p big ∙ ap (λ ps. p ∷ ps) later ∙ sym (places_level z n p big'))
    (cases_eq (unsigned_abs (y p)) 0)

-- levels that are 0 are passed
places_skip : (z : ℕ → ℤ) (r n p m q : ℕ) → m ≡ r + n → q ≡ p + r → ((i : ℕ) → p ≤ i → i < q → unsigned_abs (z i) ≡ 0) → places z m p ≡ places z n q
places_skip z zero n p m q e f none =
    let here : m ≡ n = omega arith in
    let there : q ≡ p = omega arith in
    rw (here, there) refl
places_skip z (suc r) n p m q e f none =
    let here : m ≡ suc (r + n) = omega arith in
    rw here (places_zero z (r + n) p (none p (omega arith) (omega arith)))
    ∙ places_skip z r n (suc p) (r + n) q refl (omega arith) (λ i low high. none i (omega arith) high)

-- ---- the lowest 1 of a number

lowest_product : (m p q a h r : ℕ) → a * p + r ≡ m → r ≡ 0 → a ≡ h * 2 + 1 → q ≡ p * 2 ^ 1 → m ≡ h * q + p
lowest_product m p q a h r split low odd twice = rw (← split, low, odd, twice) (grind arith)

-- a number by its lowest 1
by_lowest : (m t : ℕ) → bit_at m t ≡ 1 → ((i : ℕ) → i < t → bit_at m i ≡ 0) → m ≡ m / 2 ^ t / 2 * 2 ^ (t + 1) + 2 ^ t
by_lowest m t one none =
    let split : m / 2 ^ t * 2 ^ t + m % 2 ^ t ≡ m = shr_split m t in
    let low : m % 2 ^ t ≡ 0 = same_from_bits_below t (m % 2 ^ t) 0 (mod_below m (2 ^ t) (pow_pos t)) (pow_pos t)
    (λ i h. sym (bit_at_cat_low (m / 2 ^ t) t (m % 2 ^ t) i h) ∙ ap (λ n. bit_at n i) split ∙ none i h ∙ sym (bit_at-zero i)) in
    let odd : m / 2 ^ t ≡ m / 2 ^ t / 2 * 2 + 1 = omega (arith, one) in
    let twice : 2 ^ (t + 1) ≡ 2 ^ t * 2 ^ 1 = pow-add 2 t 1 in
    lowest_product m (2 ^ t) (2 ^ (t + 1)) (m / 2 ^ t) (m / 2 ^ t / 2) (m % 2 ^ t) split low odd twice

-- the lowest 1 cleared by `m & (m - 1)`
cleared : (m t : ℕ) → m < 2 ^ 64 → t < 64 → bit_at m t ≡ 1 → ((i : ℕ) → i < t → bit_at m i ≡ 0)
    → ((i : ℕ) → i ≤ t → bit_at (bit_and m (m - 1)) i ≡ 0) × ((i : ℕ) → t < i → bit_at (bit_and m (m - 1)) i ≡ bit_at m i)
cleared m t small within one none =
    let h : ℕ = m / 2 ^ t / 2 in
    let whole : m ≡ h * 2 ^ (t + 1) + 2 ^ t = by_lowest m t one none in
    let less : m - 1 ≡ h * 2 ^ (t + 1) + (2 ^ t - 1) = omega (arith, whole, pow_pos t) in
    let twice : 2 ^ t < 2 ^ (t + 1) = pow_below t (t + 1) (omega arith) in
    let at_place : bit_at (m - 1) t ≡ 0 =
    ap (λ n. bit_at n t) less ∙ bit_at_cat_low h (t + 1) (2 ^ t - 1) t (omega arith) ∙ bit_at_ones_above t t (omega arith) in
    let above : (i : ℕ) → t < i → bit_at (m - 1) i ≡ bit_at m i = λ i high.
    ap (λ n. bit_at n i) less
    ∙ bit_at_cat_high h (t + 1) (2 ^ t - 1) i (omega (arith, twice)) (omega arith)
    ∙ sym (bit_at_cat_high h (t + 1) (2 ^ t) i twice (omega arith))
    ∙ ap (λ n. bit_at n i) (sym whole) in (
      λ i low.
          bit_at_and m (m - 1) i
          ∙ ⊎_elim (λ (e : i ≡ t). rw e (omega (arith, at_place))) (λ (ne : i ≢ t). omega (arith, none i (omega arith))) (cases_eq i t),
      λ i high. bit_at_and m (m - 1) i ∙ omega (arith, above i high),
    )

-- ---- the places that a number says

-- its bits as levels
abbrev bits_at : ℕ → ℕ → ℤ
bits_at m p = pos (bit_at m p)

pub none_in_zero : places_in 0 ≡ []
none_in_zero = places_skip (bits_at 0) 64 0 0 64 64 refl refl (λ i low high. bit_at-zero i) ∙ no_places (bits_at 0) 64

-- the places from the lowest on
from_lowest : (m t : ℕ) → t < 64 → bit_at m t ≡ 1 → ((i : ℕ) → i < t → bit_at m i ≡ 0) → places_in m ≡ t ∷ places (bits_at m) (63 - t) (suc t)
from_lowest m t within one none =
    let big : 0 < bit_at m t = omega (arith, one) in
    places_skip (bits_at m) t (suc (63 - t)) 0 64 t (omega arith) (omega arith) (λ i low high. none i high) ∙ places_level (bits_at m) (63 - t) t big

after_lowest : (m t : ℕ) → m < 2 ^ 64 → t < 64 → bit_at m t ≡ 1 → ((i : ℕ) → i < t → bit_at m i ≡ 0) → places_in (bit_and m (m - 1)) ≡ places (bits_at m) (63 - t) (suc t)
after_lowest m t small within one none =
    let c = cleared m t small within one none in
    places_skip (bits_at (bit_and m (m - 1))) (suc t) (63 - t) 0 64 (suc t) (omega arith) (omega arith) (λ i low high. c.0 i (omega arith))
    ∙ places_same (bits_at (bit_and m (m - 1))) (bits_at m) (63 - t) (suc t) (λ i low high. ap (min 1) (c.1 i (omega arith)))

-- the first place is the lowest 1
pub first_in : (m : ℕ) → 0 < m → m < 2 ^ 64 → places_in m ≡ trailing_zeros w64 m ∷ places_in (bit_and m (m - 1))
first_in m some small =
    let t = bit_at-trailing_zeros w64 m some small in
    from_lowest m (trailing_zeros w64 m) t.0 t.1 t.2 ∙ ap (λ ps. trailing_zeros w64 m ∷ ps) (sym (after_lowest m (trailing_zeros w64 m) small t.0 t.1 t.2))

pub some_in : (m p : ℕ) (more : List ℕ) → places_in m ≡ p ∷ more → 0 < m
some_in m p more e =
    ⊎_elim
    (λ (none : m ≡ 0). absurd (let empty : [] ≡ p ∷ more = sym none_in_zero ∙ ap places_in (sym none) ∙ e in cc))
    (λ (some : m ≢ 0). omega arith)
    (cases_eq m 0)

pub take_first_in : (m p : ℕ) (more : List ℕ) → m < 2 ^ 64 → places_in m ≡ p ∷ more → places_in m ≡ p ∷ places_in (bit_and m (m - 1))
take_first_in m p more small e =
    let first = first_in m (some_in m p more e) small in
    let same : p ∷ more ≡ trailing_zeros w64 m ∷ places_in (bit_and m (m - 1)) = sym e ∙ first in
    let place : p ≡ trailing_zeros w64 m = cc in
    rw place first

-- the places of a block, where the bits say which levels aren't 0
pub places_of_bits : (z : ℕ → ℤ) (m : ℕ) → ((p : ℕ) → p < 64 → bit_at m p ≡ min 1 (unsigned_abs (z p))) → places_in (bit_and m 18446744073709551614) ≡ places z 63 1
places_of_bits z m are =
    places_zero (bits_at (bit_and m 18446744073709551614)) 63 0 (bit_at_clear_same w64 m 0 (omega arith))
    ∙ places_same (bits_at (bit_and m 18446744073709551614)) z 63 1
    (λ i low high. omega (arith, bit_at_clear_other w64 m 0 (omega arith) i (omega arith) (omega arith), are i (omega arith)))
