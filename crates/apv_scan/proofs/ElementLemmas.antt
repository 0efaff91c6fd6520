-- The elements of a block, a place at a time.
use Rattle.std.proofs.Common.{◌≡◌, ℕ, zero, suc, ℤ, ◌+◌, ◌-◌, ◌/◌, ◌<◌, ◌≤◌, ◌≢◌, ◌++◌, min, List, [], ◌∷◌, unsigned_abs, eqb, false, refl, ap, ◌∙◌, ⊎_elim, arith}
use Rattle.std.proofs.lemmas.Bool.{cases_eq, ne_eqb, lt-ltb, le-ltb}
use Rattle.apv_base.specs.model.Block.{Element, coded_value, sign_of, places, level_elements, ac_elements, ac_from, first_size}
use Rattle.apv_scan.specs.Walk.{first_from}

pub places_zero : (z : ℕ → ℤ) (n p : ℕ) → unsigned_abs (z p) ≡ 0 → places z (suc n) p ≡ places z n (suc p)
unfolding places
places_zero z n p e = rw e refl

pub places_level : (z : ℕ → ℤ) (n p : ℕ) → 0 < unsigned_abs (z p) → places z (suc n) p ≡ p ∷ places z n (suc p)
unfolding places
places_level z n p h = let e : eqb (unsigned_abs (z p)) 0 ≡ false = ne_eqb (unsigned_abs (z p)) 0 (omega arith) in rw e refl

-- the places of levels that aren't 0 rise, from after a on
abbrev pub AreRising : (ℕ → ℤ) → ℕ → List ℕ → Type 0
AreRising z a [] = Unit {0}
AreRising z a (b ∷ bs) = (a < b) × (b < 64) × (0 < unsigned_abs (z b)) × AreRising z b bs

pub places_rise : (z : ℕ → ℤ) (n p a : ℕ) → p + n ≤ 64 → a < p → AreRising z a (places z n p)
unfolding places
places_rise z zero p a h low = tt {0}
places_rise z (suc n) p a h low =
    ⊎_elim
    (λ (e : unsigned_abs (z p) ≡ 0). rw (places_zero z n p e) (places_rise z n (suc p) a (omega arith) (omega arith)))
    (λ (ne : unsigned_abs (z p) ≢ 0).
    rw (places_level z n p (let more : 0 < unsigned_abs (z p) = omega arith in more))
    (low, omega arith, omega arith, places_rise z n (suc p) p (omega arith) (omega arith)))
    (cases_eq (unsigned_abs (z p)) 0)

-- ---- the elements after the first level

-- the run up to the end of the block
abbrev pub end_run : ℕ → ℕ → List Element
end_run a run = coded_value (min 2 (run / 4)) 63 (63 - a) (63 - a) ∷ []

pub ac_elements-end : (z : ℕ → ℤ) (a run level : ℕ) → a < 63 → ac_elements z a run level [] ≡ end_run a run
unfolding ac_elements
ac_elements-end z a run level h = rw (lt-ltb a 63 h) refl

pub ac_elements-full : (z : ℕ → ℤ) (a run level : ℕ) → 63 ≤ a → ac_elements z a run level [] ≡ []
unfolding ac_elements
ac_elements-full z a run level h = rw (le-ltb a 63 h) refl

pub ac_elements-cons : (z : ℕ → ℤ) (a run level b : ℕ) (bs : List ℕ) → ac_elements z a run level (b ∷ bs)
    ≡ level_elements a run (b - a - 1) level (unsigned_abs (z b)) (sign_of (z b)) ++ ac_elements z b (b - a - 1) (unsigned_abs (z b)) bs
unfolding ac_elements
ac_elements-cons z a run level b bs = refl

-- ---- the elements from a place on

pub from_zero : (z : ℕ → ℤ) (a run level p : ℕ) → p < 64 → unsigned_abs (z p) ≡ 0 → ac_from z a run level p ≡ ac_from z a run level (p + 1)
from_zero z a run level p h e =
    let n : 64 - p ≡ suc (64 - (p + 1)) = omega arith in
    let q : p + 1 ≡ suc p = omega arith in
    ap (λ ps. ac_elements z a run level ps) (rw (n, places_zero z (64 - (p + 1)) p e, ← q) refl)

pub from_level : (z : ℕ → ℤ) (a run level p : ℕ) → p < 64 → 0 < unsigned_abs (z p)
    → ac_from z a run level p ≡ level_elements a run (p - a - 1) level (unsigned_abs (z p)) (sign_of (z p)) ++ ac_from z p (p - a - 1) (unsigned_abs (z p)) (p + 1)
from_level z a run level p h more =
    let n : 64 - p ≡ suc (64 - (p + 1)) = omega arith in
    let q : suc p ≡ p + 1 = omega arith in
    let e : places z (64 - p) p ≡ p ∷ places z (64 - (p + 1)) (p + 1) = rw (n, places_level z (64 - (p + 1)) p more, q) refl in
    ap (λ ps. ac_elements z a run level ps) e ∙ ac_elements-cons z a run level p (places z (64 - (p + 1)) (p + 1))

no_places : (z : ℕ → ℤ) → places z (64 - 64) 64 ≡ []
unfolding places
no_places z = refl

pub from_end_run : (z : ℕ → ℤ) (a run level : ℕ) → a < 63 → ac_from z a run level 64 ≡ end_run a run
from_end_run z a run level h = ap (ac_elements z a run level) (no_places z) ∙ ac_elements-end z a run level h

pub from_end_level : (z : ℕ → ℤ) (a run level : ℕ) → 63 ≤ a → ac_from z a run level 64 ≡ []
from_end_level z a run level h = ap (ac_elements z a run level) (no_places z) ∙ ac_elements-full z a run level h

pub from_skip : (z : ℕ → ℤ) (a run level p r : ℕ) → p + r ≤ 64 → ((q : ℕ) → p ≤ q → q < p + r → unsigned_abs (z q) ≡ 0) → ac_from z a run level p ≡ ac_from z a run level (p + r)
from_skip z a run level p zero h none = ap (ac_from z a run level) (let e : p ≡ p + 0 = omega arith in e)
from_skip z a run level p (suc r) h none =
    let e : p + r + 1 ≡ p + suc r = omega arith in
    from_skip z a run level p r (omega arith) (λ q low high. none q low (omega arith))
    ∙ from_zero z a run level (p + r) (omega arith) (none (p + r) (omega arith) (omega arith))
    ∙ ap (ac_from z a run level) e

-- ---- the size of the first level from a place on

pub first_zero : (z : ℕ → ℤ) (p otherwise : ℕ) → p < 64 → unsigned_abs (z p) ≡ 0 → first_from z p otherwise ≡ first_from z (p + 1) otherwise
first_zero z p otherwise h e =
    let n : 64 - p ≡ suc (64 - (p + 1)) = omega arith in
    let q : p + 1 ≡ suc p = omega arith in
    ap (λ ps. first_size z ps otherwise) (rw (n, places_zero z (64 - (p + 1)) p e, ← q) refl)

pub first_level : (z : ℕ → ℤ) (p otherwise : ℕ) → p < 64 → 0 < unsigned_abs (z p) → first_from z p otherwise ≡ unsigned_abs (z p)
first_level z p otherwise h more =
    let n : 64 - p ≡ suc (64 - (p + 1)) = omega arith in
    let e : places z (64 - p) p ≡ p ∷ places z (64 - (p + 1)) (suc p) = rw (n, places_level z (64 - (p + 1)) p more) refl in
    ap (λ ps. first_size z ps otherwise) e

pub first_none : (z : ℕ → ℤ) (otherwise : ℕ) → first_from z 64 otherwise ≡ otherwise
first_none z otherwise = ap (λ ps. first_size z ps otherwise) (no_places z)

pub first_skip : (z : ℕ → ℤ) (p r otherwise : ℕ) → p + r ≤ 64 → ((q : ℕ) → p ≤ q → q < p + r → unsigned_abs (z q) ≡ 0) → first_from z p otherwise ≡ first_from z (p + r) otherwise
first_skip z p zero otherwise h none = ap (λ n. first_from z n otherwise) (let e : p ≡ p + 0 = omega arith in e)
first_skip z p (suc r) otherwise h none =
    let e : p + r + 1 ≡ p + suc r = omega arith in
    first_skip z p r otherwise (omega arith) (λ q low high. none q low (omega arith))
    ∙ first_zero z (p + r) otherwise (omega arith) (none (p + r) (omega arith) (omega arith))
    ∙ ap (λ n. first_from z n otherwise) e
