-- The scan goes over each place once.
use Rattle.std.proofs.Common.{◌≡◌, ℕ, zero, suc, ℤ, pos, ◌<◌, ◌≤◌, ◌≢◌, ⊎_elim, Bool, true, false, eqb, ltb, cond, get_or, length, replicate, List, [], ◌∷◌, refl, sym, ap, ◌∙◌, arith, lit<}
use Rattle.std.proofs.Math.ListN.{set}
use Rattle.std.proofs.lemmas.List.{ext_get_or, get_or-set_same, get_or-set_other, get_or_past, get_or-replicate}
use Rattle.std.proofs.lemmas.Bool.{cases_eq, cases_lt, eqb-true, ltb-true}
use Rattle.apv_base.specs.model.Quant.{IsLevel}
use Rattle.apv_base.specs.model.Scan.{scan, scan_table, level_at}

unscan_table : List ℕ
unscan_table =
    0 ∷ 1 ∷ 5 ∷ 6 ∷ 14 ∷ 15 ∷ 27 ∷ 28 ∷ 2 ∷ 4 ∷ 7 ∷ 13 ∷ 16 ∷ 26 ∷ 29 ∷ 42
    ∷ 3 ∷ 8 ∷ 12 ∷ 17 ∷ 25 ∷ 30 ∷ 41 ∷ 43 ∷ 9 ∷ 11 ∷ 18 ∷ 24 ∷ 31 ∷ 40 ∷ 44 ∷ 53
    ∷ 10 ∷ 19 ∷ 23 ∷ 32 ∷ 39 ∷ 45 ∷ 52 ∷ 54 ∷ 20 ∷ 22 ∷ 33 ∷ 38 ∷ 46 ∷ 51 ∷ 55 ∷ 60
    ∷ 21 ∷ 34 ∷ 37 ∷ 47 ∷ 50 ∷ 56 ∷ 59 ∷ 61 ∷ 35 ∷ 36 ∷ 48 ∷ 49 ∷ 57 ∷ 58 ∷ 62 ∷ 63 ∷ []

-- a test of each number below n
below : (ℕ → Bool) → ℕ → Bool
below f zero = true
below f (suc n) = cond (f n) (below f n) false

both_true : (b x : Bool) → cond b x false ≡ true → (b ≡ true) × (x ≡ true)
both_true true x h = (refl, h)
both_true false x h = absurd cc

below_holds : (f : ℕ → Bool) (n k : ℕ) → below f n ≡ true → k < n → f k ≡ true
unfolding below
below_holds f zero k h lt = absurd (omega arith)
below_holds f (suc n) k h lt =
    let both : (f n ≡ true) × (below f n ≡ true) = both_true (f n) (below f n) h in
    ⊎_elim (λ (e : k ≡ n). ap f e ∙ both.0) (λ (ne : k ≢ n). below_holds f n k both.1 (omega arith)) (cases_eq k n)

good : ℕ → Bool
good p = cond (ltb (scan p) 64) (eqb (get_or unscan_table (scan p) 0) p) false

all_good : below good 64 ≡ true
unfolding below good scan_table unscan_table
all_good = refl

good_at : (p : ℕ) → p < 64 → (ltb (scan p) 64 ≡ true) × (eqb (get_or unscan_table (scan p) 0) p ≡ true)
unfolding good
good_at p h = both_true (ltb (scan p) 64) (eqb (get_or unscan_table (scan p) 0) p) (below_holds good 64 p all_good h)

-- the places of the scan are those of the block
pub scan_below : (p : ℕ) → p < 64 → scan p < 64
scan_below p h = ltb-true (scan p) 64 (good_at p h).0

-- no place comes twice
pub scan_once : (p q : ℕ) → p < 64 → q < 64 → scan p ≡ scan q → p ≡ q
scan_once p q hp hq e =
    sym (eqb-true (get_or unscan_table (scan p) 0) p (good_at p hp).1) ∙ ap (λ a. get_or unscan_table a 0) e ∙ eqb-true (get_or unscan_table (scan q) 0) q (good_at q hq).1

met : ℕ → Bool
met a = cond (ltb (get_or unscan_table a 0) 64) (eqb (scan (get_or unscan_table a 0)) a) false

all_met : below met 64 ≡ true
unfolding below met scan_table unscan_table
all_met = refl

met_at : (a : ℕ) → a < 64 → (ltb (get_or unscan_table a 0) 64 ≡ true) × (eqb (scan (get_or unscan_table a 0)) a ≡ true)
unfolding met
met_at a h = both_true (ltb (get_or unscan_table a 0) 64) (eqb (scan (get_or unscan_table a 0)) a) (below_holds met 64 a all_met h)

-- each place of the block is scanned
pub scan_meets : (a : ℕ) → a < 64 → (p : ℕ) × (p < 64) × (scan p ≡ a)
scan_meets a h =
    (get_or unscan_table a 0, ltb-true (get_or unscan_table a 0) 64 (met_at a h).0, eqb-true (scan (get_or unscan_table a 0)) a (met_at a h).1)

-- blocks with the same levels at the scan places are the same
pub same_blocks : (x y : List ℤ) → length x ≡ 64 → length y ≡ 64 → ((p : ℕ) → p < 64 → level_at x p ≡ level_at y p) → x ≡ y
same_blocks x y lx ly same =
    ext_get_or (pos 0) x y (lx ∙ sym ly) (λ i h.
    let at : (p : ℕ) × (p < 64) × (scan p ≡ i) = scan_meets i (omega arith) in
    ap (λ a. get_or x a (pos 0)) (sym at.2) ∙ same at.0 at.1 ∙ ap (λ a. get_or y a (pos 0)) at.2)

-- a level put at a scan place
pub level_at-set_same : (xs : List ℤ) (p : ℕ) (level : ℤ) → length xs ≡ 64 → p < 64 → level_at (set xs (scan p) level) p ≡ level
level_at-set_same xs p level len h = let within : scan p < length xs = omega (arith, scan_below p h) in get_or-set_same xs (scan p) level (pos 0) within

pub level_at-set_other : (xs : List ℤ) (p q : ℕ) (level : ℤ) → p < 64 → q < 64 → q ≢ p → level_at (set xs (scan p) level) q ≡ level_at xs q
level_at-set_other xs p q level hp hq ne = get_or-set_other xs (scan p) (scan q) level (pos 0) (λ e. ne (scan_once q p hq hp e))

scan_first : scan 0 ≡ 0
unfolding scan_table
scan_first = refl

scan_above : (p : ℕ) → 64 ≤ p → scan p ≡ 0
unfolding scan_table
scan_above p h = get_or_past scan_table p 0 h

-- the levels at the scan places are all levels
pub all_levels : (xs : List ℤ) → ((p : ℕ) → p < 64 → IsLevel (level_at xs p)) → (p : ℕ) → IsLevel (level_at xs p)
all_levels xs levels p =
    ⊎_elim
    (λ (lt : p < 64). levels p lt)
    (λ (le : 64 ≤ p).
    let e : level_at xs 0 ≡ level_at xs p = ap (λ a. get_or xs a (pos 0)) (scan_first ∙ sym (scan_above p le)) in
    rw e at (levels 0 (lit< tt)))
    (cases_lt p 64)

-- levels that are 0
unfoldable pub zeros_list : List ℤ
zeros_list = replicate 64 (pos 0)

pub level_at-zeros : (p : ℕ) → p < 64 → level_at zeros_list p ≡ pos 0
unfolding zeros_list
level_at-zeros p h = get_or-replicate 64 (scan p) (pos 0) (pos 0) (scan_below p h)
