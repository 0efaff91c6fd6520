-- The bits that lanes of a block give.
use Rattle.std.proofs.Common.{◌≡◌, ℕ, zero, suc, ℤ, pos, negsuc, ◌-◌, ◌^◌, ◌%◌, ◌<◌, ◌++◌, Bool, true, false, not, cond, eqb, min, length, get_or, replicate, List, [], ◌∷◌, unsigned_abs, refl, sym, ap, ap₂, ◌∙◌, lit<, arith}
use lib.Lanes.{Each1, zip2, pick_l, sel_l, top, mask_l}
use mathlib.Core.List.{map}
use mir.Syntax.{w8, w16, signed, cast, mask, lt, ne}
use mir.Val.{Val, of_z, to_z, SFits}
use denote.Array.{each}
use denote.Shadow.{shadow}
use denote.Signed.{SInt}
use borrow.Rule.Simd.Lanes.{act1, act2, Asks1}
use borrow.Table.Row.{s_int}
use Rattle.std.specs.Int.{bit_at}
use Rattle.std.proofs.lemmas.Bool.{ne_eqb, eqb-true, eqb-false}
use Rattle.std.proofs.lemmas.List.{length-map, get_or-map, get_or_append_left}
use Rattle.std.proofs.lemmas.Simd.{bitmask_splat, bit_mask_l}
use Rattle.apv_base.specs.model.Scan.{scan, scan_table, level_at}
use Rattle.apv_scan.specs.Places.{set_lane}
use Rattle.apv_scan.proofs.ScanLemmas.{scan_below}

-- ---- the lanes of an array

-- each element of an array of i16 fits its type
pub each_fits : (xs : List ℤ) (us : List Val) → shadow (each ℤ (SInt w16).own_val xs us) → (i : ℕ) → i < length xs → SFits w16 (get_or xs i (pos 0))
each_fits [] us s i h = absurd (omega arith)
each_fits (x ∷ xs) [] s i h = absurd s
each_fits (x ∷ xs) (u ∷ us) s zero h = record { sfits = s.0.1 }
each_fits (x ∷ xs) (u ∷ us) s (suc i) h = each_fits xs us s.1 i (omega arith)

-- the bits of a level are 0 exactly where it is
zero_bits : (z : ℤ) → SFits w16 z → eqb (of_z w16 z) 0 ≡ eqb (unsigned_abs z) 0
zero_bits (pos n) fits = refl
zero_bits (negsuc n) fits =
    let below = fits.sfits in
    let bits : eqb (65536 - suc n) 0 ≡ false = ne_eqb (65536 - suc n) 0 (omega arith) in
    let size : eqb (suc n) 0 ≡ false = ne_eqb (suc n) 0 (omega arith) in
    bits ∙ sym size

-- what `simd_ne`, and the cast of a mask with it, give for a lane
abbrev differs : ℕ → ℕ → ℕ
differs = act2 (mask ne) (s_int w16) (s_int w16) (s_int w16)

abbrev is_negative : ℕ → ℕ → ℕ
is_negative = act2 (mask (lt signed)) (s_int w16) (s_int w16) (s_int w16)

abbrev narrowed : ℕ → ℕ
narrowed = act1 (cast signed signed w8) (s_int w16) (s_int w8)

lane_asks : (b : Bool) (n : ℕ) → eqb n 0 ≡ b → Asks1 (cast signed signed w8) (s_int w16) (is_negative (differs n 0) 0)
lane_asks true n e = rw e (record { sfits = lit< tt })
lane_asks false n e = rw e (record { sfits = lit< tt })

lane_is : (b : Bool) (n : ℕ) → eqb n 0 ≡ b → to_z w8 (cond (top 7 (narrowed (is_negative (differs n 0) 0))) 255 0) ≡ cond b (pos 0) (negsuc 0)
lane_is true n e = rw e refl
lane_is false n e = rw e refl

-- every lane may be cast
pub lanes_ask : (n : ℕ) (xs : List ℤ) → length xs ≡ n
    → Each1 (Asks1 (cast signed signed w8) (s_int w16)) (zip2 is_negative (zip2 differs (map (of_z w16) xs) (replicate n 0)) (replicate n 0))
lanes_ask zero [] e = tt
lanes_ask zero (x ∷ xs) e = absurd (omega arith)
lanes_ask (suc n) [] e = absurd (omega arith)
lanes_ask (suc n) (x ∷ xs) e = (lane_asks (eqb (of_z w16 x) 0) (of_z w16 x) refl, lanes_ask n xs (omega arith))

-- the lanes that are left
pub lanes_are : (n : ℕ) (xs : List ℤ) → length xs ≡ n → ((i : ℕ) → i < n → SFits w16 (get_or xs i (pos 0)))
    → map (to_z w8) (sel_l (map (top 7) (map narrowed (zip2 is_negative (zip2 differs (map (of_z w16) xs) (replicate n 0)) (replicate n 0)))) (replicate n 255) (replicate n 0)) ≡ map set_lane xs
lanes_are zero [] e fits = refl
lanes_are zero (x ∷ xs) e fits = absurd (omega arith)
lanes_are (suc n) [] e fits = absurd (omega arith)
lanes_are (suc n) (x ∷ xs) e fits =
    ap₂ (λ y ys. y ∷ ys)
    (lane_is (eqb (unsigned_abs x) 0) (of_z w16 x) (zero_bits x (fits 0 (omega arith))))
    (lanes_are n xs (omega arith) (λ i h. fits (suc i) (omega arith)))

-- ---- the mask of such lanes

-- a lane isn't 0
abbrev pub is_set : ℕ → ℕ → Bool
is_set a b = not (eqb a b)

-- a level isn't 0 exactly where its lane isn't
set_level : (z : ℤ) (b : Bool) → eqb (unsigned_abs z) 0 ≡ b → cond (is_set (of_z w8 (cond b (pos 0) (negsuc 0))) 0) 1 0 ≡ min 1 (unsigned_abs z)
set_level z true e = rw (eqb-true (unsigned_abs z) 0 e) refl
set_level z false e = let ne = eqb-false (unsigned_abs z) 0 e in omega arith

-- the places of the scan, as the code lists them
abbrev pub scan_lanes : List ℕ
scan_lanes =
    0 ∷ 1 ∷ 8 ∷ 16 ∷ 9 ∷ 2 ∷ 3 ∷ 10 ∷ 17 ∷ 24 ∷ 32 ∷ 25 ∷ 18 ∷ 11 ∷ 4 ∷ 5
    ∷ 12 ∷ 19 ∷ 26 ∷ 33 ∷ 40 ∷ 48 ∷ 41 ∷ 34 ∷ 27 ∷ 20 ∷ 13 ∷ 6 ∷ 7 ∷ 14 ∷ 21 ∷ 28
    ∷ 35 ∷ 42 ∷ 49 ∷ 56 ∷ 57 ∷ 50 ∷ 43 ∷ 36 ∷ 29 ∷ 22 ∷ 15 ∷ 23 ∷ 30 ∷ 37 ∷ 44 ∷ 51
    ∷ 58 ∷ 59 ∷ 52 ∷ 45 ∷ 38 ∷ 31 ∷ 39 ∷ 46 ∷ 53 ∷ 60 ∷ 61 ∷ 54 ∷ 47 ∷ 55 ∷ 62 ∷ 63 ∷ []

pub are_scan : scan_lanes ≡ scan_table
unfolding scan_table
are_scan = refl

-- a bit of the mask of the lanes in the order of a list of places
bit_of_lanes : (ks xs : List ℕ) (p : ℕ) → length ks ≡ 64 → p < 64
    → bit_at (mask_l (map (top 7) (zip2 (λ a b. cond (is_set a b) 255 0) (pick_l 0 xs ks) (replicate 64 0))) % 2 ^ 64) p ≡ cond (is_set (get_or xs (get_or ks p 0) 0) 0) 1 0
bit_of_lanes ks xs p count within =
    let picked : length (pick_l 0 xs ks) ≡ 64 = length-map ks (λ k. get_or xs k 0) ∙ count in
    ap (λ n. bit_at n p) (bitmask_splat w8 is_set (pick_l 0 xs ks) 64 0 picked (omega arith))
    ∙ bit_mask_l (map (λ x. is_set x 0) (pick_l 0 xs ks)) p
    ∙ ap (λ b. cond b 1 0) (get_or-map (λ x. is_set x 0) (pick_l 0 xs ks) p 0 false (omega (arith, picked)))
    ∙ ap (λ x. cond (is_set x 0) 1 0) (get_or-map (λ k. get_or xs k 0) ks p 0 0 (omega (arith, count)))

-- a bit of the mask of a block's lanes in the order of the scan
pub bit_of_levels : (ks : List ℕ) (levels v : List ℤ) (p : ℕ) → ks ≡ scan_table → v ≡ map set_lane levels → length levels ≡ 64 → p < 64
    → bit_at (mask_l (map (top 7) (zip2 (λ a b. cond (is_set a b) 255 0) (pick_l 0 (map (of_z w8) v ++ map (of_z w8) v) ks) (replicate 64 0))) % 2 ^ 64) p
    ≡ min 1 (unsigned_abs (level_at levels p))
unfolding scan_table
bit_of_levels ks levels v p are lanes long within =
    let count : length ks ≡ 64 = rw are refl in
    let low : scan p < length levels = omega (arith, scan_below p within) in
    let many : length v ≡ length levels = ap length lanes ∙ length-map levels set_lane in
    let low' : scan p < length v = omega (arith, low, many) in
    let lane : get_or (map (of_z w8) v ++ map (of_z w8) v) (scan p) 0 ≡ of_z w8 (set_lane (level_at levels p)) =
    get_or_append_left (map (of_z w8) v) (map (of_z w8) v) 0 (scan p) (omega (arith, low', length-map v (of_z w8)))
    ∙ get_or-map (of_z w8) v (scan p) (pos 0) 0 low'
    ∙ ap (of_z w8) (ap (λ ys. get_or ys (scan p) (pos 0)) lanes ∙ get_or-map set_lane levels (scan p) (pos 0) (pos 0) low) in
    bit_of_lanes ks (map (of_z w8) v ++ map (of_z w8) v) p count within
    ∙ ap (λ k. cond (is_set (get_or (map (of_z w8) v ++ map (of_z w8) v) k 0) 0) 1 0) (ap (λ ys. get_or ys p 0) are)
    ∙ ap (λ x. cond (is_set x 0) 1 0) lane
    ∙ set_level (level_at levels p) (eqb (unsigned_abs (level_at levels p)) 0) refl
