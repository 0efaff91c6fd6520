-- The nearest level of a coefficient by a rounded quotient.
use Rattle.std.proofs.Common.{◌≡◌, ℕ, zero, suc, ◌+◌, ◌-◌, ◌*◌, ◌/◌, ◌%◌, ◌^◌, ◌<◌, ◌≤◌, min, refl, sym, ap, ⊎_elim, arith}
use Rattle.std.proofs.Math.Nat.{mul-le-mul_left, mul-le-mul_right, suc-mul, mod-lt, div-zero, zero-div, mul-zero}
use Rattle.std.proofs.Math.Pow.{pow_mono}
use Rattle.std.proofs.lemmas.Bool.{cases_lt}
use Rattle.std.proofs.lemmas.Int.{ints, to_z-of_z}
use Rattle.std.proofs.lemmas.Nat.{div-add-mod', mul-le}
use Rattle.apv_quant.specs.Quotient.{reciprocal_of, rounded_size, quotient_by, level_of, IsRounded}
use Rattle.std.specs.Prelude.{ℤ, pos, negsuc, neg_ℤ, unsigned_abs, int_lt, FitsSigned, false}
use Rattle.std.specs.Int.{w16, cast_signed as to_z, cast_unsigned as of_z}
use Rattle.apv_base.specs.model.Quant.{distance, IsLevel, IsNearest}

-- how far x and y are apart
abbrev pub apart : ℕ → ℕ → ℕ
apart x y = (x - y) + (y - x)

-- a greater factor makes a product greater by the other factor at least
pub row_more : (j l s : ℕ) → j < l → j * s + s ≤ l * s
row_more j l s h = let e : suc j * s ≤ l * s = mul-le-mul_right s h in omega (arith, suc-mul j s)

-- a size below the clipped quotient is farther
farther : (n s q l limit j : ℕ) → 0 < s → IsRounded n s q → l ≡ min q limit → j < l → apart (l * s) n < apart (j * s) n
farther n s q l limit j p r e lt =
    let m = row_more j l s lt in
    ⊎_elim
    (λ (less : l < q). let up = row_more l q s less in omega (arith, r.below, r.above))
    (λ (more : q ≤ l). let same : l ≡ q = omega arith in let is = ap (λ x. x * s) same in omega (arith, r.below, r.above))
    (cases_lt l q)

-- a size above it, up to the limit, is no nearer
not_nearer : (n s q l limit j : ℕ) → IsRounded n s q → l ≡ min q limit → l ≤ j → j ≤ limit → apart (l * s) n ≤ apart (j * s) n
not_nearer n s q l limit j r e ge h =
    ⊎_elim
    (λ (lt : l < j).
    let m = row_more l j s lt in
    let same : l ≡ q = omega arith in
    let is = ap (λ x. x * s) same in
    omega (arith, r.below, r.above))
    (λ (le : j ≤ l). let same : l ≡ j = omega arith in let is = ap (λ x. x * s) same in omega arith)
    (cases_lt l j)

-- of the sizes up to a limit none is nearer than the clipped quotient
least_size : (n s q l limit j : ℕ) → 0 < s → IsRounded n s q → l ≡ min q limit → j ≤ limit → apart (l * s) n ≤ apart (j * s) n
least_size n s q l limit j p r e h =
    ⊎_elim
    (λ (lt : j < l). omega (arith, farther n s q l limit j p r e lt))
    (λ (ge : l ≤ j). not_nearer n s q l limit j r e ge h)
    (cases_lt j l)

-- and one that is as near is no smaller
nearer_size : (n s q l limit j : ℕ) → 0 < s → IsRounded n s q → l ≡ min q limit → apart (j * s) n ≡ apart (l * s) n → l ≤ j
nearer_size n s q l limit j p r e same =
    ⊎_elim
    (λ (lt : j < l). absurd (omega (arith, farther n s q l limit j p r e lt)))
    (λ (ge : l ≤ j). ge)
    (cases_lt j l)

-- ---- distances by the signs of the coefficient and the level

pub distance_above : (a s b j : ℕ) → distance (pos a) s b (pos j) ≡ apart (j * s) (a * 2 ^ b)
distance_above a s b j = omega (arith, ints)

pub distance_across : (a s b j : ℕ) → distance (pos a) s b (negsuc j) ≡ suc j * s + a * 2 ^ b
distance_across a s b j = omega (arith, ints)

pub distance_over : (a s b j : ℕ) → distance (negsuc a) s b (pos j) ≡ j * s + suc a * 2 ^ b
distance_over a s b j = omega (arith, ints)

pub distance_under : (a s b j : ℕ) → distance (negsuc a) s b (neg_ℤ (pos j)) ≡ apart (j * s) (suc a * 2 ^ b)
distance_under a s b zero = omega (arith, ints)
distance_under a s b (suc j) = omega (arith, ints)

-- ---- the nearest level

-- of a coefficient from 0 up
above_least : (a s b q l : ℕ) (k : ℤ) → 0 < s → IsRounded (a * 2 ^ b) s q → l ≡ min q 32767 → IsLevel k → distance (pos a) s b (pos l) ≤ distance (pos a) s b k
above_least a s b q l (pos j) p r e h =
    omega (arith, distance_above a s b l, distance_above a s b j, least_size (a * 2 ^ b) s q l 32767 j p r e (omega arith))
above_least a s b q l (negsuc j) p r e h =
    omega (arith, distance_above a s b l, distance_across a s b j, least_size (a * 2 ^ b) s q l 32767 0 p r e (omega arith))

above_nearer : (a s b q l : ℕ) (k : ℤ) → 0 < s → IsRounded (a * 2 ^ b) s q → l ≡ min q 32767 → distance (pos a) s b k ≡ distance (pos a) s b (pos l) → l ≤ unsigned_abs k
above_nearer a s b q l (pos j) p r e same =
    nearer_size (a * 2 ^ b) s q l 32767 j p r e (omega (arith, distance_above a s b l, distance_above a s b j))
above_nearer a s b q l (negsuc j) p r e same =
    let near = least_size (a * 2 ^ b) s q l 32767 0 p r e (omega arith) in
    absurd (omega (arith, distance_above a s b l, distance_across a s b j, suc-mul j s))

nearest_above : (a s b q l : ℕ) → 0 < s → IsRounded (a * 2 ^ b) s q → l ≡ min q 32767 → IsNearest (pos a) s b (pos l)
nearest_above a s b q l p r e = record {
  permitted = omega arith;
  least = λ k h. above_least a s b q l k p r e h;
  nearer = λ k h same. above_nearer a s b q l k p r e same;
}

-- of a coefficient below 0
below_least : (a s b q l : ℕ) (k : ℤ) → 0 < s → IsRounded (suc a * 2 ^ b) s q → l ≡ min q 32768 → IsLevel k → distance (negsuc a) s b (neg_ℤ (pos l)) ≤ distance (negsuc a) s b k
below_least a s b q l (pos j) p r e h =
    omega (arith, distance_under a s b l, distance_over a s b j, least_size (suc a * 2 ^ b) s q l 32768 0 p r e (omega arith))
below_least a s b q l (negsuc j) p r e h =
    omega (arith, distance_under a s b l, distance_under a s b (suc j), least_size (suc a * 2 ^ b) s q l 32768 (suc j) p r e (omega arith))

below_nearer : (a s b q l : ℕ) (k : ℤ) → 0 < s → IsRounded (suc a * 2 ^ b) s q → l ≡ min q 32768 → distance (negsuc a) s b k ≡ distance (negsuc a) s b (neg_ℤ (pos l)) → l ≤ unsigned_abs k
below_nearer a s b q l (pos zero) p r e same =
    nearer_size (suc a * 2 ^ b) s q l 32768 0 p r e (omega (arith, distance_under a s b l, distance_under a s b 0))
below_nearer a s b q l (pos (suc j)) p r e same =
    let near = least_size (suc a * 2 ^ b) s q l 32768 0 p r e (omega arith) in
    absurd (omega (arith, distance_under a s b l, distance_over a s b (suc j), suc-mul j s))
below_nearer a s b q l (negsuc j) p r e same =
    nearer_size (suc a * 2 ^ b) s q l 32768 (suc j) p r e (omega (arith, distance_under a s b l, distance_under a s b (suc j)))

-- what is clipped and negated is permitted
IsLevel-neg : (l q : ℕ) → l ≡ min q 32768 → IsLevel (neg_ℤ (pos l))
IsLevel-neg zero q e = omega arith
IsLevel-neg (suc l) q e = omega arith

-- the size of a negated number
abs-neg : (l : ℕ) → unsigned_abs (neg_ℤ (pos l)) ≡ l
abs-neg l = omega (arith, ints)

nearest_below : (a s b q l : ℕ) → 0 < s → IsRounded (suc a * 2 ^ b) s q → l ≡ min q 32768 → IsNearest (negsuc a) s b (neg_ℤ (pos l))
nearest_below a s b q l p r e = record {
  permitted = IsLevel-neg l q e;
  least = λ k h. below_least a s b q l k p r e h;
  nearer = λ k h same. rw (abs-neg l) (below_nearer a s b q l k p r e same);
}

-- at a step number of 0 each level is as far as 0
distance_of_none : (c k l : ℤ) (b : ℕ) → distance c 0 b k ≡ distance c 0 b l
distance_of_none c k l b = omega (arith, ints)

nearest_of_none : (c : ℤ) (b : ℕ) → IsNearest c 0 b (pos 0)
nearest_of_none c b = record {
  permitted = omega arith;
  least = λ k h. omega (arith, distance_of_none c k (pos 0) b);
  nearer = λ k h same. omega arith;
}

-- ---- the quotient by a reciprocal

-- what the high part q of a product with a reciprocal m says of the quotient, where m * s + r + 1 is the whole
high_below : (a s m r low q whole : ℕ) → 0 < a → m * s + r + 1 ≡ whole → low + q * whole ≡ a * m → q * s < a
high_below a s m r low q whole p split product =
    ⊎_elim
    (λ (lt : q * s < a). lt)
    (λ (ge : a ≤ q * s).
    let e1 : (low + q * whole) * s ≡ a * m * s = ap (λ x. x * s) product in
    let e2 : a * whole ≡ a * (m * s + r + 1) = ap (λ x. a * x) (sym split) in
    let g = mul-le-mul_right whole ge in
    absurd (omega (arith, e1, e2, g)))
    (cases_lt (q * s) a)

high_above : (a s m r low q whole : ℕ) → 0 < s → m * s + r + 1 ≡ whole → r < s → a * s ≤ whole → low < whole → low + q * whole ≡ a * m → a ≤ q * s + s
high_above a s m r low q whole p split small fits part product =
    ⊎_elim
    (λ (lt : q * s + s < a).
    let e1 : (low + q * whole) * s ≡ a * m * s = ap (λ x. x * s) product in
    let e2 : a * whole ≡ a * (m * s + r + 1) = ap (λ x. a * x) (sym split) in
    let g : suc (q * s + s) * whole ≤ a * whole = mul-le-mul_right whole lt in
    let h : a * suc r ≤ a * s = mul-le-mul_left a small in
    let i : suc low * s ≤ whole * s = mul-le-mul_right s part in
    absurd (omega (arith, e1, e2, g, h, i)))
    (λ (ge : a ≤ q * s + s). ge)
    (cases_lt (q * s + s) a)

-- the quotient by a reciprocal is the rounded quotient
rounded_by_reciprocal : (n s : ℕ) → 0 < s → s < 2 ^ 27 → n + (s + 1) / 2 ≤ 2 ^ 27 → IsRounded n s (quotient_by (n + (s + 1) / 2) (reciprocal_of s))
rounded_by_reciprocal n s p small few =
    let a = n + (s + 1) / 2 in
    let m = reciprocal_of s in
    let r = (2 ^ 64 - 1) % s in
    let q = quotient_by a m in
    let low = a * m % 2 ^ 64 in
    let split : m * s + r + 1 ≡ 2 ^ 64 = omega (arith, div-add-mod' (2 ^ 64 - 1) s) in
    let rest : r < s = mod-lt (2 ^ 64 - 1) p in
    let fits : a * s ≤ 2 ^ 27 * 2 ^ 27 = mul-le a s (2 ^ 27) (2 ^ 27) few (omega arith) in
    let product : low + q * 2 ^ 64 ≡ a * m = omega (arith, div-add-mod' (a * m) (2 ^ 64)) in
    let below = high_below a s m r low q (2 ^ 64) (omega arith) split product in
    let above = high_above a s m r low q (2 ^ 64) p split rest (omega arith) (omega arith) product in
    record { below = omega arith; above = omega arith }

-- the quotient by a step number of 0
none_by_reciprocal : (n : ℕ) → quotient_by n (reciprocal_of 0) ≡ 0
none_by_reciprocal n = rw (div-zero (2 ^ 64 - 1), mul-zero) (zero-div (2 ^ 64))

-- a coefficient of 16 bits in parts of 2 ^ b
pub size_few : (n b : ℕ) → n ≤ 2 ^ 15 → b ≤ 10 → n * 2 ^ b ≤ 2 ^ 25
size_few n b small few = let power : 2 ^ b ≤ 2 ^ 10 = pow_mono few in mul-le n (2 ^ b) (2 ^ 15) (2 ^ 10) small power

-- a coefficient from 0 up has a level from 0 up
level_of_above : (a q : ℕ) → level_of (int_lt (pos a) (pos 0)) q ≡ pos (min q 32767)
level_of_above a q = let e : int_lt (pos a) (pos 0) ≡ false = grind (arith, ints) in rw e refl

-- a size of 0 gives the level 0
level_of_none : (c : ℤ) → level_of (int_lt c (pos 0)) 0 ≡ pos 0
level_of_none (pos a) = level_of_above a 0
level_of_none (negsuc a) = refl

-- the level of a coefficient by its rounded quotient
abbrev level_by_quotient : ℤ → ℕ → ℕ → ℤ
level_by_quotient c s b = level_of (int_lt c (pos 0)) (quotient_by (rounded_size c s b) (reciprocal_of s))

-- the level of a rounded quotient is nearest
pub nearest_by_rounded : (c : ℤ) (s b q : ℕ) → 0 < s → IsRounded (unsigned_abs c * 2 ^ b) s q → IsNearest c s b (level_of (int_lt c (pos 0)) q)
nearest_by_rounded (pos a) s b q some rounded = rw (level_of_above a q) (nearest_above a s b q (min q 32767) some rounded refl)
nearest_by_rounded (negsuc a) s b q some rounded = nearest_below a s b q (min q 32768) some rounded refl

-- it is nearest
nearest_by_quotient : (c : ℤ) (s b : ℕ) → s < 2 ^ 27 → rounded_size c s b ≤ 2 ^ 27 → IsNearest c s b (level_by_quotient c s b)
nearest_by_quotient c zero b small few = rw (none_by_reciprocal (rounded_size c 0 b), level_of_none c) (nearest_of_none c b)
nearest_by_quotient c (suc s) b small few =
    let q = quotient_by (rounded_size c (suc s) b) (reciprocal_of (suc s)) in
    let rounded = rounded_by_reciprocal (unsigned_abs c * 2 ^ b) (suc s) (omega arith) small few in
    nearest_by_rounded c (suc s) b q (omega arith) rounded

-- the same by the steps of the code
pub nearest_by_steps : (c r : ℤ) (s b size q m : ℕ) → s < 2 ^ 27 → size ≤ 2 ^ 27 → m ≡ reciprocal_of s → size ≡ rounded_size c s b → q ≡ quotient_by size m → r ≡ level_of (int_lt c (pos 0)) q → IsNearest c s b r
nearest_by_steps c r s b size q m small few is by_size by_quotient by_level =
    rw (by_level, by_quotient, by_size, is) (nearest_by_quotient c s b small (rw by_size at few))

-- and over the bits of signed numbers
pub nearest_value : (c r : ℤ) (s b size q m : ℕ) → FitsSigned w16 c → FitsSigned w16 r → s < 2 ^ 27 → size ≤ 2 ^ 27 → m ≡ reciprocal_of s → size ≡ rounded_size (to_z w16 (of_z w16 c)) s b → q ≡ quotient_by size m → r ≡ level_of (int_lt (to_z w16 (of_z w16 c)) (pos 0)) q → IsNearest c s b (to_z w16 (of_z w16 r))
nearest_value c r s b size q m fc fr small few is by_size by_quotient by_level =
    let back = to_z-of_z w16 c fc in
    rw (to_z-of_z w16 r fr) (nearest_by_steps c r s b size q m small few is (rw back at by_size) by_quotient (rw back at by_level))
