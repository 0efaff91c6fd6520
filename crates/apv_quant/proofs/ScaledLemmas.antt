-- The ranges on the way to a scaled level.
use Rattle.std.proofs.Common.{◌≡◌, ℕ, zero, suc, ◌+◌, ◌-◌, ◌*◌, ◌/◌, ◌^◌, ◌<◌, ◌≤◌, refl, sym, ap, ap₂, ◌∙◌, arith}
use Rattle.std.proofs.Math.Nat.{mul-div-mul_right, mul-add-div_right, div-eq_of_lt, div-div-eq-div-mul, mul_comm, add-zero}
use Rattle.std.proofs.lemmas.Int.{ints, to_z-of_z, unsigned_abs-mul}
use Rattle.std.proofs.lemmas.Nat.{mul-le, pow-add, pow_pos, div_below}
use Rattle.std.proofs.Math.IntN.{negsuc-*ℤ-pos}
use Rattle.std.proofs.Math.Pow.{pow_mono}
use Rattle.std.specs.Int.{Width, w16, w32, w64, int_shr, cast_signed as to_z, cast_unsigned as of_z}
use Rattle.apv_base.specs.model.Quant.{clamped, scaled}
use Rattle.std.specs.Int.Signed.{mag, mag_shr, shr_z}
use Rattle.std.specs.Prelude.{ℤ, pos, negsuc, ◌*ℤ◌, ◌+ℤ◌, neg_ℤ, ◌<ℤ◌, ◌≤ℤ◌, unsigned_abs, FitsSigned}

-- what rounds is small
half_small : (b : ℕ) → b ≤ 10 → 2 ^ (b - 1) ≤ 512
half_small b h = let e : b - 1 ≤ 9 = omega arith in pow_mono e

-- a level of 16 bits times a step number
product_size : (l : ℤ) (s n : ℕ) → FitsSigned w16 l → s ≤ n → unsigned_abs (l *ℤ pos s) ≤ 2 ^ 15 * n
product_size l s n f h =
    let size : unsigned_abs l ≤ 2 ^ 15 = omega (arith, ints) in
    omega (arith, unsigned_abs-mul l (pos s), mul-le (unsigned_abs l) s (2 ^ 15) n size h)

-- a rounded product fits 32 bits for a step number of 16 bits, and 64 bits for each
narrow_fits : (l : ℤ) (s b : ℕ) → FitsSigned w16 l → s < 2 ^ 16 → b ≤ 10 → FitsSigned w32 (l *ℤ pos s +ℤ pos (2 ^ (b - 1)))
narrow_fits l s b f small high =
    let half = half_small b high in
    let size = product_size l s (2 ^ 16 - 1) f (omega arith) in
    omega (arith, ints)

wide_fits : (l : ℤ) (s b : ℕ) → FitsSigned w16 l → s < 2 ^ 27 → b ≤ 10 → FitsSigned w64 (l *ℤ pos s +ℤ pos (2 ^ (b - 1)))
wide_fits l s b f small high =
    let half = half_small b high in
    let size = product_size l s (2 ^ 27) f (omega arith) in
    omega (arith, ints)

-- a shifted number is below m where the number is below m * 2 ^ b
shifted_fits : (z : ℤ) (b m : ℕ) → mag z < m * 2 ^ b → mag (int_shr z b) < m
shifted_fits (pos n) b m h = div_below n (2 ^ b) m (pow_pos b) h
shifted_fits (negsuc n) b m h = div_below n (2 ^ b) m (pow_pos b) h

-- what fits also fits shifted
shift_fits : (w : Width) (z : ℤ) (b : ℕ) → FitsSigned w z → FitsSigned w (int_shr z b)
shift_fits w z b f = let small = mag_shr z (2 ^ b) in record { sfits = omega (arith, f.sfits, small) }

-- the measure of a range by two bounds
mag_below : (z : ℤ) (m : ℕ) → z <ℤ pos m → neg_ℤ (pos m) ≤ℤ z → mag z < m
mag_below (pos n) m high low = omega (arith, ints)
mag_below (negsuc n) m high low = omega (arith, ints)

-- a scaled level fits 32 bits before it is clipped
pub wide_shift_fits : (l : ℤ) (s b : ℕ) → FitsSigned w16 l → s < 2 ^ (16 + b) → b ≤ 10 → FitsSigned w32 (int_shr (l *ℤ pos s +ℤ pos (2 ^ (b - 1))) b)
wide_shift_fits l s b f small high =
    let half = half_small b high in
    let size = product_size l s (2 ^ (16 + b) - 1) f (omega arith) in
    let power : 2 ^ (16 + b) ≡ 2 ^ 16 * 2 ^ b = pow-add 2 16 b in
    let z = l *ℤ pos s +ℤ pos (2 ^ (b - 1)) in
    let most : mag z < 2 ^ 31 * 2 ^ b = mag_below z (2 ^ 31 * 2 ^ b) (omega (arith, ints)) (omega (arith, ints)) in
    record { sfits = shifted_fits z b (2 ^ 31) most }

-- ---- what the code computes, over the bits of signed numbers

-- the rounded product fits
pub narrow_sum : (l p h : ℤ) (s b : ℕ) → FitsSigned w16 l → s < 2 ^ 16 → b ≤ 10 → p ≡ to_z w16 (of_z w16 l) *ℤ pos s → h ≡ pos (2 ^ (b - 1)) → FitsSigned w32 (to_z w32 (of_z w32 p) +ℤ to_z w32 (of_z w32 h))
narrow_sum l p h s b f small high product half =
    let size = half_small b high in
    let most = product_size l s (2 ^ 16 - 1) f (omega arith) in
    let is : p ≡ l *ℤ pos s = grind (arith, to_z-of_z) in
    omega (arith, ints)

-- the clipped value is the scaled level
pub narrow_value : (l p h r : ℤ) (s b : ℕ) → FitsSigned w16 l → s < 2 ^ 16 → b ≤ 10 → p ≡ to_z w16 (of_z w16 l) *ℤ pos s → h ≡ pos (2 ^ (b - 1)) → r ≡ clamped (negsuc 32767) (pos 32767) (to_z w32 (of_z w32 (int_shr (to_z w32 (of_z w32 (to_z w32 (of_z w32 p) +ℤ to_z w32 (of_z w32 h)))) b))) → FitsSigned w16 r → to_z w16 (of_z w16 r) ≡ scaled l s b
narrow_value l p h r s b f small high product half value fr =
    let sum = narrow_fits l s b f small high in
    let shifted = shift_fits w32 (l *ℤ pos s +ℤ pos (2 ^ (b - 1))) b sum in
    let size = half_small b high in
    let most = product_size l s (2 ^ 16 - 1) f (omega arith) in
    let is : p ≡ l *ℤ pos s = grind (arith, to_z-of_z) in
    let e1 : to_z w32 (of_z w32 p) ≡ l *ℤ pos s = omega (arith, ints) in
    let e2 : to_z w32 (of_z w32 h) ≡ pos (2 ^ (b - 1)) = omega (arith, ints) in
    rw (to_z-of_z w16 r fr, value, e1, e2, to_z-of_z w32 (l *ℤ pos s +ℤ pos (2 ^ (b - 1))) sum, to_z-of_z w32 (int_shr (l *ℤ pos s +ℤ pos (2 ^ (b - 1))) b) shifted) refl

-- the rounded product is exact
pub wide_sum : (l p g h : ℤ) (s b : ℕ) → FitsSigned w16 l → s < 2 ^ 27 → b ≤ 10 → p ≡ to_z w16 (of_z w16 l) *ℤ pos s → g ≡ pos (2 ^ (b - 1)) → h ≡ to_z w32 (of_z w32 g) → to_z w64 (of_z w64 (to_z w64 (of_z w64 p) +ℤ to_z w64 (of_z w64 h))) ≡ l *ℤ pos s +ℤ pos (2 ^ (b - 1))
wide_sum l p g h s b f small high product half same =
    let sum = wide_fits l s b f small high in
    let size = half_small b high in
    let most = product_size l s (2 ^ 27) f (omega arith) in
    let is : p ≡ l *ℤ pos s = grind (arith, to_z-of_z) in
    let e1 : to_z w64 (of_z w64 p) ≡ l *ℤ pos s = omega (arith, ints) in
    let e2 : to_z w64 (of_z w64 h) ≡ pos (2 ^ (b - 1)) = omega (arith, ints) in
    rw (e1, e2, to_z-of_z w64 (l *ℤ pos s +ℤ pos (2 ^ (b - 1))) sum) refl

-- and so is the shifted product
pub wide_shift : (l x : ℤ) (s b : ℕ) → FitsSigned w16 l → s < 2 ^ 27 → s < 2 ^ (16 + b) → b ≤ 10 → x ≡ l *ℤ pos s +ℤ pos (2 ^ (b - 1)) → to_z w64 (of_z w64 (int_shr x b)) ≡ int_shr (l *ℤ pos s +ℤ pos (2 ^ (b - 1))) b
wide_shift l x s b f small within high is =
    let z = l *ℤ pos s +ℤ pos (2 ^ (b - 1)) in
    rw (is, to_z-of_z w64 (int_shr z b) (shift_fits w64 z b (wide_fits l s b f small high))) refl

-- the clipped value is the scaled level
pub wide_value : (l x r : ℤ) (s b : ℕ) → FitsSigned w16 l → s < 2 ^ 27 → s < 2 ^ (16 + b) → b ≤ 10 → x ≡ l *ℤ pos s +ℤ pos (2 ^ (b - 1)) → r ≡ clamped (negsuc 32767) (pos 32767) (to_z w32 (of_z w32 (to_z w64 (of_z w64 (int_shr x b))))) → FitsSigned w16 r → to_z w16 (of_z w16 r) ≡ scaled l s b
wide_value l x r s b f small within high is value fr =
    let z = l *ℤ pos s +ℤ pos (2 ^ (b - 1)) in
    rw (to_z-of_z w16 r fr, value, wide_shift l x s b f small within high is, to_z-of_z w32 (int_shr z b) (wide_shift_fits l s b f within high)) refl

-- ---- step numbers over a power of 2

-- a shift of a multiple
shift_multiple : (x : ℤ) (p m : ℕ) → 0 < p → shr_z (x *ℤ pos p) (m * p) ≡ shr_z x m
shift_multiple (pos n) p m some = ap pos (mul-div-mul_right n m some)
shift_multiple (negsuc n) zero m some = absurd (omega arith)
shift_multiple (negsuc n) (suc j) m some =
    let value : negsuc n *ℤ pos (suc j) ≡ negsuc (n * suc j + j) = omega (arith, ints) in
    let one : (n * suc j + j) / suc j ≡ n + j / suc j = mul-add-div_right {m = suc j} (omega arith) n j in
    let rest : j / suc j ≡ 0 = div-eq_of_lt (omega arith) in
    let two : (n * suc j + j) / (m * suc j) ≡ n / m = rw (mul_comm m (suc j), ← div-div-eq-div-mul (n * suc j + j) (suc j) m, one, rest, add-zero n) refl in
    rw (value, two) refl

-- a difference times a number
difference_times : (z : ℤ) (x y p : ℕ) → z +ℤ pos y ≡ pos x → z *ℤ pos p +ℤ pos (y * p) ≡ pos (x * p)
difference_times (pos n) x y p h =
    let e : n + y ≡ x = omega (arith, ints) in omega (arith, ints, ap (λ k. k * p) e)
difference_times (negsuc n) x y p h =
    let e : x + suc n ≡ y = omega (arith, ints) in omega (arith, ints, negsuc-*ℤ-pos n p, ap (λ k. k * p) e)

-- a level times a step number that is a multiple, rounded
rounded_multiple : (l : ℤ) (k p h : ℕ) → l *ℤ pos (k * p) +ℤ pos (h * p) ≡ (l *ℤ pos k +ℤ pos h) *ℤ pos p
rounded_multiple (pos a) k p h = ap pos (omega arith)
rounded_multiple (negsuc a) k p h =
    let z = negsuc a *ℤ pos k +ℤ pos h in
    let is : z +ℤ pos (suc a * k) ≡ pos h = omega (arith, ints, negsuc-*ℤ-pos a k) in
    omega (arith, ints, negsuc-*ℤ-pos a (k * p), difference_times z h (suc a * k) p is)

-- a step number and a shift that are both less by one power of 2 scale as they do
pub scaled_reduced : (l : ℤ) (s b t : ℕ) → s / 2 ^ t * 2 ^ t ≡ s → t < b → scaled l (s / 2 ^ t) (b - t) ≡ scaled l s b
scaled_reduced l s b t multiple low =
    let k = s / 2 ^ t in
    let p = 2 ^ t in
    let h = 2 ^ (b - t - 1) in
    let half : h * p ≡ 2 ^ (b - 1) = rw (← pow-add 2 (b - t - 1) t) (ap (λ j. 2 ^ j) {y = b - 1} (omega arith)) in
    let whole : 2 ^ (b - t) * p ≡ 2 ^ b = rw (← pow-add 2 (b - t) t) (ap (λ j. 2 ^ j) {y = b} (omega arith)) in
    let is : l *ℤ pos s +ℤ pos (2 ^ (b - 1)) ≡ (l *ℤ pos k +ℤ pos h) *ℤ pos p =
    ap₂ (λ x y. l *ℤ pos x +ℤ pos y) (sym multiple) (sym half) ∙ rounded_multiple l k p h in
    rw (is, ← whole, shift_multiple (l *ℤ pos k +ℤ pos h) p (2 ^ (b - t)) (pow_pos t)) refl
