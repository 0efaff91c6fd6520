-- Worked numbers: scaled levels, nearest levels, samples and coefficients.
use Rattle.std.proofs.Common.{◌≡◌, ◌≤◌, ℕ, ℤ, pos, negsuc, refl, lit<, arith}
use Rattle.std.proofs.lemmas.Int.{ints}
use Rattle.std.specs.Prelude.{if◌then◌else◌, ◌==◌, ◌&&◌, unsigned_abs}
use Rattle.apv_base.specs.model.Quant.{scaled, step_number, shift_of, distance, IsLevel, IsNearest}
use Rattle.apv_base.specs.model.Transform.{sample_of, coefficient_of, column_sum, residual, row_sum}

-- 10 bits, QP 0, flat: 1 is scaled to 3, -1 to -2; level 100 at QP 22 to 3200
pub scaled_at_0 : (scaled (pos 1) (step_number 16 0) (shift_of 10) ≡ pos 3) × (scaled (negsuc 0) (step_number 16 0) (shift_of 10) ≡ negsuc 1)
scaled_at_0 = (refl, refl)

pub scaled_at_22 : scaled (pos 100) (step_number 16 22) (shift_of 10) ≡ pos 3200
scaled_at_22 = refl

-- QP 63, matrix value 255: the maximum and the least level stay, clipped
pub scaled_at_63 : (scaled (pos 32767) (step_number 255 63) (shift_of 10) ≡ pos 32767) × (scaled (negsuc 32767) (step_number 255 63) (shift_of 10) ≡ negsuc 32767)
scaled_at_63 = (refl, refl)

-- levels 1000 at places 0 and 8, -900 at places 4 and 12, at 10 bits, QP 22, flat: coefficients 32000 and -28800
abbrev pub large : ℕ → ℕ → ℤ
large u v = if v == 0 && (u == 0) then pos 32000 else (if v == 0 && (u == 1) then pos 32000 else (if v == 4 && (u == 0) then negsuc 28799 else (if v == 4 && (u == 1) then negsuc 28799 else pos 0)))

-- the value between the passes isn't clipped
pub large_samples : (sample_of large 10 0 0 ≡ 751) × (sample_of large 10 0 1 ≡ 1023) × (sample_of large 10 7 0 ≡ 473)
unfolding column_sum residual
large_samples = (refl, refl, refl)

-- the one level 1 at place 1 under a matrix value of 32, at QP 22: the coefficient 64 in the top row, second column
abbrev pub one : ℕ → ℕ → ℤ
one u v = if u == 0 && (v == 1) then pos 64 else pos 0

pub one_scaled : scaled (pos 1) (step_number 32 22) (shift_of 10) ≡ pos 64
one_scaled = refl

pub one_row : (sample_of one 10 3 0 ≡ 515) × (sample_of one 10 3 1 ≡ 514) × (sample_of one 10 3 2 ≡ 514) × (sample_of one 10 3 3 ≡ 513)
    × (sample_of one 10 3 4 ≡ 511) × (sample_of one 10 3 5 ≡ 510) × (sample_of one 10 3 6 ≡ 510) × (sample_of one 10 3 7 ≡ 509)
unfolding column_sum residual
one_row = (refl, refl, refl, refl, refl, refl, refl, refl)

-- one sample 1023 at x 0, y 0, all others 512, at 10 bits: the residual 511 there and 0 elsewhere
abbrev pub corner : ℕ → ℕ → ℤ
corner y x = if y == 0 && (x == 0) then pos 511 else pos 0

pub corner_coefficients : (coefficient_of corner 10 0 0 ≡ pos 256) × (coefficient_of corner 10 1 0 ≡ pos 355) × (coefficient_of corner 10 0 1 ≡ pos 355) × (coefficient_of corner 10 7 7 ≡ pos 20)
unfolding row_sum coefficient_of
corner_coefficients = (refl, refl, refl, refl)

-- ---- nearest levels at 10 bits, flat

-- the step numbers of the QPs 0, 22 and 63
pub steps : (step_number 16 0 ≡ 640) × (step_number 16 22 ≡ 8192) × (step_number 16 63 ≡ 933888) × (shift_of 10 ≡ 8)
steps = (refl, refl, refl, refl)

-- QP 22: half a step is nearest to 0, from both sides, and one and a half to 1; what is above half a step is nearest to 1
least_16 : (k : ℤ) → distance (pos 16) 8192 8 (pos 0) ≤ distance (pos 16) 8192 8 k
least_16 (pos n) = omega (arith, ints)
least_16 (negsuc n) = omega (arith, ints)

pub nearest_16 : IsNearest (pos 16) 8192 8 (pos 0)
nearest_16 = record { permitted = lit< tt; least = λ k h. least_16 k; nearer = λ k h same. omega arith }

least_-16 : (k : ℤ) → distance (negsuc 15) 8192 8 (pos 0) ≤ distance (negsuc 15) 8192 8 k
least_-16 (pos n) = omega (arith, ints)
least_-16 (negsuc n) = omega (arith, ints)

pub nearest_-16 : IsNearest (negsuc 15) 8192 8 (pos 0)
nearest_-16 = record { permitted = lit< tt; least = λ k h. least_-16 k; nearer = λ k h same. omega arith }

least_17 : (k : ℤ) → distance (pos 17) 8192 8 (pos 1) ≤ distance (pos 17) 8192 8 k
least_17 (pos n) = omega (arith, ints)
least_17 (negsuc n) = omega (arith, ints)

nearer_17 : (k : ℤ) → distance (pos 17) 8192 8 k ≡ distance (pos 17) 8192 8 (pos 1) → 1 ≤ unsigned_abs k
nearer_17 (pos n) same = omega (arith, ints, same)
nearer_17 (negsuc n) same = omega (arith, ints, same)

pub nearest_17 : IsNearest (pos 17) 8192 8 (pos 1)
nearest_17 = record { permitted = lit< tt; least = λ k h. least_17 k; nearer = λ k h same. nearer_17 k same }

least_48 : (k : ℤ) → distance (pos 48) 8192 8 (pos 1) ≤ distance (pos 48) 8192 8 k
least_48 (pos n) = omega (arith, ints)
least_48 (negsuc n) = omega (arith, ints)

nearer_48 : (k : ℤ) → distance (pos 48) 8192 8 k ≡ distance (pos 48) 8192 8 (pos 1) → 1 ≤ unsigned_abs k
nearer_48 (pos n) same = omega (arith, ints, same)
nearer_48 (negsuc n) same = omega (arith, ints, same)

pub nearest_48 : IsNearest (pos 48) 8192 8 (pos 1)
nearest_48 = record { permitted = lit< tt; least = λ k h. least_48 k; nearer = λ k h same. nearer_48 k same }

-- QP 0: of 1 the nearest level is 0; QP 63: of 1824, which is half a step, it is 0
least_1 : (k : ℤ) → distance (pos 1) 640 8 (pos 0) ≤ distance (pos 1) 640 8 k
least_1 (pos n) = omega (arith, ints)
least_1 (negsuc n) = omega (arith, ints)

pub nearest_1 : IsNearest (pos 1) 640 8 (pos 0)
nearest_1 = record { permitted = lit< tt; least = λ k h. least_1 k; nearer = λ k h same. omega arith }

least_1824 : (k : ℤ) → distance (pos 1824) 933888 8 (pos 0) ≤ distance (pos 1824) 933888 8 k
least_1824 (pos n) = omega (arith, ints)
least_1824 (negsuc n) = omega (arith, ints)

pub nearest_1824 : IsNearest (pos 1824) 933888 8 (pos 0)
nearest_1824 = record { permitted = lit< tt; least = λ k h. least_1824 k; nearer = λ k h same. omega arith }

-- with matrix values of 1 at QP 0 the step number is 40; of 16352 the nearest level is the maximum permitted
pub step_of_ones : step_number 1 0 ≡ 40
step_of_ones = refl

least_16352 : (k : ℤ) → IsLevel k → distance (pos 16352) 40 8 (pos 32767) ≤ distance (pos 16352) 40 8 k
least_16352 (pos n) h = omega (arith, ints, h)
least_16352 (negsuc n) h = omega (arith, ints, h)

nearer_16352 : (k : ℤ) → IsLevel k → distance (pos 16352) 40 8 k ≡ distance (pos 16352) 40 8 (pos 32767) → 32767 ≤ unsigned_abs k
nearer_16352 (pos n) h same = omega (arith, ints, h, same)
nearer_16352 (negsuc n) h same = omega (arith, ints, h, same)

pub nearest_16352 : IsNearest (pos 16352) 40 8 (pos 32767)
nearest_16352 = record { permitted = lit< tt; least = least_16352; nearer = nearer_16352 }
