-- Worked numbers: coefficients of flat blocks at the maximum sample, their levels, and the samples that a decoder makes of
-- them.
use Rattle.std.proofs.Common.{◌≡◌, ◌≤◌, ℕ, ℤ, pos, negsuc, refl, lit<, arith}
use Rattle.std.proofs.lemmas.Int.{ints}
use Rattle.std.specs.Prelude.{if◌then◌else◌, ◌==◌, ◌&&◌, unsigned_abs}
use Rattle.apv_base.specs.declared.format.Chroma.TheVariants.{C400}
use Rattle.apv_base.specs.model.Encode.{coefficient}
use Rattle.apv_base.specs.model.Grid.{Grid, grid_with}
use Rattle.apv_base.specs.model.Quant.{scaled, step_number, shift_of, distance, IsNearest}
use Rattle.apv_base.specs.model.Transform.{sample_of, coefficient_of, column_sum, residual, row_sum}

-- each residual of a block is the same
abbrev same : ℤ → ℕ → ℕ → ℤ
same z y x = z

-- a block whose first coefficient alone isn't 0
abbrev first_only : ℤ → ℕ → ℕ → ℤ
first_only z u v = if u == 0 && (v == 0) then z else pos 0

-- 10 bits, all samples 1023: the first coefficient is 16352, and the others are 0
pub flat_10 : (coefficient_of (same (pos 511)) 10 0 0 ≡ pos 16352) × (coefficient_of (same (pos 511)) 10 0 1 ≡ pos 0) × (coefficient_of (same (pos 511)) 10 7 7 ≡ pos 0)
unfolding row_sum coefficient_of
flat_10 = (refl, refl, refl)

-- a picture of one sample, 1023: each block of its macroblock is filled with it, and the first coefficient of the last
-- block is 16352 too
abbrev single : Grid
single = grid_with (record { width = 1; height = 1; chroma = C400; depth = 10 }) 16 16

abbrev one_sample : ℕ → ℕ → ℕ → ℕ
one_sample comp x y = if x == 0 && (y == 0) then 1023 else 0

pub padded : coefficient single one_sample 0 0 3 0 0 ≡ pos 16352
unfolding row_sum coefficient_of
padded = refl

-- with a matrix of ones at QP 0 its level is the maximum permitted, 32767, which is scaled to 5120: the samples are 672
pub cut_level : (step_number 1 0 ≡ 40) × (scaled (pos 32767) (step_number 1 0) (shift_of 10) ≡ pos 5120)
cut_level = (refl, refl)

pub cut_samples : (sample_of (first_only (pos 5120)) 10 0 0 ≡ 672) × (sample_of (first_only (pos 5120)) 10 7 7 ≡ 672)
unfolding column_sum residual
cut_samples = (refl, refl)

-- 12 bits, all samples 4095: the first coefficient is 16376, and the others are 0
pub flat_12 : (coefficient_of (same (pos 2047)) 12 0 0 ≡ pos 16376) × (coefficient_of (same (pos 2047)) 12 1 0 ≡ pos 0)
unfolding row_sum coefficient_of
flat_12 = (refl, refl)

-- at QP 0 with a flat matrix the step number is 640 and the shift 10; the nearest level is 26202
pub step_12 : (step_number 16 0 ≡ 640) × (shift_of 12 ≡ 10)
step_12 = (refl, refl)

least_16376 : (k : ℤ) → distance (pos 16376) 640 10 (pos 26202) ≤ distance (pos 16376) 640 10 k
least_16376 (pos n) = omega (arith, ints)
least_16376 (negsuc n) = omega (arith, ints)

nearer_16376 : (k : ℤ) → distance (pos 16376) 640 10 k ≡ distance (pos 16376) 640 10 (pos 26202) → 26202 ≤ unsigned_abs k
nearer_16376 (pos n) e = omega (arith, ints, e)
nearer_16376 (negsuc n) e = omega (arith, ints, e)

pub nearest_16376 : IsNearest (pos 16376) 640 10 (pos 26202)
nearest_16376 = record { permitted = lit< tt; least = λ k h. least_16376 k; nearer = λ k h e. nearer_16376 k e }

-- it is scaled to 16376 again, and the samples are 4095
pub scaled_26202 : scaled (pos 26202) (step_number 16 0) (shift_of 12) ≡ pos 16376
scaled_26202 = refl

pub samples_12 : (sample_of (first_only (pos 16376)) 12 0 0 ≡ 4095) × (sample_of (first_only (pos 16376)) 12 7 7 ≡ 4095)
unfolding column_sum residual
samples_12 = (refl, refl)
