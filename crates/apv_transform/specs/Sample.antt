-- The samples and the coefficients of a block, and a sample and its residual.
use Rattle.std.specs.Prelude.{◌≡◌, ℕ, ℤ, pos, ◌+ℤ◌, ◌+◌, ◌-◌, ◌*◌, ◌^◌, ◌<◌, List, slice_index, unsigned_abs}
use Rattle.apv_base.specs.model.Quant.{clamped}
use Rattle.apv_base.specs.model.Transform.{sample_of, coefficient_of, coefficient_at, residual_at}
use Rattle.apv_transform.specs.Lanes.{lane_at}
use Rattle.apv_transform.specs.Pass.{inverse_of}

-- each of 64 samples is below 2 ^ depth
abbrev pub AreSamplesOfDepth : ℕ → List ℕ → Type 0
AreSamplesOfDepth depth samples = (place : ℕ) → place < 64 → slice_index samples place < 2 ^ depth

-- the samples of a block are those of its coefficients
abbrev pub AreSamplesOf : ℕ → List ℤ → List ℕ → Type 0
AreSamplesOf depth coeffs samples = (y x : ℕ) → y < 8 → x < 8
    → slice_index samples (8 * y + x) ≡ sample_of (coefficient_at coeffs) depth y x

-- the coefficients of a block are those of its samples
abbrev pub AreCoefficientsOf : ℕ → List ℕ → List ℤ → Type 0
AreCoefficientsOf depth samples coeffs = (u v : ℕ) → u < 8 → v < 8
    → coefficient_at coeffs u v ≡ coefficient_of (residual_at samples depth) depth u v

-- ---- on the way to samples

-- the sample of a residual, kept in the range of the depth
abbrev pub sample_of_residual : ℤ → ℕ → ℕ
sample_of_residual residual depth =
    unsigned_abs (clamped (pos 0) (pos (2 ^ depth - 1)) (residual +ℤ pos (2 ^ (depth - 1))))

-- a block of samples is the second pass of the inverse transform of the values between the passes
abbrev pub AreSamplesOfSums : ℕ → List (List ℤ) → List ℕ → Type 0
AreSamplesOfSums depth sums samples = (y x : ℕ) → y < 8 → x < 8
    → slice_index samples (8 * y + x)
    ≡ sample_of_residual (inverse_of (20 - depth) (lane_at sums y) x) depth
