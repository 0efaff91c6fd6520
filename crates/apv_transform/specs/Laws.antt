-- Bounds of the values of the two transforms.
use Rattle.std.specs.Prelude.{ℕ, ℤ, pos, neg_ℤ, ◌-◌, ◌^◌, ◌<◌, ◌≤◌, ◌≤ℤ◌, unsigned_abs}
use Rattle.apv_base.specs.model.Transform.{column_sum, row_sum, coefficient_of}

-- a residual of a sample of a depth
abbrev pub IsResidual : ℕ → ℤ → Type 0
IsResidual depth z = (neg_ℤ (pos (2 ^ (depth - 1))) ≤ℤ z) × (z ≤ℤ pos (2 ^ (depth - 1) - 1))

-- coefficients of 16 bits have sums over the columns that are no further than 122624 from 0
abbrev pub HasBoundedColumnSums : Type 0
HasBoundedColumnSums = (d : ℕ → ℕ → ℤ) → ((u v : ℕ) → unsigned_abs (d u v) ≤ 32768)
    → (y v : ℕ) → y < 8 → v < 8 → unsigned_abs (column_sum d y v) ≤ 122624

-- residuals of a depth have sums over the rows that are no further than 16384 from 0
abbrev pub HasBoundedRowSums : ℕ → Type 0
HasBoundedRowSums depth = (e : ℕ → ℕ → ℤ) → ((y x : ℕ) → IsResidual depth (e y x))
    → (y v : ℕ) → y < 8 → v < 8 → unsigned_abs (row_sum e depth y v) ≤ 16384

-- residuals of a depth have coefficients that are no further than 16384 from 0
abbrev pub HasBoundedCoefficients : ℕ → Type 0
HasBoundedCoefficients depth = (e : ℕ → ℕ → ℤ) → ((y x : ℕ) → IsResidual depth (e y x))
    → (u v : ℕ) → u < 8 → v < 8 → unsigned_abs (coefficient_of e depth u v) ≤ 16384
