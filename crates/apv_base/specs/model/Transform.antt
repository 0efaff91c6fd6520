-- The two transforms of a block of 8x8, as their sums with two roundings.
use Rattle.std.specs.Prelude.{ℕ, ℤ, pos, negsuc, ◌+ℤ◌, ◌-ℤ◌, ◌*ℤ◌, ◌+◌, ◌-◌, ◌*◌, ◌^◌, List, [], ◌∷◌, slice_index}
use Rattle.std.specs.Prelude.{slice_index_or, unsigned_abs}
use Rattle.std.specs.Int.{int_shr}
use Rattle.apv_base.specs.model.Quant.{clamped}

-- the transform matrix: a row for each frequency, a column for each sample position
abbrev pub transform_matrix : List (List ℤ)
transform_matrix =
    (pos 64 ∷ pos 64 ∷ pos 64 ∷ pos 64 ∷ pos 64 ∷ pos 64 ∷ pos 64 ∷ pos 64 ∷ [])
    ∷ (pos 89 ∷ pos 75 ∷ pos 50 ∷ pos 18 ∷ negsuc 17 ∷ negsuc 49 ∷ negsuc 74 ∷ negsuc 88 ∷ [])
    ∷ (pos 84 ∷ pos 35 ∷ negsuc 34 ∷ negsuc 83 ∷ negsuc 83 ∷ negsuc 34 ∷ pos 35 ∷ pos 84 ∷ [])
    ∷ (pos 75 ∷ negsuc 17 ∷ negsuc 88 ∷ negsuc 49 ∷ pos 50 ∷ pos 89 ∷ pos 18 ∷ negsuc 74 ∷ [])
    ∷ (pos 64 ∷ negsuc 63 ∷ negsuc 63 ∷ pos 64 ∷ pos 64 ∷ negsuc 63 ∷ negsuc 63 ∷ pos 64 ∷ [])
    ∷ (pos 50 ∷ negsuc 88 ∷ pos 18 ∷ pos 75 ∷ negsuc 74 ∷ negsuc 17 ∷ pos 89 ∷ negsuc 49 ∷ [])
    ∷ (pos 35 ∷ negsuc 83 ∷ pos 84 ∷ negsuc 34 ∷ negsuc 34 ∷ pos 84 ∷ negsuc 83 ∷ pos 35 ∷ [])
    ∷ (pos 18 ∷ negsuc 49 ∷ pos 75 ∷ negsuc 88 ∷ pos 89 ∷ negsuc 74 ∷ pos 50 ∷ negsuc 17 ∷ [])
    ∷ []

-- the entry of a frequency at a position
abbrev pub transform_entry : ℕ → ℕ → ℤ
transform_entry frequency position = slice_index_or (slice_index_or transform_matrix frequency []) position (pos 0)

-- the sum of a term over 0 to 7
abbrev pub sum_8 : (ℕ → ℤ) → ℤ
sum_8 term = term 0 +ℤ term 1 +ℤ term 2 +ℤ term 3 +ℤ term 4 +ℤ term 5 +ℤ term 6 +ℤ term 7

-- z / 2 ^ n, rounded
abbrev pub rounded : ℕ → ℤ → ℤ
rounded n z = int_shr (z +ℤ pos (2 ^ (n - 1))) n

-- ---- from coefficients to samples; d u v is the coefficient at place 8 * u + v

-- the first pass, over columns
unfoldable pub column_sum : (ℕ → ℕ → ℤ) → ℕ → ℕ → ℤ
column_sum d y v = rounded 7 (sum_8 (λ u. transform_entry u y *ℤ d u v))

-- the second pass, over rows
unfoldable pub residual : (ℕ → ℕ → ℤ) → ℕ → ℕ → ℕ → ℤ
residual d depth y x = rounded (20 - depth) (sum_8 (λ v. transform_entry v x *ℤ column_sum d y v))

-- the sample at x, y of a block
abbrev pub sample_of : (ℕ → ℕ → ℤ) → ℕ → ℕ → ℕ → ℕ
sample_of d depth y x =
    unsigned_abs (clamped (pos 0) (pos (2 ^ depth - 1)) (residual d depth y x +ℤ pos (2 ^ (depth - 1))))

-- ---- from residuals to coefficients; e y x is the residual at x, y

-- the first pass, over rows
unfoldable pub row_sum : (ℕ → ℕ → ℤ) → ℕ → ℕ → ℕ → ℤ
row_sum e depth y v = rounded (depth - 6) (sum_8 (λ x. transform_entry v x *ℤ e y x))

-- the coefficient at place 8 * u + v
unfoldable pub coefficient_of : (ℕ → ℕ → ℤ) → ℕ → ℕ → ℕ → ℤ
coefficient_of e depth u v = rounded 9 (sum_8 (λ y. transform_entry u y *ℤ row_sum e depth y v))

-- ---- a block as a list of 64 values, row after row

-- the coefficient at place 8 * u + v
abbrev pub coefficient_at : List ℤ → ℕ → ℕ → ℤ
coefficient_at block u v = slice_index_or block (8 * u + v) (pos 0)

-- the residual of the sample at x, y
abbrev pub residual_at : List ℕ → ℕ → ℕ → ℕ → ℤ
residual_at block depth y x = pos (slice_index block (8 * y + x)) -ℤ pos (2 ^ (depth - 1))
