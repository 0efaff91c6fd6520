-- Lines of eight values, a row or a column of a block, and the sums of one pass over them.
use Rattle.std.specs.Prelude.{ℕ, ℤ, pos, ◌+◌, ◌*◌, ◌+ℤ◌, ◌*ℤ◌, ◌<◌, ◌≤◌, List, slice_index_or, unsigned_abs}

-- the value at a place of a line or a block
abbrev pub value_at : List ℤ → ℕ → ℤ
value_at values place = slice_index_or values place (pos 0)

-- a value is no further than the bound from 0
pub record IsBounded (bound : ℕ) (z : ℤ) : Type 0 where
  pub size : unsigned_abs z ≤ bound

-- the first values of a list are within a bound
abbrev pub AreBounded : ℕ → ℕ → List ℤ → Type 0
AreBounded bound count values = (place : ℕ) → place < count → IsBounded bound (value_at values place)

-- the sum of a term over 0 to 3
abbrev pub sum_4 : (ℕ → ℤ) → ℤ
sum_4 term = term 0 +ℤ term 1 +ℤ term 2 +ℤ term 3

-- two values from a place on, summed with the weights at the places 2 * k and 2 * k + 1
abbrev pub pair_sum : (ℕ → ℤ) → (ℕ → ℤ) → ℕ → ℕ → ℤ
pair_sum value weight place k =
    value place *ℤ weight (2 * k) +ℤ value (place + 1) *ℤ weight (2 * k + 1)
