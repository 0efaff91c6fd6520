-- One pass of a transform over a line of eight values: its sums, rounded.
use Rattle.std.specs.Prelude.{◌≡◌, ℕ, ℤ, ◌+◌, ◌*◌, ◌*ℤ◌, ◌<◌, List}
use Rattle.apv_base.specs.model.Transform.{transform_entry, sum_8, rounded}
use Rattle.apv_transform.specs.Line.{sum_4}
use Rattle.apv_transform.specs.Lanes.{lane_at}

-- the value at a position of a line of eight frequencies
abbrev pub inverse_of : ℕ → (ℕ → ℤ) → ℕ → ℤ
inverse_of shift line position =
    rounded shift (sum_8 (λ frequency. transform_entry frequency position *ℤ line frequency))

-- the value at a frequency of a line of eight positions
abbrev pub forward_of : ℕ → (ℕ → ℤ) → ℕ → ℤ
forward_of shift line frequency =
    rounded shift (sum_8 (λ position. transform_entry frequency position *ℤ line position))

-- ---- sums of eight lines at once, one in each lane, at the positions 0 to 3

-- the sums over the even frequencies
abbrev pub AreEvenSums : List (List ℤ) → List (List ℤ) → Type 0
AreEvenSums lines sums = (k lane : ℕ) → k < 4 → lane < 8
    → lane_at sums k lane ≡ sum_4 (λ j. transform_entry (2 * j) k *ℤ lane_at lines (2 * j) lane)

-- the sums over the odd frequencies
abbrev pub AreOddSums : List (List ℤ) → List (List ℤ) → Type 0
AreOddSums lines sums = (k lane : ℕ) → k < 4 → lane < 8
    → lane_at sums k lane
    ≡ sum_4 (λ j. transform_entry (2 * j + 1) k *ℤ lane_at lines (2 * j + 1) lane)
