-- A block as eight vectors of eight lanes, and what its lanes hold.
use Rattle.std.specs.Prelude.{ℕ, ℤ, pos, negsuc, ◌<◌, ◌≤ℤ◌, List, [], slice_index_or}
use Rattle.std.specs.Int.RustNames.{FitsSigned}
use Rattle.std.specs.Int.{w16}
use Rattle.apv_transform.specs.Line.{AreBounded, value_at}

-- the value in a lane of an element
abbrev pub lane_at : List (List ℤ) → ℕ → ℕ → ℤ
lane_at block element lane = value_at (slice_index_or block element []) lane

-- the lanes of the first elements are within a bound
abbrev pub AreLanesBounded : ℕ → ℕ → List (List ℤ) → Type 0
AreLanesBounded bound count block = (element : ℕ) → element < count
    → AreBounded bound 8 (slice_index_or block element [])

-- the lanes of a vector are numbers of 16 bits
abbrev pub AreOf16Bits : List ℤ → Type 0
AreOf16Bits vector = (lane : ℕ) → lane < 8 → FitsSigned w16 (value_at vector lane)

-- the same of each of the first elements
abbrev pub AreLanesOf16Bits : ℕ → List (List ℤ) → Type 0
AreLanesOf16Bits count block = (element : ℕ) → element < count
    → AreOf16Bits (slice_index_or block element [])

-- the lanes of the first elements are from -16384 to 16383, so 16 bits hold the sum of two
abbrev pub AreLanesHalved : ℕ → List (List ℤ) → Type 0
AreLanesHalved count block = (element lane : ℕ) → element < count → lane < 8
    → (negsuc 16383 ≤ℤ lane_at block element lane) × (lane_at block element lane ≤ℤ pos 16383)
