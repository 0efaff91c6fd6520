-- The level that a rounded quotient gives.
use Rattle.std.specs.Prelude.{◌≡◌, ℕ, ℤ, pos, neg_ℤ, ◌+◌, ◌-◌, ◌*◌, ◌/◌, ◌^◌, ◌<◌, ◌≤◌, min, Bool, true, false}
use Rattle.std.specs.Prelude.{List, slice_index, slice_index_or, unsigned_abs, int_lt}

-- the reciprocal of a step number s: floor of (2 ^ 64 - 1) / s
abbrev pub reciprocal_of : ℕ → ℕ
reciprocal_of s = (2 ^ 64 - 1) / s

-- the size of a coefficient in parts of 2 ^ b, with half a step number, by which its quotient is rounded
abbrev pub rounded_size : ℤ → ℕ → ℕ → ℕ
rounded_size c s b = unsigned_abs c * 2 ^ b + (s + 1) / 2

-- the quotient of a size by a reciprocal
abbrev pub quotient_by : ℕ → ℕ → ℕ
quotient_by size reciprocal = size * reciprocal / 2 ^ 64

-- q is n / s, rounded to the nearest, halves down
pub record IsRounded (n s q : ℕ) : Type 0 where
  pub below : 2 * (q * s) < 2 * n + s
  pub above : 2 * n ≤ 2 * (q * s) + s

-- the quotient of a coefficient's size by a reciprocal of 32 bits
abbrev pub short_quotient : ℕ → ℕ → ℕ
short_quotient size reciprocal = (size * reciprocal + (2 ^ 31 - 2 ^ 16)) / 2 ^ 32

-- a reciprocal of 32 bits of a step number s at a shift b: it gives the rounded quotient of each
-- size of 16 bits, and none is above 32,767
pub record IsShortReciprocal (s b reciprocal : ℕ) : Type 0 where
  pub some : 0 < s
  pub few : reciprocal < 65534 * 2 ^ 16
  pub exact : (size : ℕ) → size ≤ 2 ^ 15
      → IsRounded (size * 2 ^ b) s (short_quotient size reciprocal)

-- a step number s that has a reciprocal of 32 bits at a shift b, where it is a multiple of 2 ^ t
pub record IsShortStep (s b t : ℕ) : Type 0 where
  pub low : 2 ^ b < s
  pub high : s ≤ 2 ^ 15 * 2 ^ t

-- the level of a sign and a size, kept in the permitted range
abbrev pub level_of : Bool → ℕ → ℤ
level_of false size = pos (min size 32767)
level_of true size = neg_ℤ (pos (min size 32768))

-- the level of a coefficient by a reciprocal of 32 bits
abbrev pub short_level : ℤ → ℕ → ℤ
short_level c reciprocal = level_of (int_lt c (pos 0)) (short_quotient (unsigned_abs c) reciprocal)

-- ---- the same of the 64 places of a block

-- the sizes of coefficients, each with half its step number
abbrev pub AreRoundedSizes : List ℕ → ℕ → List ℤ → List ℕ → Type 0
AreRoundedSizes steps shift coeffs sizes = (place : ℕ) → place < 64
    → slice_index sizes place
    ≡ rounded_size (slice_index_or coeffs place (pos 0)) (slice_index steps place) shift

-- the quotients of sizes by reciprocals
abbrev pub AreQuotientsBy : List ℕ → List ℕ → List ℕ → Type 0
AreQuotientsBy reciprocals sizes quotients = (place : ℕ) → place < 64
    → slice_index quotients place
    ≡ quotient_by (slice_index sizes place) (slice_index reciprocals place)

-- not each of 64 step numbers has a reciprocal of 32 bits
abbrev pub AreNotShortSteps : List ℕ → ℕ → ℕ → Type 0
AreNotShortSteps steps shift power =
    ((place : ℕ) → place < 64 → IsShortStep (slice_index steps place) shift power) → ⊥

-- the levels of the coefficients' signs and of sizes
abbrev pub AreSignedLevels : List ℤ → List ℕ → List ℤ → Type 0
AreSignedLevels coeffs sizes levels = (place : ℕ) → place < 64
    → slice_index_or levels place (pos 0)
    ≡ level_of (int_lt (slice_index_or coeffs place (pos 0)) (pos 0)) (slice_index sizes place)
