-- Scaling of levels, and the nearest level of a coefficient.
use Rattle.std.specs.Prelude.{◌≡◌, ℕ, ℤ, pos, negsuc, ◌+ℤ◌, ◌-ℤ◌, ◌*ℤ◌, ◌+◌, ◌-◌, ◌*◌, ◌/◌, ◌%◌, ◌^◌, ◌<◌, ◌≤◌, List}
use Rattle.std.specs.Prelude.{[], ◌∷◌, length, slice_index, unsigned_abs}
use Rattle.std.specs.Int.{int_shr, int_min, int_max}

-- 64 values of 1 to 255, row after row
pub record IsMatrix (values : List ℕ) : Type 0 where
  pub count : length values ≡ 64
  pub each : (place : ℕ) → place < 64 → (0 < slice_index values place) × (slice_index values place < 256)

-- the maximum QP of a bit depth
abbrev pub max_qp : ℕ → ℕ
max_qp depth = 51 + 6 * (depth - 8)

-- z kept between low and high
abbrev pub clamped : ℤ → ℤ → ℤ → ℤ
clamped low high z = int_max low (int_min high z)

-- the QP of a component: the frame's with an offset
abbrev pub qp_with : ℕ → ℤ → ℕ → ℕ
qp_with q offset depth = unsigned_abs (clamped (pos 0) (pos (max_qp depth)) (pos q +ℤ offset))

-- the step numbers of the QPs 0 to 5 for a matrix value of 1
abbrev pub scale_table : List ℕ
scale_table = 40 ∷ 45 ∷ 51 ∷ 57 ∷ 64 ∷ 71 ∷ []

-- the step number of a matrix value and a QP
abbrev pub step_number : ℕ → ℕ → ℕ
step_number m qp = m * slice_index scale_table (qp % 6) * 2 ^ (qp / 6)

-- the shift of a bit depth
abbrev pub shift_of : ℕ → ℕ
shift_of depth = depth - 2

-- a permitted level, which is also the range of a scaled level
abbrev pub IsLevel : ℤ → Type 0
IsLevel (pos n) = n < 2 ^ 15
IsLevel (negsuc n) = n < 2 ^ 15

-- a level l at a step number s and a shift b: l * s / 2 ^ b, rounded, and clipped to 16 bits
abbrev pub scaled : ℤ → ℕ → ℕ → ℤ
scaled l s b = clamped (negsuc 32767) (pos 32767) (int_shr (l *ℤ pos s +ℤ pos (2 ^ (b - 1))) b)

-- how far a level l is from a coefficient c, in parts of 2 ^ b
abbrev pub distance : ℤ → ℕ → ℕ → ℤ → ℕ
distance c s b l = unsigned_abs (l *ℤ pos s -ℤ c *ℤ pos (2 ^ b))

-- the permitted level whose distance is least; of two, the one nearer to 0
pub record IsNearest (c : ℤ) (s b : ℕ) (l : ℤ) : Type 0 where
  pub permitted : IsLevel l
  pub least : (k : ℤ) → IsLevel k → distance c s b l ≤ distance c s b k
  pub nearer : (k : ℤ) → IsLevel k → distance c s b k ≡ distance c s b l → unsigned_abs l ≤ unsigned_abs k
