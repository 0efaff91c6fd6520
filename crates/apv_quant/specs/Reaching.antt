-- Sizes of coefficients from which on their levels have at least a size.
use Rattle.std.specs.Prelude.{ℕ, ℤ, ◌+◌, ◌-◌, ◌*◌, ◌/◌, ◌^◌, ◌<◌, ◌≤◌, min, List, [], ◌∷◌, unsigned_abs, slice_index}
use Rattle.apv_base.specs.model.Quant.{IsNearest, step_number, shift_of}

-- the sizes of levels at which the code words of levels grow by a bit
abbrev pub level_sizes : List ℕ
level_sizes = 1 ∷ 2 ∷ 3 ∷ 5 ∷ 9 ∷ 17 ∷ 33 ∷ 65 ∷ []

-- the size of a coefficient from which on its level has at least the size n, at a step number s and a shift b: one above
-- (n - 1 / 2) * s / 2 ^ b, and at most 65,535
abbrev pub reaching_size : ℕ → ℕ → ℕ → ℕ
reaching_size n s b = min ((2 * n - 1) * s / 2 ^ (b + 1) + 1) 65535

-- coefficients of at least these sizes have nearest levels of at least the level sizes, at each place of a matrix, at a
-- QP and at each one below it
abbrev pub ReachLevels : List ℕ → ℕ → ℕ → List ℕ → Type 0
ReachLevels matrix qp depth sizes =
    (index place q : ℕ) (c level : ℤ) → index < 8 → place < 64 → q ≤ qp → unsigned_abs c ≤ 2 ^ 15
    → IsNearest c (step_number (slice_index matrix place) q) (shift_of depth) level
    → slice_index sizes index ≤ unsigned_abs c → slice_index level_sizes index ≤ unsigned_abs level
