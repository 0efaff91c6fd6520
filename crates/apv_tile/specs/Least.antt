-- A number of bits that levels take at least, by the sizes of their coefficients.
use Rattle.std.specs.Prelude.{◌≡◌, ℕ, zero, suc, ℤ, pos, ◌+◌, ◌*◌, ◌/◌, ◌^◌, ◌<◌, ◌≤◌, List, length, nat_lt, if◌then◌else◌}
use Rattle.std.specs.Prelude.{slice_index, slice_index_or, unsigned_abs}
use Rattle.apv_base.specs.model.Component.{component_bytes}
use Rattle.apv_quant.specs.Reaching.{level_sizes}
use Rattle.apv_tile.specs.Blocks.{block_at, blocks_of}

-- 1 where a size is at least n, else 0
abbrev pub one_from : ℕ → ℕ → ℕ
one_from n size = if nat_lt size n then 0 else 1

-- what eight sizes say of the bits of a level: 3 from the first one on, and one more from each other one on
abbrev pub bits_from : List ℕ → ℕ → ℕ
bits_from sizes size =
    3 * one_from (slice_index sizes 0) size + one_from (slice_index sizes 1) size
    + one_from (slice_index sizes 2) size + one_from (slice_index sizes 3) size
    + one_from (slice_index sizes 4) size + one_from (slice_index sizes 5) size
    + one_from (slice_index sizes 6) size + one_from (slice_index sizes 7) size

-- the sum of f at each number below n
unfoldable pub sum_below : (ℕ → ℕ) → ℕ → ℕ
sum_below f zero = 0
sum_below f (suc n) = sum_below f n + f n

-- the size of the value at a place of a block
abbrev pub size_at : List ℤ → ℕ → ℕ
size_at block place = unsigned_abs (slice_index_or block place (pos 0))

-- the sum over the places of a block after the first
abbrev pub least_block_bits : List ℕ → List ℤ → ℕ
least_block_bits sizes block = sum_below (λ place. bits_from sizes (size_at block (suc place))) 63

-- where a coefficient of a block has at least one of eight sizes, its level has at least the level size of the same index
abbrev pub AreReached : List ℕ → List ℤ → List ℤ → Type 0
AreReached sizes coeffs levels =
    (index place : ℕ) → index < 8 → place < 64 → size_at coeffs place ≤ 2 ^ 15
    → slice_index sizes index ≤ size_at coeffs place → slice_index level_sizes index ≤ size_at levels place

-- the levels of a component, as many as the coefficients, in each block of which the sizes are reached, have at least so
-- many bytes
abbrev pub IsLeastLength : List ℕ → List ℤ → ℕ → Type 0
IsLeastLength sizes coeffs count =
    (levels : List ℤ) → length levels ≡ length coeffs
    → ((block : ℕ) → block < length coeffs / 64 → AreReached sizes (block_at coeffs block) (block_at levels block))
    → count ≤ length (component_bytes (blocks_of levels))
