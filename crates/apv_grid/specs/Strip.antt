-- The samples of a row of a component that are in one tile.
use Rattle.std.specs.Prelude.{◌≡◌, ◌≢◌, ℕ, ◌+◌, ◌-◌, ◌*◌, ◌/◌, ◌%◌, ◌<◌, ◌≤◌, Bool, if◌then◌else◌, List, slice_index}
use Rattle.apv_base.specs.model.Grid.{Grid, is_half}
use Rattle.apv_grid.specs.Buffer.{sample_place, IsFilled}

-- the value of a sample of a row of macroblocks, counted from that of the row's first sample: a macroblock has two
-- blocks beside each other, and two rows of them, or one and two in a component of half the width
unfoldable pub row_place : Bool → ℕ → ℕ
row_place half x = if half then x / 8 * 128 + x % 8 else x / 16 * 256 + x / 8 % 2 * 64 + x % 8

-- the samples of a component's row from first on, up to end, are in one tile, and the value of the first at start
pub record IsStrip (grid : Grid) (comp y first end start : ℕ) : Type 0 where
  pub places : (x : ℕ) → first ≤ x → x < end
      → sample_place grid comp x y ≡ start + row_place (is_half grid.format.chroma comp) (x - first)

-- n samples of a row from x on are in the filled area, and in one tile: they are samples of a row of macroblocks there,
-- from the first on
pub record IsSegment (grid : Grid) (comp x y start first : ℕ) (half : Bool) (n : ℕ) : Type 0 where
  pub filled : (i : ℕ) → i < n → IsFilled grid comp (x + i) y
  pub places : (i : ℕ) → i < n → sample_place grid comp (x + i) y ≡ start + row_place half (first + i)

-- n values of a list, from a place on, became those of another, and all others stayed
pub record Copies (from : List ℕ) (a : ℕ) (old new : List ℕ) (b n : ℕ) : Type 0 where
  pub copied : (i : ℕ) → i < n → slice_index new (b + i) ≡ slice_index from (a + i)
  pub before : (i : ℕ) → i < b → slice_index new i ≡ slice_index old i
  pub after : (i : ℕ) → b + n ≤ i → slice_index new i ≡ slice_index old i

-- The samples x + i of a row of macroblocks, for i from a on, up to b, became the items i of a list. All other items
-- stayed.
pub record ReadsSamples (half : Bool) (values : List ℕ) (start x : ℕ) (old new : List ℕ) (a b : ℕ) : Type 0 where
  pub taken : (i : ℕ) → a ≤ i → i < b → slice_index new i ≡ slice_index values (start + row_place half (x + i))
  pub before : (i : ℕ) → i < a → slice_index new i ≡ slice_index old i
  pub after : (i : ℕ) → b ≤ i → slice_index new i ≡ slice_index old i

-- The items i of a list, from a on, up to b, became the samples x + i of a row of macroblocks. All other values stayed.
pub record WritesSamples (half : Bool) (row : List ℕ) (start x : ℕ) (old new : List ℕ) (a b : ℕ) : Type 0 where
  pub put : (i : ℕ) → a ≤ i → i < b → slice_index new (start + row_place half (x + i)) ≡ slice_index row i
  pub others : (k : ℕ) → ((i : ℕ) → a ≤ i → i < b → k ≢ start + row_place half (x + i))
      → slice_index new k ≡ slice_index old k

-- the samples x + i, for i from a on, up to b, have values among n
abbrev pub SamplesAreWithin : Bool → ℕ → ℕ → ℕ → ℕ → ℕ → Type 0
SamplesAreWithin half start x a b n = (i : ℕ) → a ≤ i → i < b → start + row_place half (x + i) < n

-- ---- rows of blocks

-- The first n values of each of some rows of a block, whose first one is at a place, became items of rows of stride
-- items, from the one at a number on. The items of each row before that one stayed.
pub record TakesBlock (values : List ℕ) (place rows stride at n : ℕ) (old new : List ℕ) : Type 0 where
  pub taken : (row i : ℕ) → row < rows → i < n → slice_index new (row * stride + (at + i)) ≡ slice_index values (place + 8 * row + i)
  pub left : (row i : ℕ) → row < rows → i < at → slice_index new (row * stride + i) ≡ slice_index old (row * stride + i)

-- The samples first + i of each of some rows of a row of blocks, for n numbers i, became items of rows of stride items,
-- from the one at a number on. The items of each row before that one stayed.
pub record TakesBlocks (half : Bool) (values : List ℕ) (start first rows stride at n : ℕ) (old new : List ℕ) : Type 0 where
  pub taken : (row i : ℕ) → row < rows → i < n
      → slice_index new (row * stride + (at + i)) ≡ slice_index values (start + row_place half (first + i) + 8 * row)
  pub left : (row i : ℕ) → row < rows → i < at → slice_index new (row * stride + i) ≡ slice_index old (row * stride + i)
