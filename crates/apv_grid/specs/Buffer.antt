-- A buffer of the values of all blocks of a frame, 64 for each block: tile after tile, the components of a tile one
-- after the other, and the blocks of a component in the order of coding.
use Rattle.std.specs.Prelude.{◌≡◌, ℕ, zero, suc, ◌+◌, ◌-◌, ◌*◌, ◌<◌, ◌≤◌, List, length, take, drop, slice_index}
use Rattle.std.specs.List.{refill}
use Rattle.apv_base.specs.declared.format.Chroma.{Chroma}
use Rattle.apv_base.specs.model.Encode.{nearest_sample}
use Rattle.apv_base.specs.model.Format.{comps_of, macroblock_columns, macroblock_rows}
use Rattle.apv_base.specs.model.Grid.{Grid, IsSoundGrid, CodedPlace, coded_place}
use Rattle.apv_base.specs.model.Grid.{tile_count, block_count, block_columns, macroblock_blocks}
use Rattle.apv_base.specs.model.Picture.{Samples}

-- what a buffer is seen as
pub record Buffer (A : Type 0) : Type 0 where
  pub grid : Grid
  pub values : List A

-- ---- the places of values

-- the values that a macroblock has of the components before one
unfoldable pub macroblock_before : Chroma → ℕ → ℕ
macroblock_before chroma zero = 0
macroblock_before chroma (suc comp) = macroblock_before chroma comp + 64 * macroblock_blocks chroma comp

-- the values of the components of a tile before one
unfoldable pub values_before : Grid → ℕ → ℕ → ℕ
values_before grid tile zero = 0
values_before grid tile (suc comp) = values_before grid tile comp + 64 * block_count grid tile comp

-- the values of a tile
abbrev pub tile_value_count : Grid → ℕ → ℕ
tile_value_count grid tile = values_before grid tile (comps_of grid.format.chroma)

-- the values of the tiles before one
unfoldable pub tile_start : Grid → ℕ → ℕ
tile_start grid zero = 0
tile_start grid (suc tile) = tile_start grid tile + tile_value_count grid tile

-- all values
abbrev pub value_count : Grid → ℕ
value_count grid = tile_start grid (tile_count grid)

-- the first value of a component of a tile
abbrev pub part_start : Grid → ℕ → ℕ → ℕ
part_start grid tile comp = tile_start grid tile + values_before grid tile comp

-- the value of a block's place
abbrev pub place_in : Grid → ℕ → CodedPlace → ℕ
place_in grid comp p = part_start grid p.tile comp + (64 * p.block + p.place)

-- the value of the sample x, y of a component
abbrev pub sample_place : Grid → ℕ → ℕ → ℕ → ℕ
sample_place grid comp x y = place_in grid comp (coded_place grid comp x y)

-- ---- parts and samples

-- the values of a component of a tile
abbrev pub part_in : {A : Type 0} → Grid → List A → ℕ → ℕ → List A
part_in grid values tile comp = take (64 * block_count grid tile comp) (drop (part_start grid tile comp) values)

abbrev pub part_of : {A : Type 0} → Buffer A → ℕ → ℕ → List A
part_of buffer tile comp = part_in buffer.grid buffer.values tile comp

-- the samples by component, x and y
abbrev pub samples_in : Grid → List ℕ → Samples
samples_in grid values comp x y = slice_index values (sample_place grid comp x y)

abbrev pub samples_of : Buffer ℕ → Samples
samples_of buffer = samples_in buffer.grid buffer.values

-- ---- the area that is filled up to whole macroblocks

abbrev pub filled_width : Grid → ℕ → ℕ
filled_width grid comp = 8 * block_columns grid.format.chroma comp * macroblock_columns grid.format

abbrev pub filled_height : Grid → ℕ
filled_height grid = 16 * macroblock_rows grid.format

-- the sample x, y of a component is in that area
pub record IsFilled (grid : Grid) (comp x y : ℕ) : Type 0 where
  pub known : comp < comps_of grid.format.chroma
  pub column : x < filled_width grid comp
  pub line : y < filled_height grid

-- ---- rows

-- the sample c, p, q is one of n samples of the row y of a component, from x on
pub record IsOnRow (comp x y n c p q : ℕ) : Type 0 where
  pub same_comp : c ≡ comp
  pub line : q ≡ y
  pub from : x ≤ p
  pub to : p < x + n

-- n samples of the row y of a component, from x on, are the first items of a list
abbrev pub IsRow : Grid → ℕ → ℕ → ℕ → List ℕ → ℕ → List ℕ → Type 0
IsRow grid comp x y values n row = (i : ℕ) → i < n → slice_index row i ≡ samples_in grid values comp (x + i) y

-- the first n samples of some rows of a component, from the row y on, are the items of a list, row after row
abbrev pub AreRows : Grid → ℕ → ℕ → ℕ → ℕ → List ℕ → List ℕ → Type 0
AreRows grid comp y rows n values out =
    (row x : ℕ) → row < rows → x < n → slice_index out (row * n + x) ≡ samples_in grid values comp x (y + row)

-- n samples of the row y of a component, from x on, became the first items of a list, and all others stayed
pub record HasRow (grid : Grid) (comp x y : ℕ) (row : List ℕ) (n : ℕ) (old new : List ℕ) : Type 0 where
  pub written : IsRow grid comp x y new n row
  pub others : (c p q : ℕ) → IsFilled grid c p q → ¬ IsOnRow comp x y n c p q
      → samples_in grid new c p q ≡ samples_in grid old c p q

-- ---- the samples outside the visible area

-- each sample of the filled area is the nearest visible one of its component
abbrev pub IsPadded : Grid → List ℕ → List ℕ → Type 0
IsPadded grid old new =
    (comp x y : ℕ) → IsFilled grid comp x y
    → samples_in grid new comp x y ≡ nearest_sample grid (samples_in grid old) comp x y

-- ---- runs of tiles

-- that many tiles, from the first on, have that many values
pub record IsTileRun (grid : Grid) (first count size : ℕ) : Type 0 where
  pub sound : IsSoundGrid grid
  pub range : first + count ≤ tile_count grid
  pub values : tile_start grid first + size ≡ tile_start grid (first + count)

-- the values of a tile in a run that begins with the first
abbrev pub tile_of_run : {A : Type 0} → Grid → ℕ → List A → ℕ → List A
tile_of_run grid first values tile =
    take (tile_value_count grid tile) (drop (tile_start grid tile - tile_start grid first) values)

-- a buffer of the same grid with these values
abbrev pub buffer_with : {A : Type 0} → Buffer A → List A → Buffer A
buffer_with buffer values = record buffer { values = refill (length buffer.values) buffer.values values }
