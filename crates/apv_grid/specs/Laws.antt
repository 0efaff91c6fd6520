-- Laws of the tiles of a frame: where a sample is coded, and where a block lies, are inverse to each other.
use Rattle.std.specs.Prelude.{◌≡◌, ℕ, ◌+◌, ◌-◌, ◌*◌, ◌/◌, ◌%◌, ◌<◌, ◌≤◌, List, slice_index}
use Rattle.apv_base.specs.model.Encode.{block_x, block_y}
use Rattle.apv_base.specs.model.Format.{comps_of, macroblock_columns, macroblock_rows}
use Rattle.apv_base.specs.model.Grid.{Grid, CodedPlace, coded_place, tile_count, block_count, block_columns}
use Rattle.apv_grid.specs.Buffer.{tile_start, tile_value_count, part_in, samples_in, IsTileRun}

-- each sample of a block is coded in that block, at its place
abbrev pub IsCodedInItsBlock : Grid → Type 0
IsCodedInItsBlock grid =
    (tile comp block x y : ℕ) → tile < tile_count grid → comp < comps_of grid.format.chroma
    → block < block_count grid tile comp → x < 8 → y < 8
    → coded_place grid comp (block_x grid tile comp block + x) (block_y grid tile comp block + y)
    ≡ record { tile = tile; block = block; place = 8 * y + x }

-- the sample x, y of a component lies in a block of a tile, at this place of the block
pub record LiesIn (grid : Grid) (comp x y : ℕ) (p : CodedPlace) : Type 0 where
  pub tile : p.tile < tile_count grid
  pub block : p.block < block_count grid p.tile comp
  pub place : p.place < 64
  pub column : block_x grid p.tile comp p.block + p.place % 8 ≡ x
  pub row : block_y grid p.tile comp p.block + p.place / 8 ≡ y

-- each sample of the area that is filled up to whole macroblocks has a block
abbrev pub HasItsBlock : Grid → Type 0
HasItsBlock grid =
    (comp x y : ℕ) → comp < comps_of grid.format.chroma
    → x < 8 * block_columns grid.format.chroma comp * macroblock_columns grid.format
    → y < 16 * macroblock_rows grid.format
    → LiesIn grid comp x y (coded_place grid comp x y)

-- the values of a block in the part of its component and tile are its samples, row after row
abbrev pub HasSamplesInParts : Grid → Type 0
HasSamplesInParts grid =
    (values : List ℕ) (tile comp block x y : ℕ) → tile < tile_count grid → comp < comps_of grid.format.chroma
    → block < block_count grid tile comp → x < 8 → y < 8
    → slice_index (part_in grid values tile comp) (64 * block + (8 * y + x))
    ≡ samples_in grid values comp (block_x grid tile comp block + x) (block_y grid tile comp block + y)

-- a run of tiles is that of its first tiles, with n values, and that of the others, with the rest
abbrev pub SplitsIntoRuns : Grid → Type 0
SplitsIntoRuns grid = (first count size left : ℕ) → IsTileRun grid first count size → left ≤ count
    → (tile_start grid (first + left) - tile_start grid first ≤ size)
    × IsTileRun grid first left (tile_start grid (first + left) - tile_start grid first)
    × IsTileRun grid (first + left) (count - left) (size - (tile_start grid (first + left) - tile_start grid first))

-- a run of one tile has the values of that tile
abbrev pub HasValuesOfItsTile : Grid → Type 0
HasValuesOfItsTile grid =
    (tile size : ℕ) → IsTileRun grid tile 1 size → (tile < tile_count grid) × (size ≡ tile_value_count grid tile)
