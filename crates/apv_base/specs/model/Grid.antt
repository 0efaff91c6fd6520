-- The tiles of a frame and the blocks in them: tile_info() of the RFC, and the order in which samples are coded.
use Rattle.std.specs.Prelude.{◌≡◌, ℕ, ◌+◌, ◌-◌, ◌*◌, ◌/◌, ◌%◌, Bool, ◌&&◌, ◌||◌, Option, Some, None, min, nat_lt}
use Rattle.std.specs.Prelude.{if◌then◌else◌, ◌==◌}
use Rattle.apv_base.specs.declared.format.Chroma.{Chroma}
use Rattle.apv_base.specs.declared.format.Format.{Format}
use Rattle.apv_base.specs.declared.rules.Rule.{Rule}
use Rattle.apv_base.specs.declared.rules.Rule.TheVariants.{V16, V17}
use Rattle.apv_base.specs.model.Format.{IsSoundFormat, is_halved, parts, macroblock_columns, macroblock_rows}

-- a format, and the size of its tiles in macroblocks
pub record Grid : Type 0 where
  pub format : Format
  pub tile_width : ℕ
  pub tile_height : ℕ

-- the grid of a format and a size of tiles
abbrev pub grid_with : Format → ℕ → ℕ → Grid
grid_with format tile_width tile_height = record { format = format; tile_width = tile_width; tile_height = tile_height }

-- the columns of tiles; tiles are in order row after row
abbrev pub tile_columns : Grid → ℕ
tile_columns grid = parts (macroblock_columns grid.format) grid.tile_width

-- the rows of tiles
abbrev pub tile_rows : Grid → ℕ
tile_rows grid = parts (macroblock_rows grid.format) grid.tile_height

-- the number of tiles
abbrev pub tile_count : Grid → ℕ
tile_count grid = tile_columns grid * tile_rows grid

-- the rule that the size of the tiles breaks: a tile has at least 16 by 8 macroblocks, and there are at most 20 columns
-- and 20 rows
abbrev pub tile_rule : Grid → Option Rule
tile_rule grid =
    if nat_lt grid.tile_width 16 || nat_lt grid.tile_height 8 then Some V16
    else (if nat_lt 20 (tile_columns grid) || nat_lt 20 (tile_rows grid) then Some V17 else None)

-- a grid that a frame can have: V16 and V17 are kept
pub record IsSoundGrid (grid : Grid) : Type 0 where
  pub format : IsSoundFormat grid.format
  pub tiles : tile_rule grid ≡ None

-- where a tile begins and its size, in macroblocks; the last column and row are cut at the frame's edge
abbrev pub tile_x : Grid → ℕ → ℕ
tile_x grid tile = tile % tile_columns grid * grid.tile_width

-- its first row
abbrev pub tile_y : Grid → ℕ → ℕ
tile_y grid tile = tile / tile_columns grid * grid.tile_height

-- its columns
abbrev pub tile_w : Grid → ℕ → ℕ
tile_w grid tile = min grid.tile_width (macroblock_columns grid.format - tile_x grid tile)

-- its rows
abbrev pub tile_h : Grid → ℕ → ℕ
tile_h grid tile = min grid.tile_height (macroblock_rows grid.format - tile_y grid tile)

-- the component has half the width
abbrev pub is_half : Chroma → ℕ → Bool
is_half chroma comp = is_halved chroma && (comp == 1 || comp == 2)

-- the columns of 8x8 blocks that a macroblock has of a component; it has two rows
abbrev pub block_columns : Chroma → ℕ → ℕ
block_columns chroma comp = if is_half chroma comp then 1 else 2

-- the blocks that a macroblock has of a component
abbrev pub macroblock_blocks : Chroma → ℕ → ℕ
macroblock_blocks chroma comp = 2 * block_columns chroma comp

-- the blocks of a component of a tile
abbrev pub block_count : Grid → ℕ → ℕ → ℕ
block_count grid tile comp = tile_w grid tile * tile_h grid tile * macroblock_blocks grid.format.chroma comp

-- where a sample is coded: its tile, its block in the order of coding, and its place, 8 * y + x, in the block
pub record CodedPlace : Type 0 where
  pub tile : ℕ
  pub block : ℕ
  pub place : ℕ

-- the macroblock's column and row, in the frame, of the sample x, y of a component
abbrev pub column_of : Grid → ℕ → ℕ → ℕ
column_of grid comp x = x / (8 * block_columns grid.format.chroma comp)

-- the row of the macroblock
abbrev pub row_of : ℕ → ℕ
row_of y = y / 16

-- the tile of a macroblock
abbrev pub tile_of : Grid → ℕ → ℕ → ℕ
tile_of grid column row = row / grid.tile_height * tile_columns grid + column / grid.tile_width

-- the macroblock in its tile, row after row
abbrev pub macroblock_of : Grid → ℕ → ℕ → ℕ
macroblock_of grid column row =
    let tile = tile_of grid column row in
    (row - tile_y grid tile) * tile_w grid tile + (column - tile_x grid tile)

-- the block in its macroblock, row after row
abbrev pub block_of : Chroma → ℕ → ℕ → ℕ → ℕ
block_of chroma comp x y = y / 8 % 2 * block_columns chroma comp + x / 8 % block_columns chroma comp

-- where the sample x, y of a component is coded
abbrev pub coded_place : Grid → ℕ → ℕ → ℕ → CodedPlace
coded_place grid comp x y =
    let column = column_of grid comp x in
    let row = row_of y in
    record {
      tile = tile_of grid column row;
      block = macroblock_of grid column row * macroblock_blocks grid.format.chroma comp
          + block_of grid.format.chroma comp x y;
      place = 8 * (y % 8) + x % 8;
    }

-- the tile size that is taken where none is asked for: 16 macroblocks, or as many as make 20 columns
abbrev pub default_size : ℕ → ℕ
default_size macroblocks = if nat_lt 16 (parts macroblocks 20) then parts macroblocks 20 else 16
