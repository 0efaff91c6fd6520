-- What the tiles of a frame are decoded to.
use Rattle.std.specs.Prelude.{◌≡◌, ℕ, ℤ, ◌+◌, ◌*◌, ◌<◌, ◌≤◌, List, [], length, map, take, drop, slice_index}
use Rattle.std.specs.Prelude.{slice_index_or}
use Rattle.std.specs.List.{sum}
use Rattle.apv_base.specs.model.CodedFrame.{CodedFrame, Levels, HasLevels, HasBlocks, component_data, tile_at}
use Rattle.apv_base.specs.model.Component.{ComponentBreaks}
use Rattle.apv_base.specs.model.Grid.{Grid, block_count}
use Rattle.apv_base.specs.model.Header.{header_comps, grid_of}
use Rattle.apv_base.specs.model.Judge.{ContentBreak as BreakAt}
use Rattle.apv_base.specs.model.Picture.{sample, scaled_block, matrix_of}
use Rattle.apv_base.specs.model.Quant.{max_qp}
use Rattle.apv_base.specs.model.Tile.{tile_header_size}
use Rattle.apv_base.specs.model.Transform.{sample_of}
use Rattle.apv_grid.specs.Buffer.{Buffer, IsFilled, samples_of, values_before}
use Rattle.apv_header.specs.Tiles.{AreTilesOf, tile_of_entry}
use Rattle.apv_header.specs.Read.{IsReadFrom}
use Rattle.apv_base.specs.model.Run.{MAX_UNIT}
use Rattle.apv_header.specs.declared.head.HeaderRead.{HeaderRead}
use Rattle.apv_header.specs.declared.tiles.TileEntry.{TileEntry}
use Rattle.apv_header.specs.declared.tiles.TileTable.{TileTable}
use Rattle.apv_workers.specs.declared.run.ComponentBreak.{ComponentBreak}
use Rattle.apv_workers.specs.declared.run.ContentBreak.{ContentBreak}

-- the frame whose header and tiles were read from a body
abbrev pub frame_read : List ℕ → HeaderRead → TileTable → CodedFrame
frame_read body head table = record {
  header = head.header;
  tiles = map (tile_of_entry body (header_comps head.header)) table.tiles.items;
}

-- a buffer has the samples of a frame
pub record IsDecoded (coded : CodedFrame) (buffer : Buffer ℕ) : Type 0 where
  pub levels : Levels
  pub is : HasLevels coded levels
  pub samples : (comp x y : ℕ) → IsFilled buffer.grid comp x y
      → samples_of buffer comp x y ≡ sample coded levels comp x y

-- the place and the rule of a break
abbrev pub break_of : ContentBreak → BreakAt
break_of broken = record { tile = broken.tile; comp = broken.comp; rule = broken.rule }

-- ---- one tile

-- the data of each component of a tile are blocks
abbrev pub IsSoundTile : CodedFrame → ℕ → Type 0
IsSoundTile coded tile =
    (comp : ℕ) → comp < header_comps coded.header → (blocks : List (List ℤ)) × HasBlocks coded tile comp blocks

-- the first component of a tile whose data aren't blocks, and the rule that they break
pub record TileBreaks (coded : CodedFrame) (tile : ℕ) (broken : ComponentBreak) : Type 0 where
  pub exists : broken.comp < header_comps coded.header
  pub before : (comp : ℕ) → comp < broken.comp → (blocks : List (List ℤ)) × HasBlocks coded tile comp blocks
  pub breaks : ComponentBreaks (block_count (grid_of coded.header) tile broken.comp)
      (component_data (tile_at coded tile) broken.comp) broken.rule

-- the data of a component of a tile are these blocks, and the samples are theirs
pub record HasSamples (coded : CodedFrame) (tile comp : ℕ) (samples : List ℕ) (blocks : List (List ℤ)) : Type 0 where
  pub is : HasBlocks coded tile comp blocks
  pub each : (block y x : ℕ) → block < block_count (grid_of coded.header) tile comp → y < 8 → x < 8
      → slice_index samples (64 * block + (8 * y + x))
      ≡ sample_of (scaled_block (matrix_of coded comp) (slice_index (tile_at coded tile).qps comp)
      coded.header.info.depth (slice_index_or blocks block [])) coded.header.info.depth y x

-- samples are those of the blocks of a component of a tile
abbrev pub IsDecodedPart : CodedFrame → ℕ → ℕ → List ℕ → Type 0
IsDecodedPart coded tile comp samples = (blocks : List (List ℤ)) × HasSamples coded tile comp samples blocks

-- the values of a component, out of those of its tile
abbrev pub component_values : Grid → ℕ → ℕ → List ℕ → List ℕ
component_values grid tile comp values =
    take (64 * block_count grid tile comp) (drop (values_before grid tile comp) values)

-- values are the samples of the components of a tile
abbrev pub IsDecodedTile : CodedFrame → ℕ → List ℕ → Type 0
IsDecodedTile coded tile values =
    (comp : ℕ) → comp < header_comps coded.header
    → IsDecodedPart coded tile comp (component_values (grid_of coded.header) tile comp values)

-- a header and tiles were read from a body
pub record WereRead (body : List ℕ) (head : HeaderRead) (table : TileTable) : Type 0 where
  pub small : length body ≤ MAX_UNIT
  pub header : IsReadFrom body head
  pub tiles : AreTilesOf body head table

-- a tile is inside the body, and the data of its components are inside the tile
pub record Fits (body : List ℕ) (comps : ℕ) (entry : TileEntry) : Type 0 where
  pub inside : entry.place + entry.size ≤ length body
  pub components : tile_header_size comps + sum (take comps entry.lengths) ≤ entry.size

-- the QP of each component is at most the maximum
abbrev pub HasQps : ℕ → ℕ → TileEntry → Type 0
HasQps comps depth entry = (comp : ℕ) → comp < comps → slice_index entry.qp comp ≤ max_qp depth
