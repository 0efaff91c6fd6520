-- A frame as it is coded: its header and its tiles, and the levels of its blocks.
use Rattle.std.specs.Prelude.{◌≡◌, ℕ, ℤ, ◌+◌, ◌<◌, true, List, [], length, map, take, drop, slice_index, slice_index_or}
use Rattle.std.specs.Prelude.{if◌then◌else◌}
use Rattle.std.specs.List.{AllByRecursion, sum}
use Rattle.apv_base.specs.declared.header.FrameHeader.{FrameHeader}
use Rattle.apv_base.specs.model.Component.{IsComponent}
use Rattle.apv_base.specs.model.Frame.{bytes_left, WalksHeader, WalksTiles}
use Rattle.apv_base.specs.model.Grid.{tile_count, block_count}
use Rattle.apv_base.specs.model.Header.{header_values, header_comps, grid_of, IsSoundHeader}
use Rattle.apv_base.specs.model.Pbu.{is_filler}
use Rattle.apv_base.specs.model.Tile.{Tile, tile_header_size, tiles_values}

-- ---- a frame by its parts

-- a frame: its header and its tiles in their order
pub record CodedFrame : Type 0 where
  pub header : FrameHeader
  pub tiles : List Tile

-- the size of a tile
abbrev pub tile_size : ℕ → Tile → ℕ
tile_size comps tile = tile_header_size comps + length tile.bytes

-- the sizes of the tiles where the header states them, or nothing
abbrev pub stated_sizes : CodedFrame → List ℕ
stated_sizes frame = if frame.header.sizes_present then map (tile_size (header_comps frame.header)) frame.tiles else []

-- the values of its header, and of its tiles
abbrev pub head_values : CodedFrame → List ℕ
head_values frame = header_values frame.header (stated_sizes frame)

-- the values of its tiles
abbrev pub tile_list_values : CodedFrame → List ℕ
tile_list_values frame = tiles_values (header_comps frame.header) 0 frame.tiles

-- a tile has a length and a QP for each component
pub record IsTile (comps : ℕ) (tile : Tile) : Type 0 where
  pub lengths : length tile.lengths ≡ comps
  pub qps : length tile.qps ≡ comps

-- the body is the frame of these parts
pub record HasFrame (body : List ℕ) (frame : CodedFrame) : Type 0 where
  pub header : IsSoundHeader frame.header
  pub tiles : AllByRecursion (IsTile (header_comps frame.header)) frame.tiles
  pub left : List ℕ
  pub after : List ℕ
  pub walked : WalksHeader body (head_values frame) left
  pub walked_tiles : WalksTiles (head_values frame) (bytes_left body left) (tile_list_values frame) after
  pub filler : is_filler after ≡ true

-- a tile without data, which no frame has
abbrev pub no_tile : Tile
no_tile = record { lengths = []; qps = []; bytes = [] }

-- the tile with this number
abbrev pub tile_at : CodedFrame → ℕ → Tile
tile_at frame tile = slice_index_or frame.tiles tile no_tile

-- the bytes of a component's data: as many as its length states, after those of the components before it
abbrev pub component_data : Tile → ℕ → List ℕ
component_data tile comp = take (slice_index tile.lengths comp) (drop (sum (take comp tile.lengths)) tile.bytes)

-- ---- the levels of a frame

-- tile by tile, component by component and block by block in coding order, 64 levels a block
abbrev pub Levels : Type 0
Levels = List (List (List (List ℤ)))

-- the blocks of a component of a tile
abbrev pub blocks_at : Levels → ℕ → ℕ → List (List ℤ)
blocks_at levels tile comp = slice_index_or (slice_index_or levels tile []) comp []

-- the tile has the component
abbrev pub Exists : CodedFrame → ℕ → ℕ → Type 0
Exists frame tile comp = (tile < tile_count (grid_of frame.header)) × (comp < header_comps frame.header)

-- the data of a component of a tile are these blocks
abbrev pub HasBlocks : CodedFrame → ℕ → ℕ → List (List ℤ) → Type 0
HasBlocks frame tile comp blocks =
    IsComponent (block_count (grid_of frame.header) tile comp) (component_data (tile_at frame tile) comp) blocks

-- the data of all components of all tiles are these levels
pub record HasLevels (frame : CodedFrame) (levels : Levels) : Type 0 where
  pub tiles : length levels ≡ tile_count (grid_of frame.header)
  pub comps : AllByRecursion (λ tile. length tile ≡ header_comps frame.header) levels
  pub blocks : (tile comp : ℕ) → Exists frame tile comp → HasBlocks frame tile comp (blocks_at levels tile comp)
