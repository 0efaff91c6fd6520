-- The tiles of a track as bytes.
use Rattle.std.specs.Prelude.{◌≡◌, ℕ, ℤ, ◌+◌, ◌*◌, ◌<◌, ◌≤◌, List, ◌++◌, length}
use Rattle.std.specs.List.{sum}
use Rattle.apv_base.specs.model.Bits.{be}
use Rattle.apv_base.specs.model.CodedFrame.{CodedFrame, tile_size}
use Rattle.apv_base.specs.model.Encode.{each, tile_with, frame_with}
use Rattle.apv_base.specs.model.Grid.{tile_count}
use Rattle.apv_base.specs.model.Header.{grid_of, header_comps}
use Rattle.apv_base.specs.model.Run.{MAX_UNIT}
use Rattle.apv_base.specs.model.Table.{spell, done}
use Rattle.apv_base.specs.model.Tile.{Tile, Layout, tile_header_size, tile_header_fields, tile_header_values}
use Rattle.apv_grid.specs.Buffer.{Buffer}
use Rattle.apv_workers.specs.Lengths.{tile_lengths, AreCounted}
use Rattle.apv_workers.specs.Track.{levels_in}
use Rattle.apv_workers.specs.TrackFields.{IsHead, IsWhole, head_qps}
use Rattle.apv_workers.specs.declared.track.TrackHead.{TrackHead}

-- a tile: tile_size, the tile header, and the bytes of the components
abbrev pub tile_piece : Layout → ℕ → Tile → List ℕ
tile_piece layout number tile =
    be 4 (tile_size layout.comps tile)
    ++ (spell 256 (tile_header_fields layout number (tile_size layout.comps tile) done)
    (tile_header_values layout.comps number tile.lengths tile.qps) ++ tile.bytes)

-- the tile of these levels
abbrev pub head_tile : TrackHead → Buffer ℤ → ℕ → Tile
head_tile head levels = tile_with (header_comps head.header) (head_qps head) (levels_in (grid_of head.header) levels.values)

-- the frame of these levels
abbrev pub head_frame : TrackHead → Buffer ℤ → CodedFrame
head_frame head levels = frame_with head.header (head_qps head) (levels_in (grid_of head.header) levels.values)

-- the bytes of the tiles before one
abbrev pub put_start : List ℕ → ℕ → ℕ → ℕ
put_start lengths comps tile =
    tile * (tile_header_size comps + 4) + sum (each tile (λ t. sum (tile_lengths lengths comps t)))

-- the levels and the lengths of their data are there
pub record AreReadyToPut (head : TrackHead) (levels : Buffer ℤ) (lengths : List ℕ) : Type 0 where
  pub of_header : IsHead head
  pub all : IsWhole head levels
  pub four_each : length lengths ≡ 4 * tile_count (grid_of head.header)
  pub counted : AreCounted head levels lengths

-- and there is just room for the bytes of a tile
pub record CanPut (head : TrackHead) (levels : Buffer ℤ) (lengths : List ℕ) (tile size : ℕ) : Type 0 where
  pub ready : AreReadyToPut head levels lengths
  pub tile_exists : tile < tile_count (grid_of head.header)
  pub small : size ≤ MAX_UNIT
  pub room : size ≡ tile_header_size (header_comps head.header) + 4 + sum (tile_lengths lengths (header_comps head.header) tile)

-- the bytes are those of a tile, whatever else the frame says
abbrev pub IsTilePut : TrackHead → Buffer ℤ → ℕ → List ℕ → Type 0
IsTilePut head levels tile bytes =
    (layout : Layout) → layout.comps ≡ header_comps head.header → bytes ≡ tile_piece layout tile (head_tile head levels tile)
