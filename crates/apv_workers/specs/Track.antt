-- What the encoder keeps of the frames of one kind: the pictures of a slot, on their way to coded tiles.
use Rattle.std.specs.Prelude.{◌≡◌, ℕ, ℤ, pos, ◌+◌, ◌*◌, ◌<◌, List, length, map, replicate, slice_index, slice_index_or}
use Rattle.std.specs.List.{sum}
use Rattle.apv_base.specs.declared.header.FrameHeader.{FrameHeader}
use Rattle.apv_base.specs.model.CodedFrame.{CodedFrame, Levels, blocks_at, stated_sizes, tile_list_values}
use Rattle.apv_base.specs.model.Component.{component_bytes}
use Rattle.apv_base.specs.model.Encode.{Qps, each, frame_with}
use Rattle.apv_base.specs.model.Format.{comps_of}
use Rattle.apv_base.specs.model.Grid.{Grid, tile_count}
use Rattle.apv_base.specs.model.Header.{grid_of, header_comps}
use Rattle.apv_base.specs.model.Nearest.{primary_qps}
use Rattle.apv_base.specs.model.Table.{spell}
use Rattle.apv_base.specs.model.Tile.{Tile, tiles_table, layout_of, tile_header_size}
use Rattle.apv_grid.specs.Buffer.{Buffer, value_count, part_in}
use Rattle.apv_tile.specs.Blocks.{blocks_of}

-- What a track is seen as: the header of its frames; the offsets of the QPs, of each of four components and of each
-- tile; the samples of a frame; the coefficients and the levels of its blocks, 64 for each; the bytes of the data of
-- each component of each tile, four for a tile; and the QP of the levels.
pub record TrackState : Type 0 where
  pub header : FrameHeader
  pub offsets : List ℤ
  pub tile_offsets : List ℤ
  pub frame : Buffer ℕ
  pub coeffs : List ℤ
  pub levels : List ℤ
  pub lengths : List ℕ
  pub q : ℕ

-- with other samples
abbrev pub with_frame : TrackState → Buffer ℕ → TrackState
with_frame track frame = record track { frame = frame }

-- a track in which nothing was set yet
abbrev pub new_track : FrameHeader → List ℤ → TrackState
new_track header offsets =
    let grid = grid_of header in
    record {
      header = header;
      offsets = offsets;
      tile_offsets = replicate (tile_count grid) (pos 0);
      frame = record { grid = grid; values = replicate (value_count grid) 0 };
      coeffs = replicate (value_count grid) (pos 0);
      levels = replicate (value_count grid) (pos 0);
      lengths = replicate (4 * tile_count grid) 0;
      q = 0;
    }

-- ---- its frame

-- the QPs of its tiles by the offsets, at a QP: tile_qp
abbrev pub offset_qps : FrameHeader → List ℤ → List ℤ → ℕ → Qps
offset_qps header offsets tile_offsets =
    primary_qps header.info.depth (λ comp. slice_index_or offsets comp (pos 0))
    (λ tile. slice_index_or tile_offsets tile (pos 0))

-- the QPs of its levels
abbrev pub qps_of : TrackState → Qps
qps_of track = offset_qps track.header track.offsets track.tile_offsets track.q

-- the levels in a buffer, tile by tile, component by component and block by block
abbrev pub levels_in : Grid → List ℤ → Levels
levels_in grid values =
    each (tile_count grid) (λ tile. each (comps_of grid.format.chroma) (λ comp. blocks_of (part_in grid values tile comp)))

-- its levels
abbrev pub levels_of : TrackState → Levels
levels_of track = levels_in (grid_of track.header) track.levels

-- its frame
abbrev pub frame_of : TrackState → CodedFrame
frame_of track = frame_with track.header (qps_of track) (levels_of track)

-- ---- the lengths of its data

-- the place of the length of a component's data
abbrev pub length_place : ℕ → ℕ → ℕ
length_place tile comp = 4 * tile + comp

-- the length of the data of each component of each tile is that of its levels: tile_data_size
abbrev pub HasLengths : TrackState → Type 0
HasLengths track =
    (tile comp : ℕ) → tile < tile_count (grid_of track.header) → comp < header_comps track.header
    → slice_index track.lengths (length_place tile comp) ≡ length (component_bytes (blocks_at (levels_of track) tile comp))

-- the bytes of the data of one tile
abbrev pub data_bytes : Tile → ℕ
data_bytes tile = length tile.bytes

-- the bytes of the data of all tiles of a frame
abbrev pub data_total : CodedFrame → ℕ
data_total frame = sum (map data_bytes frame.tiles)

-- ---- its tiles in bytes

-- the tiles of a frame, each after its size: what follows the header in the frame's body
abbrev pub tiles_bytes : CodedFrame → List ℕ
tiles_bytes frame = spell 256 (tiles_table (layout_of frame.header (stated_sizes frame))) (tile_list_values frame)

-- how many bytes they are
abbrev pub tiles_size : CodedFrame → ℕ
tiles_size frame =
    tile_count (grid_of frame.header) * (tile_header_size (header_comps frame.header) + 4) + data_total frame
