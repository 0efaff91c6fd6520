-- The frame of a track as it is coded.
use Rattle.std.specs.Prelude.{◌≡◌, ℕ, ◌+◌, ◌≤◌, List, length}
use Rattle.apv_base.specs.declared.header.FrameHeader.{FrameHeader}
use Rattle.apv_base.specs.model.CodedFrame.{Levels, tile_size}
use Rattle.apv_base.specs.model.Encode.{Qps, tile_with, frame_with, frame_pbu}
use Rattle.apv_base.specs.model.Header.{header_comps}
use Rattle.apv_base.specs.model.Run.{MAX_UNIT}
use Rattle.apv_base.specs.model.Tile.{Tile}
use Rattle.apv_workers.specs.Track.{TrackState, HasLengths, qps_of, levels_of, frame_of, data_total}

-- the PBU of a track's frame, with its size before it
abbrev pub track_pbu : ℕ → TrackState → List ℕ
track_pbu kind track = frame_pbu kind track.header (qps_of track) (levels_of track)

-- the PBU of a frame of this header has n bytes and those of the data of its tiles, whatever its type, QPs and levels
abbrev pub IsFixedSize : FrameHeader → ℕ → Type 0
IsFixedSize header n = (kind : ℕ) (qps : Qps) (levels : Levels)
    → length (frame_pbu kind header qps levels) ≡ n + data_total (frame_with header qps levels)

-- a tile of a track's frame
abbrev pub track_tile : TrackState → ℕ → Tile
track_tile track tile = tile_with (header_comps track.header) (qps_of track) (levels_of track) tile

-- the bytes of a tile after its size
abbrev pub track_tile_size : TrackState → ℕ → ℕ
track_tile_size track tile = tile_size (header_comps track.header) (track_tile track tile)

-- the lengths of a track's data are known, and they are few in all
pub record HasFewBytes (track : TrackState) : Type 0 where
  pub lengths : HasLengths track
  pub few : data_total (frame_of track) ≤ MAX_UNIT
