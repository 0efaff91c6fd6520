-- What the fields of a track keep.
use Rattle.std.specs.Prelude.{◌≡◌, ℕ, ℤ, ◌+◌, ◌*◌, ◌<◌, List, length, slice_index, slice_index_or}
use Rattle.apv_base.specs.model.Encode.{Qps}
use Rattle.apv_base.specs.model.Grid.{tile_count, block_count}
use Rattle.apv_base.specs.model.Header.{IsSoundHeader, grid_of, header_comps, flat}
use Rattle.apv_base.specs.model.Nearest.{IsNearestBlock}
use Rattle.apv_base.specs.model.Picture.{scaled_block}
use Rattle.apv_base.specs.model.Transform.{coefficient_at, sample_of}
use Rattle.apv_grid.specs.Buffer.{Buffer, value_count, part_in}
use Rattle.apv_tile.specs.Blocks.{block_at}
use Rattle.apv_workers.specs.Track.{offset_qps}
use Rattle.apv_workers.specs.declared.track.TrackHead.{TrackHead}

-- the header is sound, and there are offsets for four components and for each tile of its grid
pub record IsHead (head : TrackHead) : Type 0 where
  pub sound : IsSoundHeader head.header
  pub grid : head.grid ≡ grid_of head.header
  pub four : length head.offsets ≡ 4
  pub tiles : length head.tile_offsets.items ≡ tile_count (grid_of head.header)

-- the QPs of the tiles
abbrev pub head_qps : TrackHead → Qps
head_qps head = offset_qps head.header head.offsets head.tile_offsets.items head.q

-- these are coefficients or levels for each block of a grid
pub record IsWhole (head : TrackHead) (blocks : Buffer ℤ) : Type 0 where
  pub grid : blocks.grid ≡ grid_of head.header
  pub values : length blocks.values ≡ value_count (grid_of head.header)

-- there are coefficients and levels for each block of the grid, and four lengths for each tile
pub record IsTrack (head : TrackHead) (coeffs levels : Buffer ℤ) (lengths : List ℕ) : Type 0 where
  pub of_header : IsHead head
  pub all_coeffs : IsWhole head coeffs
  pub all_levels : IsWhole head levels
  pub four_each : length lengths ≡ 4 * tile_count (grid_of head.header)

-- ---- one component of a tile

-- a component of a tile whose blocks are there, and there are as many values for it
pub record CanCode (head : TrackHead) (blocks : Buffer ℤ) (tile comp size : ℕ) : Type 0 where
  pub of_header : IsHead head
  pub all : IsWhole head blocks
  pub tile_exists : tile < tile_count (grid_of head.header)
  pub comp_exists : comp < header_comps head.header
  pub room : size ≡ 64 * block_count (grid_of head.header) tile comp

-- values are the levels nearest to the coefficients of a component of a tile
abbrev pub AreQuantised : TrackHead → Buffer ℤ → ℕ → ℕ → List ℤ → Type 0
AreQuantised head coeffs tile comp values =
    (block : ℕ) → block < block_count (grid_of head.header) tile comp
    → IsNearestBlock (slice_index_or head.header.matrices comp flat) (head_qps head tile comp) head.header.info.depth
    (coefficient_at (block_at (part_in (grid_of head.header) coeffs.values tile comp) block)) (block_at values block)

-- values are the samples of the levels of a component of a tile
abbrev pub AreRebuilt : TrackHead → Buffer ℤ → ℕ → ℕ → List ℕ → Type 0
AreRebuilt head levels tile comp values =
    (block y x : ℕ) → block < block_count (grid_of head.header) tile comp → y < 8 → x < 8
    → slice_index values (64 * block + (8 * y + x))
    ≡ sample_of (scaled_block (slice_index_or head.header.matrices comp flat) (head_qps head tile comp)
    head.header.info.depth (block_at (part_in (grid_of head.header) levels.values tile comp) block))
    head.header.info.depth y x
