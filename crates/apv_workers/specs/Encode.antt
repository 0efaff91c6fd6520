-- What the works on the tiles of a track make of it.
use Rattle.std.specs.Prelude.{◌≡◌, ℕ, ℤ, ◌*◌, ◌^◌, ◌<◌, List, length, slice_index_or}
use Rattle.apv_base.specs.declared.header.FrameHeader.{FrameHeader}
use Rattle.apv_base.specs.model.Encode.{Qps, coefficient, nearest_sample}
use Rattle.apv_base.specs.model.Format.{comps_of}
use Rattle.apv_base.specs.model.Grid.{Grid, IsSoundGrid, tile_count, block_count}
use Rattle.apv_base.specs.model.Header.{grid_of, header_comps, flat}
use Rattle.apv_base.specs.model.Nearest.{IsNearestBlock}
use Rattle.apv_base.specs.model.Picture.{Samples, sample}
use Rattle.apv_base.specs.model.Transform.{coefficient_at}
use Rattle.apv_grid.specs.Buffer.{Buffer, IsFilled, part_in, part_of, samples_in, samples_of, value_count}
use Rattle.apv_tile.specs.Blocks.{block_at}
use Rattle.apv_transform.specs.Sample.{AreCoefficientsOf}
use Rattle.apv_workers.specs.Track.{TrackState, frame_of, levels_of}

-- ---- samples and coefficients

-- the samples are those of a picture, and outside the visible area the nearest visible ones of their component
abbrev pub IsPaddedFrom : Grid → Samples → List ℕ → Type 0
IsPaddedFrom grid samples values =
    (comp x y : ℕ) → IsFilled grid comp x y
    → samples_in grid values comp x y ≡ nearest_sample grid samples comp x y

-- each sample is below 2 ^ depth
abbrev pub AreOfDepth : Grid → List ℕ → Type 0
AreOfDepth grid values =
    (comp x y : ℕ) → IsFilled grid comp x y → samples_in grid values comp x y < 2 ^ grid.format.depth

-- a block, out of the values of all tiles
abbrev pub block_in : {A : Type 0} → Grid → List A → ℕ → ℕ → ℕ → List A
block_in grid values tile comp block = block_at (part_in grid values tile comp) block

-- the coefficients of all blocks are those of a picture
abbrev pub AreCoefficients : Grid → Samples → List ℤ → Type 0
AreCoefficients grid samples coeffs =
    (tile comp block u v : ℕ) → tile < tile_count grid → comp < comps_of grid.format.chroma
    → block < block_count grid tile comp → u < 8 → v < 8
    → coefficient_at (block_in grid coeffs tile comp block) u v ≡ coefficient grid samples tile comp block u v

-- a frame of samples of its depth has values for all its blocks, and there is room for the coefficients of a component
-- of a tile
pub record CanTransform (frame : Buffer ℕ) (tile comp : ℕ) (values : List ℤ) : Type 0 where
  pub sound : IsSoundGrid frame.grid
  pub whole : length frame.values ≡ value_count frame.grid
  pub depth : AreOfDepth frame.grid frame.values
  pub tile_exists : tile < tile_count frame.grid
  pub comp_exists : comp < comps_of frame.grid.format.chroma
  pub room : length values ≡ 64 * block_count frame.grid tile comp

-- values are the coefficients of the samples of a component of a tile
abbrev pub AreTransformed : Buffer ℕ → ℕ → ℕ → List ℤ → Type 0
AreTransformed frame tile comp values =
    (block : ℕ) → block < block_count frame.grid tile comp
    → AreCoefficientsOf frame.grid.format.depth (block_at (part_of frame tile comp) block) (block_at values block)

-- ---- levels

-- the levels of all blocks are the nearest ones to these coefficients
abbrev pub AreNearestTo : FrameHeader → Qps → List ℤ → List ℤ → Type 0
AreNearestTo header qps coeffs levels =
    let grid = grid_of header in
    (tile comp block : ℕ) → tile < tile_count grid → comp < header_comps header → block < block_count grid tile comp
    → IsNearestBlock (slice_index_or header.matrices comp flat) (qps tile comp) header.info.depth
    (coefficient_at (block_in grid coeffs tile comp block)) (block_in grid levels tile comp block)

-- ---- samples of levels

-- a frame has the samples that a decoder makes of the levels of a track
abbrev pub IsRebuilt : TrackState → Buffer ℕ → Type 0
IsRebuilt track frame =
    (comp x y : ℕ) → IsFilled frame.grid comp x y
    → samples_of frame comp x y ≡ sample (frame_of track) (levels_of track) comp x y
