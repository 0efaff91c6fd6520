-- The levels that an encoder makes of a picture: those nearest to its coefficients, at the QP of each component of each
-- tile.
use Rattle.std.specs.Prelude.{◌≡◌, ℕ, ℤ, pos, ◌+ℤ◌, ◌+◌, ◌*◌, ◌<◌, List, [], length, slice_index, slice_index_or}
use Rattle.std.specs.List.{AllByRecursion}
use Rattle.apv_base.specs.declared.header.FrameHeader.{FrameHeader}
use Rattle.apv_base.specs.model.CodedFrame.{Levels, blocks_at}
use Rattle.apv_base.specs.model.Encode.{Qps, coefficient}
use Rattle.apv_base.specs.model.Grid.{tile_count, block_count}
use Rattle.apv_base.specs.model.Header.{header_comps, grid_of, flat}
use Rattle.apv_base.specs.model.Picture.{Samples}
use Rattle.apv_base.specs.model.Quant.{qp_with, step_number, shift_of, IsNearest}
use Rattle.apv_base.specs.model.Transform.{coefficient_at}

-- tile_qp of a primary frame: the QP of the access unit with the offsets of the component and of the tile, kept between
-- 0 and the maximum of the bit depth
abbrev pub primary_qps : ℕ → (ℕ → ℤ) → (ℕ → ℤ) → ℕ → Qps
primary_qps depth offset tile_offset q tile comp = qp_with q (offset comp +ℤ tile_offset tile) depth

-- tile_qp of a preview, depth or alpha frame, which has no offsets
abbrev pub plain_qps : ℕ → ℕ → Qps
plain_qps depth q tile comp = qp_with q (pos 0) depth

-- 64 levels are the nearest ones to the coefficients of a block, for a matrix, a QP and a bit depth
pub record IsNearestBlock (matrix : List ℕ) (qp depth : ℕ) (coeff : ℕ → ℕ → ℤ) (block : List ℤ) : Type 0 where
  pub count : length block ≡ 64
  pub each : (u v : ℕ) → u < 8 → v < 8
      → IsNearest (coeff u v) (step_number (slice_index matrix (8 * u + v)) qp) (shift_of depth)
      (coefficient_at block u v)

-- the levels of all blocks of a picture, coded with this header and these QPs
pub record AreLevelsOf (header : FrameHeader) (qps : Qps) (samples : Samples) (levels : Levels) : Type 0 where
  pub tiles : length levels ≡ tile_count (grid_of header)
  pub comps : AllByRecursion (λ tile. length tile ≡ header_comps header) levels
  pub count : (tile comp : ℕ) → tile < tile_count (grid_of header) → comp < header_comps header
      → length (blocks_at levels tile comp) ≡ block_count (grid_of header) tile comp
  pub nearest : (tile comp block : ℕ) → tile < tile_count (grid_of header) → comp < header_comps header
      → block < block_count (grid_of header) tile comp
      → IsNearestBlock (slice_index_or header.matrices comp flat) (qps tile comp) header.info.depth
      (coefficient (grid_of header) samples tile comp block)
      (slice_index_or (blocks_at levels tile comp) block [])
