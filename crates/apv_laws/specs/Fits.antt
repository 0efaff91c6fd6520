-- Coded frames that are spelled as they are.
use Rattle.std.specs.Prelude.{◌≡◌, ℕ, ◌^◌, ◌<◌, ◌≤◌, length}
use Rattle.std.specs.List.{AllByRecursion, sum}
use Rattle.apv_base.specs.declared.header.FrameHeader.{FrameHeader}
use Rattle.apv_base.specs.model.CodedFrame.{CodedFrame, Levels, IsTile, tile_size, blocks_at}
use Rattle.apv_base.specs.model.Component.{AreBlocks}
use Rattle.apv_base.specs.model.Encode.{Qps}
use Rattle.apv_base.specs.model.Grid.{tile_count, block_count}
use Rattle.apv_base.specs.model.Header.{header_comps, grid_of, IsSoundHeader}
use Rattle.apv_base.specs.model.Quant.{max_qp}
use Rattle.apv_base.specs.model.Tile.{Tile}

-- a tile whose components lie within its bytes, whose size has four bytes, and whose QPs the bit depth permits
pub record FitsTile (comps depth : ℕ) (tile : Tile) : Type 0 where
  pub is : IsTile comps tile
  pub lengths : sum tile.lengths ≤ length tile.bytes
  pub size : tile_size comps tile < 2 ^ 32
  pub qps : AllByRecursion (λ qp. qp ≤ max_qp depth) tile.qps

-- a sound header, and as many tiles as it has, each of which fits
pub record Fits (frame : CodedFrame) : Type 0 where
  pub header : IsSoundHeader frame.header
  pub count : length frame.tiles ≡ tile_count (grid_of frame.header)
  pub tiles : AllByRecursion (FitsTile (header_comps frame.header) frame.header.info.depth) frame.tiles

-- each QP of a frame of this header is at most the maximum of its bit depth
abbrev pub ArePermittedQps : FrameHeader → Qps → Type 0
ArePermittedQps header qps = (tile comp : ℕ) → tile < tile_count (grid_of header) → comp < header_comps header
    → qps tile comp ≤ max_qp header.info.depth

-- levels are blocks, as many as the header has in each component of each tile
pub record AreLevelsFor (header : FrameHeader) (levels : Levels) : Type 0 where
  pub tiles : length levels ≡ tile_count (grid_of header)
  pub comps : AllByRecursion (λ tile. length tile ≡ header_comps header) levels
  pub count : (tile comp : ℕ) → tile < tile_count (grid_of header) → comp < header_comps header
      → length (blocks_at levels tile comp) ≡ block_count (grid_of header) tile comp
  pub blocks : (tile comp : ℕ) → AreBlocks (blocks_at levels tile comp)
