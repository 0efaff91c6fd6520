-- The lengths of the data of the components of tiles.
use Rattle.std.specs.Prelude.{◌≡◌, ℕ, ℤ, ◌*◌, ◌<◌, List, length, take, drop, slice_index}
use Rattle.apv_base.specs.declared.header.FrameHeader.{FrameHeader}
use Rattle.apv_base.specs.model.Component.{component_bytes}
use Rattle.apv_base.specs.model.Grid.{Grid, tile_count}
use Rattle.apv_base.specs.model.Header.{grid_of, header_comps}
use Rattle.apv_grid.specs.Buffer.{Buffer, part_in}
use Rattle.apv_tile.specs.Blocks.{blocks_of}
use Rattle.apv_workers.specs.Track.{length_place}
use Rattle.apv_workers.specs.declared.track.TrackHead.{TrackHead}

-- the lengths of the components of a tile
abbrev pub tile_lengths : List ℕ → ℕ → ℕ → List ℕ
tile_lengths lengths comps tile = take comps (drop (4 * tile) lengths)

-- the bytes of a component of these levels
abbrev pub level_bytes : Grid → List ℤ → ℕ → ℕ → List ℕ
level_bytes grid levels tile comp = component_bytes (blocks_of (part_in grid levels tile comp))

-- a number is the length of a component
abbrev pub IsLength : TrackHead → Buffer ℤ → ℕ → ℕ → ℕ → Type 0
IsLength head levels tile comp count = count ≡ length (level_bytes (grid_of head.header) levels.values tile comp)

-- ---- numbers for the components of tiles

-- what holds of each component of each tile
abbrev pub OfEach : FrameHeader → (ℕ → ℕ → Type 0) → Type 0
OfEach header Holds = (tile comp : ℕ) → tile < tile_count (grid_of header) → comp < header_comps header → Holds tile comp

-- the tile exists, its components may be asked for, and there are four lengths for it
pub record IsTileOfLengths (header : FrameHeader) (Ready : ℕ → ℕ → Type 0) (tile : ℕ) (lengths : List ℕ) : Type 0 where
  pub exists : tile < tile_count (grid_of header)
  pub four : length lengths ≡ 4
  pub ready : OfEach header Ready

-- the first n of four lengths are the numbers of the components of a tile
abbrev pub AreTileLengths : (ℕ → ℕ → ℕ → Type 0) → ℕ → ℕ → List ℕ → Type 0
AreTileLengths Counts tile n lengths = (comp : ℕ) → comp < n → Counts tile comp (slice_index lengths comp)

-- the lengths are the numbers of each component of each tile, four for a tile
abbrev pub AreLengths : FrameHeader → (ℕ → ℕ → ℕ → Type 0) → List ℕ → Type 0
AreLengths header Counts lengths = OfEach header (λ tile comp. Counts tile comp (slice_index lengths (length_place tile comp)))

-- the lengths are those of each component of each tile, four for a tile
abbrev pub AreCounted : TrackHead → Buffer ℤ → List ℕ → Type 0
AreCounted head levels lengths = AreLengths head.header (IsLength head levels) lengths
