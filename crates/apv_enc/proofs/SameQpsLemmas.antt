-- QPs that agree on all components of all tiles make the same frame, and have the same levels.
use Rattle.std.proofs.Common.{◌≡◌, ℕ, zero, suc, ◌+◌, ◌<◌, List, [], ◌∷◌, map, refl, ap, ap₂, subst, arith}
use Rattle.std.specs.Prelude.{slice_index_or}
use Rattle.std.specs.List.{range_with_len}
use Rattle.apv_base.specs.declared.header.FrameHeader.{FrameHeader}
use Rattle.apv_base.specs.model.CodedFrame.{CodedFrame, Levels, blocks_at}
use Rattle.apv_base.specs.model.Encode.{Qps, coefficient, each, frame_body, frame_pbu, frame_with, pbu_bytes, tile_with}
use Rattle.apv_base.specs.model.Grid.{tile_count}
use Rattle.apv_base.specs.model.Header.{header_comps, grid_of, flat}
use Rattle.apv_base.specs.model.Nearest.{AreLevelsOf, IsNearestBlock}
use Rattle.apv_base.specs.model.Picture.{Samples}
use Rattle.apv_base.specs.model.Tile.{Tile}

-- the QPs agree on all components of all tiles
pub record AgreeOn (header : FrameHeader) (qps other : Qps) : Type 0 where
  pub at : (tile comp : ℕ) → tile < tile_count (grid_of header) → comp < header_comps header
      → qps tile comp ≡ other tile comp

-- ---- lists with an item for each number

same-from : {A : Type 0} (first n : ℕ) (f g : ℕ → A) → ((i : ℕ) → i < first + n → f i ≡ g i) → map f (range_with_len first n) ≡ map g (range_with_len first n)
same-from first zero f g same = refl
same-from first (suc n) f g same = ap₂ (λ x xs. x ∷ xs) (same first (omega arith)) (same-from (first + 1) n f g (λ i lt. same i (omega arith)))

each-same : {A : Type 0} (n : ℕ) (f g : ℕ → A) → ((i : ℕ) → i < n → f i ≡ g i) → each n f ≡ each n g
each-same n f g same = same-from 0 n f g (λ i lt. same i (omega arith))

-- ---- frames

-- a tile with these QPs
abbrev with_qps : Tile → List ℕ → Tile
with_qps tile qps = record { lengths = tile.lengths; qps = qps; bytes = tile.bytes }

same-tile : (comps : ℕ) (qps other : Qps) (levels : Levels) (tile : ℕ) → ((comp : ℕ) → comp < comps → qps tile comp ≡ other tile comp)
    → tile_with comps qps levels tile ≡ tile_with comps other levels tile
same-tile comps qps other levels tile same =
    ap (λ (list : List ℕ). with_qps (tile_with comps qps levels tile) list) (each-same comps (qps tile) (other tile) same)

abbrev framed : FrameHeader → List Tile → CodedFrame
framed header tiles = record { header = header; tiles = tiles }

pub same-frame : (header : FrameHeader) (qps other : Qps) (levels : Levels) → AgreeOn header qps other → frame_with header qps levels ≡ frame_with header other levels
same-frame header qps other levels agree =
    ap (framed header) (each-same (tile_count (grid_of header)) (tile_with (header_comps header) qps levels) (tile_with (header_comps header) other levels)
    (λ tile lt. same-tile (header_comps header) qps other levels tile (λ comp less. agree.at tile comp lt less)))

pub same-pbu : (kind : ℕ) (header : FrameHeader) (qps other : Qps) (levels : Levels) → AgreeOn header qps other → frame_pbu kind header qps levels ≡ frame_pbu kind header other levels
same-pbu kind header qps other levels agree = ap (λ (frame : CodedFrame). pbu_bytes kind 1 (frame_body frame)) (same-frame header qps other levels agree)

pub same-levels : (header : FrameHeader) (qps other : Qps) (samples : Samples) (levels : Levels) → AgreeOn header qps other → AreLevelsOf header qps samples levels → AreLevelsOf header other samples levels
same-levels header qps other samples levels agree are = record {
  tiles = are.tiles;
  comps = are.comps;
  count = are.count;
  nearest = λ tile comp block lt less below.
      subst (λ (qp : ℕ). IsNearestBlock (slice_index_or header.matrices comp flat) qp header.info.depth (coefficient (grid_of header) samples tile comp block) (slice_index_or (blocks_at levels tile comp) block []))
      (agree.at tile comp lt less) (are.nearest tile comp block lt less below);
}
