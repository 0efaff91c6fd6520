-- The samples that are made of levels.
use Rattle.std.proofs.Common.{◌≡◌, ℕ, ℤ, ◌+◌, ◌*◌, ◌/◌, ◌%◌, ◌<◌, List, [], length, get_or, drop, sym, ap, ap₂, ◌∙◌, subst, arith}
use Rattle.std.proofs.lemmas.List.{get_or-take, get_or-drop}
use Rattle.apv_base.specs.model.CodedFrame.{Levels, blocks_at, tile_at, no_tile}
use Rattle.apv_base.specs.declared.header.FrameHeader.{FrameHeader}
use Rattle.apv_base.specs.model.Encode.{Qps, frame_with, tile_with}
use Rattle.apv_base.specs.model.Grid.{Grid, CodedPlace, coded_place, tile_count, block_count}
use Rattle.apv_base.specs.model.Header.{grid_of, header_comps, flat}
use Rattle.apv_base.specs.model.Picture.{sample, scaled_block}
use Rattle.apv_base.specs.model.Tile.{Tile}
use Rattle.apv_base.specs.model.Transform.{sample_of}
use Rattle.apv_grid.specs.Buffer.{Buffer, IsFilled, part_in, part_of, part_start, samples_in, value_count}
use Rattle.apv_grid.specs.Laws.{HasItsBlock}
use Rattle.apv_quant.specs.Scale.{StepNumbers}
use Rattle.apv_tile.specs.Blocks.{block_at, AreSamplesOfLevels}
use Rattle.apv_tile.specs.Laws.{IsScaleOf, HasDefinedSamples}
use Rattle.apv_workers.specs.Components.{AreAllDone}
use Rattle.apv_workers.specs.Track.{levels_in}
use Rattle.apv_workers.specs.TrackFields.{head_qps, CanCode, AreRebuilt}
use Rattle.apv_workers.specs.declared.track.TrackHead.{TrackHead}
use Rattle.apv_workers.proofs.Coded.{coded-part, coded-long, get_or-each, blocks-at, block-of}
use Rattle.apv_workers.proofs.Pieces.{part-in-long}
use Rattle.apv_workers.proofs.Samples.{block-item}

-- ---- one component of a tile

pub rebuilt-part : (head : TrackHead) (levels : Buffer ℤ) (tile comp size : ℕ) (part : List ℤ) (values : List ℕ) (scale : StepNumbers) → CanCode head levels tile comp size → part ≡ part_of levels tile comp
    → HasDefinedSamples (get_or head.header.matrices comp flat) (head_qps head tile comp) head.header.info.depth scale → IsScaleOf (get_or head.header.matrices comp flat) (head_qps head tile comp) head.header.info.depth scale
    → ((block : ℕ) → block < length part / 64 → AreSamplesOfLevels scale head.header.info.depth (block_at part block) (block_at values block)) → AreRebuilt head levels tile comp values
rebuilt-part head levels tile comp size part values scale can e law is each block y x lt hy hx =
    let long = coded-long head levels tile comp size part can e in
    let here = law is (block_at part block) (block_at values block) (each block (omega (arith, lt, long))) y x hy hx in
    let P : List ℤ → Type 0 = λ xs. get_or values (64 * block + (8 * y + x)) 0
    ≡ sample_of (scaled_block (get_or head.header.matrices comp flat) (head_qps head tile comp) head.header.info.depth (block_at xs block)) head.header.info.depth y x in
    subst P (coded-part head levels tile comp size part can e) (sym (block-item values block (8 * y + x) (omega (arith, hy, hx))) ∙ here)

-- ---- the frame

-- the QPs of a tile of an encoder's frame
qp-is : (header : FrameHeader) (qps : Qps) (levels : Levels) (tile comp : ℕ) → tile < tile_count (grid_of header) → comp < header_comps header → get_or (tile_at (frame_with header qps levels) tile).qps comp 0 ≡ qps tile comp
qp-is header qps levels tile comp lt less =
    ap (λ (t : Tile). get_or t.qps comp 0) (get_or-each (tile_count (grid_of header)) (tile_with (header_comps header) qps levels) tile no_tile lt)
    ∙ get_or-each (header_comps header) (qps tile) comp 0 less

module _ (head : TrackHead) (levels : Buffer ℤ) (values : List ℕ) (law : HasItsBlock (grid_of head.header)) (el : length levels.values ≡ value_count (grid_of head.header)) where
  abbrev grid : Grid
  grid = grid_of head.header

  abbrev all_levels : Levels
  all_levels = levels_in grid levels.values

  pub all-rebuilt : AreAllDone (AreRebuilt head levels) grid values → (comp x y : ℕ) → IsFilled grid comp x y → samples_in grid values comp x y ≡ sample (frame_with head.header (head_qps head) all_levels) all_levels comp x y
  unfolding sample
  all-rebuilt all comp x y filled =
      let p : CodedPlace = coded_place grid comp x y in
      let lies = law comp x y filled.known filled.column filled.line in
      let depth : ℕ = head.header.info.depth in
      let matrix : List ℕ = get_or head.header.matrices comp flat in
      let place : 8 * (p.place / 8) + p.place % 8 ≡ p.place = omega arith in
      let inside : 64 * p.block + p.place < 64 * block_count grid p.tile comp = omega (arith, lies.block, lies.place) in
      let item : get_or (part_in grid values p.tile comp) (64 * p.block + p.place) 0 ≡ samples_in grid values comp x y =
      get_or-take (64 * block_count grid p.tile comp) (drop (part_start grid p.tile comp) values) (64 * p.block + p.place) 0 inside ∙ get_or-drop (part_start grid p.tile comp) values (64 * p.block + p.place) 0 in
      let here = all p.tile comp lies.tile filled.known p.block (p.place / 8) (p.place % 8) lies.block (omega (arith, lies.place)) (omega arith) in
      let block : get_or (blocks_at all_levels p.tile comp) p.block [] ≡ block_at (part_in grid levels.values p.tile comp) p.block =
      ap (λ (bs : List (List ℤ)). get_or bs p.block []) (blocks-at grid levels.values p.tile comp lies.tile filled.known)
      ∙ block-of (part_in grid levels.values p.tile comp) (block_count grid p.tile comp) p.block (part-in-long grid p.tile comp levels.values el lies.tile filled.known) lies.block in
      let qp = qp-is head.header (head_qps head) all_levels p.tile comp lies.tile filled.known in
      sym item
      ∙ ap (λ (k : ℕ). get_or (part_in grid values p.tile comp) (64 * p.block + k) 0) (sym place)
      ∙ here
      ∙ sym (ap₂ (λ (q : ℕ) (b : List ℤ). sample_of (scaled_block matrix q depth b) depth (p.place / 8) (p.place % 8)) qp block)
