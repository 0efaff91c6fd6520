-- Levels and coefficients of the components of tiles, and the levels of a whole frame.
use Rattle.std.proofs.Common.{◌≡◌, ℕ, ℤ, zero, suc, ◌+◌, ◌*◌, ◌/◌, ◌<◌, List, [], length, get_or, drop, refl, sym, ap, ◌∙◌, subst, arith}
use Rattle.std.specs.Simd.{first_chunks}
use Rattle.std.proofs.lemmas.List.{length-take-le, length-drop}
use Rattle.std.proofs.lemmas.List.FromFn.{length-map-range_with_len, get_or-map-range_with_len}
use Rattle.apv_base.specs.declared.header.FrameHeader.{FrameHeader}
use Rattle.apv_base.specs.model.CodedFrame.{blocks_at}
use Rattle.apv_base.specs.model.Encode.{Qps, each}
use Rattle.apv_base.specs.model.Format.{comps_of}
use Rattle.apv_base.specs.model.Grid.{Grid, tile_count, block_count}
use Rattle.apv_base.specs.model.Header.{grid_of, header_comps, flat}
use Rattle.apv_base.specs.model.Nearest.{IsNearestBlock, AreLevelsOf}
use Rattle.apv_base.specs.model.Picture.{Samples}
use Rattle.apv_base.specs.model.Quant.{IsNearest, step_number, shift_of}
use Rattle.apv_base.specs.model.Transform.{coefficient_at}
use Rattle.apv_grid.specs.Buffer.{Buffer, part_in, part_of, value_count}
use Rattle.apv_quant.specs.Scale.{StepNumbers, AreNearest}
use Rattle.apv_tile.specs.Blocks.{block_at, blocks_of}
use Rattle.apv_tile.specs.Laws.{IsScaleOf}
use Rattle.apv_tile.proofs.BlockLemmas.{block_is}
use Rattle.apv_workers.specs.Components.{AreAllDone}
use Rattle.apv_workers.specs.Encode.{AreCoefficients, AreNearestTo, block_in}
use Rattle.apv_workers.specs.Track.{levels_in}
use Rattle.apv_workers.specs.TrackFields.{head_qps, CanCode, AreQuantised}
use Rattle.apv_workers.specs.declared.track.TrackHead.{TrackHead}
use Rattle.apv_workers.proofs.Frames.{all-from}
use Rattle.apv_workers.proofs.Pieces.{part-in-long}

-- ---- one component of a tile

-- its blocks, out of those of all tiles, by the grid of the header
pub coded-part : (head : TrackHead) (blocks : Buffer ℤ) (tile comp size : ℕ) (part : List ℤ) → CanCode head blocks tile comp size → part ≡ part_of blocks tile comp → part ≡ part_in (grid_of head.header) blocks.values tile comp
coded-part head blocks tile comp size part can e = e ∙ ap (λ (g : Grid). part_in g blocks.values tile comp) can.all.grid

-- it has 64 values for each block
pub coded-long : (head : TrackHead) (blocks : Buffer ℤ) (tile comp size : ℕ) (part : List ℤ) → CanCode head blocks tile comp size → part ≡ part_of blocks tile comp → length part ≡ 64 * block_count (grid_of head.header) tile comp
coded-long head blocks tile comp size part can e =
    ap length (coded-part head blocks tile comp size part can e) ∙ part-in-long (grid_of head.header) tile comp blocks.values can.all.values can.tile_exists can.comp_exists

-- a block of the values of a component has 64
pub block-long : {A : Type 0} (values : List A) (blocks block : ℕ) → length values ≡ 64 * blocks → block < blocks → length (block_at values block) ≡ 64
block-long values blocks block e lt = length-take-le 64 (drop (64 * block) values) (omega (arith, e, lt, length-drop (64 * block) values))

nearest-by : (matrix : List ℕ) (qp depth : ℕ) (scale : StepNumbers) (coeffs levels : List ℤ) → length levels ≡ 64 → IsScaleOf matrix qp depth scale → AreNearest scale.steps scale.shift coeffs levels
    → IsNearestBlock matrix qp depth (coefficient_at coeffs) levels
nearest-by matrix qp depth scale coeffs levels count is near = record {
  count = count;
  each = λ u v hu hv.
      let place : ℕ = 8 * u + v in
      let P : ℕ → ℕ → Type 0 = λ s b. IsNearest (coefficient_at coeffs u v) s b (coefficient_at levels u v) in
      subst (λ (b : ℕ). P (step_number (get_or matrix place 0) qp) b) is.shift
      (subst (λ (s : ℕ). P s scale.shift) (is.each place (omega arith)) (near place (omega arith)));
}

pub quantised : (head : TrackHead) (blocks : Buffer ℤ) (tile comp size : ℕ) (part values : List ℤ) (scale : StepNumbers) → CanCode head blocks tile comp size → part ≡ part_of blocks tile comp → length values ≡ size
    → IsScaleOf (get_or head.header.matrices comp flat) (head_qps head tile comp) head.header.info.depth scale
    → ((block : ℕ) → block < length part / 64 → AreNearest scale.steps scale.shift (block_at part block) (block_at values block)) → AreQuantised head blocks tile comp values
quantised head blocks tile comp size part values scale can e el is near block lt =
    let long = coded-long head blocks tile comp size part can e in
    let P : List ℤ → Type 0 = λ xs. IsNearestBlock (get_or head.header.matrices comp flat) (head_qps head tile comp) head.header.info.depth (coefficient_at (block_at xs block)) (block_at values block) in
    subst P (coded-part head blocks tile comp size part can e)
    (nearest-by (get_or head.header.matrices comp flat) (head_qps head tile comp) head.header.info.depth scale (block_at part block) (block_at values block)
    (block-long values (block_count (grid_of head.header) tile comp) block (el ∙ can.room) lt) is (near block (omega (arith, lt, long))))

-- all components of all tiles
pub all-quantised : (head : TrackHead) (coeffs : Buffer ℤ) (given : Grid) (values : List ℤ) → given ≡ grid_of head.header → AreAllDone (AreQuantised head coeffs) given values → AreNearestTo head.header (head_qps head) coeffs.values values
all-quantised head coeffs given values e all tile comp block lt less inside =
    let here = subst (λ (g : Grid). AreAllDone (AreQuantised head coeffs) g values) e all in
    here tile comp lt less block inside

-- ---- the levels of a frame

pub length-each : {A : Type 0} (n : ℕ) (item : ℕ → A) → length (each n item) ≡ n
length-each n item = length-map-range_with_len item 0 n

pub get_or-each : {A : Type 0} (n : ℕ) (item : ℕ → A) (i : ℕ) (d : A) → i < n → get_or (each n item) i d ≡ item i
get_or-each n item i d lt = get_or-map-range_with_len item 0 n i i d lt (omega arith)

-- the blocks of a component of a tile
pub blocks-at : (grid : Grid) (values : List ℤ) (tile comp : ℕ) → tile < tile_count grid → comp < comps_of grid.format.chroma → blocks_at (levels_in grid values) tile comp ≡ blocks_of (part_in grid values tile comp)
blocks-at grid values tile comp lt less =
    ap (λ (xs : List (List (List ℤ))). get_or xs comp []) (get_or-each (tile_count grid) (λ t. each (comps_of grid.format.chroma) (λ c. blocks_of (part_in grid values t c))) tile [] lt)
    ∙ get_or-each (comps_of grid.format.chroma) (λ c. blocks_of (part_in grid values tile c)) comp [] less

length-chunks : {A : Type 0} (n k : ℕ) (xs : List A) → length (first_chunks n k xs) ≡ k
length-chunks n zero xs = refl
length-chunks n (suc k) xs = ap suc (length-chunks n k (drop n xs))

pub blocks-long : {A : Type 0} (values : List A) (n : ℕ) → length values ≡ 64 * n → length (blocks_of values) ≡ n
blocks-long values n e = length-chunks 64 (length values / 64) values ∙ omega (arith, e)

-- one of them
pub block-of : (values : List ℤ) (n block : ℕ) → length values ≡ 64 * n → block < n → get_or (blocks_of values) block [] ≡ block_at values block
block-of values n block e lt =
    let count = blocks-long values n e in
    block_is values (blocks_of values) block refl (count ∙ omega (arith, e)) (omega (arith, count, lt))

-- levels nearest to the coefficients of a picture are those of the picture
pub levels-of-picture : (header : FrameHeader) (qps : Qps) (samples : Samples) (coeffs levels : List ℤ) → length levels ≡ value_count (grid_of header) → AreCoefficients (grid_of header) samples coeffs → AreNearestTo header qps coeffs levels
    → AreLevelsOf header qps samples (levels_in (grid_of header) levels)
levels-of-picture header qps samples coeffs levels el are near =
    let grid : Grid = grid_of header in
    record {
      tiles = length-each (tile_count grid) (λ t. each (header_comps header) (λ c. blocks_of (part_in grid levels t c)));
      comps = all-from (λ (tile : List (List (List ℤ))). length tile ≡ header_comps header) [] (levels_in grid levels)
          (λ i lt.
          let low : i < tile_count grid = omega (arith, lt, length-each (tile_count grid) (λ t. each (header_comps header) (λ c. blocks_of (part_in grid levels t c)))) in
          ap length (get_or-each (tile_count grid) (λ t. each (header_comps header) (λ c. blocks_of (part_in grid levels t c))) i [] low) ∙ length-each (header_comps header) (λ c. blocks_of (part_in grid levels i c)));
      count = λ tile comp lt less.
          ap length (blocks-at grid levels tile comp lt less) ∙ blocks-long (part_in grid levels tile comp) (block_count grid tile comp) (part-in-long grid tile comp levels el lt less);
      nearest = λ tile comp block lt less inside.
          let long = part-in-long grid tile comp levels el lt less in
          let is : get_or (blocks_at (levels_in grid levels) tile comp) block [] ≡ block_in grid levels tile comp block =
          ap (λ (bs : List (List ℤ)). get_or bs block []) (blocks-at grid levels tile comp lt less) ∙ block-of (part_in grid levels tile comp) (block_count grid tile comp) block long inside in
          let here = near tile comp block lt less inside in
          let matrix : List ℕ = get_or header.matrices comp flat in
          subst (IsNearestBlock matrix (qps tile comp) header.info.depth _) (sym is)
          (record {
            count = here.count;
            each = λ u v hu hv.
                subst (λ (z : ℤ). IsNearest z (step_number (get_or matrix (8 * u + v) 0) (qps tile comp)) (shift_of header.info.depth) (coefficient_at (block_in grid levels tile comp block) u v))
                (are tile comp block u v lt less inside hu hv) (here.each u v hu hv);
          });
    }
