-- The levels of a frame are read back from the tiles that the encoder makes of them.
use Rattle.std.proofs.Common.{◌≡◌, ℕ, zero, suc, ℤ, ◌+◌, ◌<◌, List, [], ◌∷◌, ◌++◌, length, map, take, drop, refl, sym, ap, ap₂, ◌∙◌, subst, arith, append-nil}
use Rattle.std.specs.List.{concat, range_with_len, sum}
use Rattle.std.proofs.Math.Seq.{drop-append-add}
use Rattle.std.proofs.lemmas.List.{take_at}
use Rattle.std.proofs.lemmas.List.FromFn.{get_or-map-range_with_len}
use Rattle.std.proofs.lemmas.List.Sums.{sum_by-cons}
use Rattle.apv_base.specs.declared.header.FrameHeader.{FrameHeader}
use Rattle.apv_base.specs.model.CodedFrame.{Levels, HasLevels, blocks_at, tile_at, no_tile, component_data}
use Rattle.apv_base.specs.model.Component.{IsComponent, component_bytes}
use Rattle.apv_base.specs.model.Encode.{Qps, each, tile_with, frame_with}
use Rattle.apv_base.specs.model.Grid.{tile_count, block_count}
use Rattle.apv_base.specs.model.Header.{header_comps, grid_of}
use Rattle.apv_base.specs.model.Tile.{Tile}
use Rattle.apv_scan.proofs.ComponentLemmas.{spelled}
use Rattle.apv_laws.specs.Fits.{AreLevelsFor}

-- the lengths of parts, from a number on, and the parts one after another
abbrev part_lengths : (ℕ → List ℕ) → ℕ → ℕ → List ℕ
part_lengths part a n = map (λ (i : ℕ). length (part i)) (range_with_len a n)

abbrev joined_parts : (ℕ → List ℕ) → ℕ → ℕ → List ℕ
joined_parts part a n = concat (map part (range_with_len a n))

past-first : (first rest lengths : List ℕ) → drop (sum (length first ∷ lengths)) (first ++ rest) ≡ drop (sum lengths) rest
past-first first rest lengths = ap (λ (k : ℕ). drop k (first ++ rest)) (sum_by-cons (λ (x : ℕ). x) (length first) lengths) ∙ drop-append-add first rest (sum lengths)

-- a part comes after the parts before it
part-at : (part : ℕ → List ℕ) (a n i j : ℕ) → i < n → j ≡ a + i → (more : List ℕ) × (drop (sum (take i (part_lengths part a n))) (joined_parts part a n) ≡ part j ++ more)
part-at part a zero i j lt e = absurd (omega arith)
part-at part a (suc n) zero j lt e = let same : a ≡ j = omega arith in (joined_parts part (a + 1) n, ap (λ (k : ℕ). part k ++ joined_parts part (a + 1) n) same)
part-at part a (suc n) (suc i) j lt e =
    let later = part-at part (a + 1) n i j (omega arith) (omega arith) in
    (later.0, past-first (part a) (joined_parts part (a + 1) n) (take i (part_lengths part (a + 1) n)) ∙ later.1)

part-spelled : (part : ℕ → List ℕ) (comps : ℕ) (qps : List ℕ) (comp : ℕ) → comp < comps
    → component_data (record { lengths = part_lengths part 0 comps; qps = qps; bytes = joined_parts part 0 comps }) comp ≡ part comp
part-spelled part comps qps comp lt =
    let p = part-at part 0 comps comp comp lt (omega arith) in
    ap₂ take (get_or-map-range_with_len (λ (i : ℕ). length (part i)) 0 comps comp comp 0 lt (omega arith)) p.1 ∙ take_at (part comp) p.0 (length (part comp)) refl

-- blocks are read back from the tile that has them
blocks-spelled : (header : FrameHeader) (qps : Qps) (levels : Levels) (tile comp : ℕ) → AreLevelsFor header levels → tile < tile_count (grid_of header) → comp < header_comps header
    → IsComponent (block_count (grid_of header) tile comp) (component_data (tile_at (frame_with header qps levels) tile) comp) (blocks_at levels tile comp)
blocks-spelled header qps levels tile comp sound lt low =
    let comps : ℕ = header_comps header in
    let n : ℕ = block_count (grid_of header) tile comp in
    let blocks : List (List ℤ) = blocks_at levels tile comp in
    let at : tile_at (frame_with header qps levels) tile ≡ tile_with comps qps levels tile = get_or-map-range_with_len (tile_with comps qps levels) 0 (tile_count (grid_of header)) tile tile no_tile lt (omega arith) in
    let bytes : component_data (tile_at (frame_with header qps levels) tile) comp ≡ component_bytes blocks = ap (λ (t : Tile). component_data t comp) at ∙ part-spelled (λ (c : ℕ). component_bytes (blocks_at levels tile c)) comps (each comps (qps tile)) comp low in
    subst (λ (xs : List ℕ). IsComponent n xs blocks) (append-nil (component_bytes blocks) ∙ sym bytes) (spelled n blocks [] (sound.blocks tile comp) (sound.count tile comp lt low))

-- the levels of a frame are read back
pub spelled-levels : (header : FrameHeader) (qps : Qps) (levels : Levels) → AreLevelsFor header levels → HasLevels (frame_with header qps levels) levels
spelled-levels header qps levels sound = record {
  tiles = sound.tiles;
  comps = sound.comps;
  blocks = λ tile comp exists. blocks-spelled header qps levels tile comp sound exists.0 exists.1;
}
