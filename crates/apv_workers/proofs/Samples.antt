-- The samples and the coefficients of the blocks of a frame.
use Rattle.std.proofs.Common.{◌≡◌, ℕ, ℤ, zero, suc, pos, ◌+◌, ◌-◌, ◌*◌, ◌/◌, ◌%◌, ◌^◌, ◌<◌, List, get_or, drop, sym, ap, ◌∙◌, subst, arith}
use Rattle.std.specs.Prelude.{◌-ℤ◌}
use Rattle.std.proofs.lemmas.Bool.{cond_both}
use Rattle.std.proofs.lemmas.Nat.{mul-add-lt, div_below, mod_below}
use Rattle.std.proofs.lemmas.List.{get_or-take, get_or-drop}
use Rattle.apv_base.specs.model.Encode.{block_x, block_y, block_residual}
use Rattle.apv_base.specs.model.Format.{comps_of, macroblock_columns}
use Rattle.apv_base.specs.model.Grid.{Grid, tile_count, block_count, block_columns, tile_x, tile_w, tile_h, is_half}
use Rattle.apv_base.specs.model.Picture.{Samples}
use Rattle.apv_base.specs.model.Transform.{row_sum, coefficient_of, residual_at}
use Rattle.apv_grid.specs.Buffer.{Buffer, IsFilled, part_in, part_of}
use Rattle.apv_grid.specs.Laws.{HasSamplesInParts}
use Rattle.apv_tile.specs.Blocks.{block_at}
use Rattle.apv_transform.proofs.Sums.{forward_same}
use Rattle.apv_workers.specs.Components.{AreAllDone}
use Rattle.apv_workers.specs.Encode.{AreOfDepth, IsPaddedFrom, AreCoefficients, AreTransformed}

-- ---- coefficients of residuals that are the same at each place of the block

row-same : (e f : ℕ → ℕ → ℤ) (depth y v : ℕ) → ((x : ℕ) → x < 8 → e y x ≡ f y x) → row_sum e depth y v ≡ row_sum f depth y v
unfolding row_sum
row-same e f depth y v same = forward_same (depth - 6) (e y) (f y) v same

pub coefficient-same : (e f : ℕ → ℕ → ℤ) (depth u v : ℕ) → ((y x : ℕ) → y < 8 → x < 8 → e y x ≡ f y x) → coefficient_of e depth u v ≡ coefficient_of f depth u v
unfolding coefficient_of
coefficient-same e f depth u v same = forward_same 9 (λ y. row_sum e depth y v) (λ y. row_sum f depth y v) u (λ y hy. row-same e f depth y v (λ x hx. same y x hy hx))

-- ---- blocks lie in the filled area

-- the column and the row of a block of a tile of w by h macroblocks, each of 2 rows of c blocks
record LiesWithin (w h c block : ℕ) : Type 0 where
  column : block / (2 * c) % w < w
  row : block / (2 * c) / w < h
  inner_column : block % (2 * c) % c < c
  inner_row : block % (2 * c) / c < 2

some-of : (w h : ℕ) → 0 < w * h → 0 < w
some-of zero h e = omega arith
some-of (suc w) h e = omega arith

lies-within : (w h c block : ℕ) → 0 < c → block < w * h * (2 * c) → LiesWithin w h c block
lies-within w h c block some less =
    let macroblock : block / (2 * c) < w * h = div_below block (2 * c) (w * h) (omega arith) less in
    let wide : 0 < w = some-of w h (omega arith) in
    record {
      column = mod_below (block / (2 * c)) w wide;
      row = div_below (block / (2 * c)) w h wide (omega arith);
      inner_column = mod_below (block % (2 * c)) c some;
      inner_row = div_below (block % (2 * c)) c 2 some (mod_below block (2 * c) (omega arith));
    }

-- a sample x of a block in column b of a macroblock in column i, where a macroblock has c columns and there are n of them
in-column : (i b c n x : ℕ) → i < n → b < c → x < 8 → 8 * (i * c + b) + x < 8 * c * n
in-column i b c n x hi hb hx = let within = mul-add-lt i c b n hi hb in omega arith

pub block-filled : (grid : Grid) (tile comp block x y : ℕ) → comp < comps_of grid.format.chroma → block < block_count grid tile comp → x < 8 → y < 8
    → IsFilled grid comp (block_x grid tile comp block + x) (block_y grid tile comp block + y)
block-filled grid tile comp block x y known less hx hy =
    let c : ℕ = block_columns grid.format.chroma comp in
    let some : 0 < c = cond_both (is_half grid.format.chroma comp) 1 2 (λ (n : ℕ). 0 < n) (λ e. omega arith) (λ e. omega arith) in
    let p = lies-within (tile_w grid tile) (tile_h grid tile) c block some less in
    record {
      known = known;
      column = in-column (tile_x grid tile + block / (2 * c) % tile_w grid tile) (block % (2 * c) % c) c (macroblock_columns grid.format) x (omega (arith, p.column)) p.inner_column hx;
      line = omega (arith, p.row, p.inner_row, hy);
    }

-- ---- samples

pub block-item : (samples : List ℕ) (block place : ℕ) → place < 64 → get_or (block_at samples block) place 0 ≡ get_or samples (64 * block + place) 0
block-item samples block place lt = get_or-take 64 (drop (64 * block) samples) place 0 lt ∙ get_or-drop (64 * block) samples place 0

-- the samples of a component of a tile are below 2 ^ depth
pub part-of-depth : (grid : Grid) (tile comp : ℕ) (values : List ℕ) → HasSamplesInParts grid → AreOfDepth grid values → tile < tile_count grid → comp < comps_of grid.format.chroma
    → (place : ℕ) → place < 64 * block_count grid tile comp → get_or (part_in grid values tile comp) place 0 < 2 ^ grid.format.depth
part-of-depth grid tile comp values law depth lt known place less =
    let block : ℕ = place / 64 in
    let y : ℕ = place % 64 / 8 in
    let x : ℕ = place % 64 % 8 in
    let at : 64 * block + (8 * y + x) ≡ place = omega arith in
    let inside : block < block_count grid tile comp = omega arith in
    let P : ℕ → Type 0 = λ k. get_or (part_in grid values tile comp) k 0 < 2 ^ grid.format.depth in
    let Q : ℕ → Type 0 = λ v. v < 2 ^ grid.format.depth in
    subst P at (subst Q (sym (law values tile comp block x y lt known inside (omega arith) (omega arith)))
    (depth comp (block_x grid tile comp block + x) (block_y grid tile comp block + y) (block-filled grid tile comp block x y known inside (omega arith) (omega arith))))

-- the residual of a sample of a block
residual-is : (grid : Grid) (tile comp block y x : ℕ) (samples : Samples) (values : List ℕ) → HasSamplesInParts grid → IsPaddedFrom grid samples values → tile < tile_count grid → comp < comps_of grid.format.chroma
    → block < block_count grid tile comp → y < 8 → x < 8 → residual_at (block_at (part_in grid values tile comp) block) grid.format.depth y x ≡ block_residual grid samples tile comp block y x
residual-is grid tile comp block y x samples values law padded lt known inside hy hx =
    ap (λ (v : ℕ). pos v -ℤ pos (2 ^ (grid.format.depth - 1)))
    (block-item (part_in grid values tile comp) block (8 * y + x) (omega arith)
    ∙ law values tile comp block x y lt known inside hx hy
    ∙ padded comp (block_x grid tile comp block + x) (block_y grid tile comp block + y) (block-filled grid tile comp block x y known inside hx hy))

transformed-here : (frame : Buffer ℕ) (samples : Samples) (coeffs : List ℤ) → HasSamplesInParts frame.grid → AreAllDone (AreTransformed frame) frame.grid coeffs → IsPaddedFrom frame.grid samples frame.values → AreCoefficients frame.grid samples coeffs
transformed-here frame samples coeffs law all padded tile comp block u v lt known inside hu hv =
    all tile comp lt known block inside u v hu hv
    ∙ coefficient-same (residual_at (block_at (part_of frame tile comp) block) frame.grid.format.depth) (block_residual frame.grid samples tile comp block) frame.grid.format.depth u v
    (λ y x hy hx. residual-is frame.grid tile comp block y x samples frame.values law padded lt known inside hy hx)

-- all blocks transformed: their coefficients are those of the picture
pub transformed : (given grid : Grid) (frame : Buffer ℕ) (samples : Samples) (coeffs : List ℤ) → frame.grid ≡ grid → given ≡ grid → HasSamplesInParts grid → AreAllDone (AreTransformed frame) given coeffs
    → IsPaddedFrom grid samples frame.values → AreCoefficients grid samples coeffs
transformed given grid frame samples coeffs e f law all =
    let P : Grid → Type 0 = λ g. IsPaddedFrom g samples frame.values → AreCoefficients g samples coeffs in
    subst P e (transformed-here frame samples coeffs (subst HasSamplesInParts (sym e) law) (subst (λ (g : Grid). AreAllDone (AreTransformed frame) g coeffs) (f ∙ sym e) all))
