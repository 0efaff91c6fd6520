-- Where a sample is coded, and where a block lies: division with remainder at each level, from the tile to the sample.
use Rattle.std.proofs.Common.{◌≡◌, ℕ, zero, suc, ◌+◌, ◌-◌, ◌*◌, ◌/◌, ◌%◌, ◌<◌, min, Bool, true, false, ◌||◌, nat_lt, Option, Some, None, refl, arith}
use Rattle.std.specs.Prelude.{if◌then◌else◌}
use Rattle.std.proofs.lemmas.Nat.{mul-add-lt, div-mul-add, mod-mul-add, div_below, le-div, mod_below, div-add-mod'}
use Rattle.std.proofs.lemmas.Bool.{cond_both, ltb-false}
use Rattle.std.proofs.Math.Nat.{div-div-eq-div-mul}
use Rattle.apv_base.specs.declared.rules.Rule.{Rule}
use Rattle.apv_base.specs.declared.format.Chroma.{Chroma}
use Rattle.apv_base.specs.model.Encode.{block_x, block_y}
use Rattle.apv_base.specs.model.Format.{parts, macroblock_columns, macroblock_rows}
use Rattle.apv_base.specs.model.Grid.{Grid, IsSoundGrid, coded_place, tile_columns, tile_rows, tile_x, tile_y, tile_w, tile_h, tile_of, column_of, row_of, block_of, is_half, block_columns, macroblock_blocks}
use Rattle.apv_grid.specs.Laws.{IsCodedInItsBlock, HasItsBlock}

-- ---- parts of a whole

-- what is below the whole is in a part
pub below-part : (n m i : ℕ) → 0 < m → i < n → i / m < parts n m
below-part n m i pos h = le-div (suc (i / m)) (n + (m - 1)) m pos (omega (arith, div-add-mod' i m))

-- ---- the samples of a macroblock
-- a is a column of macroblocks and k one of its c columns of blocks, so that a * c + k is a column of blocks; likewise a row, where c is 2

-- the macroblock of a sample
sample-macroblock : (a c k x : ℕ) → k < c → x < 8 → (8 * (a * c + k) + x) / (8 * c) ≡ a
sample-macroblock a c k x hk hx =
    let e : 8 * (a * c + k) + x ≡ a * (8 * c) + (8 * k + x) = omega arith in
    rw e (div-mul-add a (8 * c) (8 * k + x) (omega arith))

-- its block in the macroblock
sample-block : (a c k x : ℕ) → k < c → x < 8 → (8 * (a * c + k) + x) / 8 % c ≡ k
sample-block a c k x hk hx =
    let e : (8 * (a * c + k) + x) / 8 ≡ a * c + k = omega arith in
    rw e (mod-mul-add a c k hk)

-- the block in its macroblock, from its column and row there
inner-again : (a b c inner x y : ℕ) → inner % c < c → inner / c < 2 → x < 8 → y < 8
    → (8 * (b * 2 + inner / c) + y) / 8 % 2 * c + (8 * (a * c + inner % c) + x) / 8 % c ≡ inner
inner-again a b c inner x y column row hx hy = rw (sample-block a c (inner % c) x column hx, sample-block b 2 (inner / c) y row hy) (div-add-mod' inner c)

-- the place in the block, from its column and row there
place-again : (a b x y : ℕ) → x < 8 → y < 8 → 8 * ((8 * b + y) % 8) + (8 * a + x) % 8 ≡ 8 * y + x
place-again a b x y hx hy = omega arith

-- a sample from its macroblock, its block there and its place in the block
sample-whole : (c x : ℕ) → 8 * (x / (8 * c) * c + x / 8 % c) + x % 8 ≡ x
sample-whole c x =
    let e : x / 8 / c ≡ x / (8 * c) = div-div-eq-div-mul x 8 c in
    let f : x / 8 / c * c + x / 8 % c ≡ x / 8 = div-add-mod' (x / 8) c in
    rw (← e) (omega (arith, f))

-- ---- the macroblocks of a tile

-- a tile, from its column and row of tiles, which are those of each of its macroblocks
tile-again : (t n w h i j : ℕ) → i < w → j < h → (t / n * h + j) / h * n + (t % n * w + i) / w ≡ t
tile-again t n w h i j hi hj = rw (div-mul-add (t / n) h j hj, div-mul-add (t % n) w i hi) (div-add-mod' t n)

-- a macroblock of a tile, from its column and row there
macroblock-again : (x y w m : ℕ) → (y + m / w - y) * w + (x + m % w - x) ≡ m
macroblock-again x y w m =
    let e : y + m / w - y ≡ m / w = omega arith in
    let f : x + m % w - x ≡ m % w = omega arith in
    rw (e, f) (div-add-mod' m w)

-- ---- the grid

-- where the first rule of a tile's size is not broken
no-rule : (low flat : Bool) (rule : Rule) (other : Option Rule) → (if low || flat then Some rule else other) ≡ None → (low ≡ false) × (flat ≡ false)
no-rule false false rule other e = (refl, refl)
no-rule false true rule other e = absurd (let no : ⊥ = cc in no)
no-rule true flat rule other e = absurd (let no : ⊥ = cc in no)

-- a tile has macroblocks
pub tile-size : (grid : Grid) → IsSoundGrid grid → (0 < grid.tile_width) × (0 < grid.tile_height)
tile-size grid sound =
    let sizes = no-rule (nat_lt grid.tile_width 16) (nat_lt grid.tile_height 8) _ _ sound.tiles in
    (omega (arith, ltb-false grid.tile_width 16 sizes.0), omega (arith, ltb-false grid.tile_height 8 sizes.1))

-- a macroblock has blocks of each component
pub block_columns-pos : (chroma : Chroma) (comp : ℕ) → 0 < block_columns chroma comp
block_columns-pos chroma comp = cond_both (is_half chroma comp) 1 2 (λ n. 0 < n) (λ e. omega arith) (λ e. omega arith)

-- where a sample is coded, by its macroblock's column and row, its tile, its macroblock in the tile and its block in the macroblock
pub at-is : (grid : Grid) (comp x y column row tile macroblock inner block place : ℕ) → column_of grid comp x ≡ column → row_of y ≡ row → tile_of grid column row ≡ tile
    → (row - tile_y grid tile) * tile_w grid tile + (column - tile_x grid tile) ≡ macroblock → block_of grid.format.chroma comp x y ≡ inner
    → macroblock * macroblock_blocks grid.format.chroma comp + inner ≡ block → 8 * (y % 8) + x % 8 ≡ place
    → coded_place grid comp x y ≡ record { tile = tile; block = block; place = place }
at-is grid comp x y column row tile macroblock inner block place hc hr ht hm hi hb hp = rw (hc, hr, ht, hm, hi, hb, hp) refl

-- ---- the law of the samples of a block

-- a block of a tile: its macroblock in the tile, and its block in the macroblock
record BlockParts (w h c block : ℕ) : Type 0 where
  column : block / (2 * c) % w < w
  row : block / (2 * c) / w < h
  inner_column : block % (2 * c) % c < c
  inner_row : block % (2 * c) / c < 2

pos-of-product : (w h : ℕ) → 0 < w * h → 0 < w
pos-of-product zero h e = omega arith
pos-of-product (suc w) h e = omega arith

block-parts : (w h c block : ℕ) → 0 < c → block < w * h * (2 * c) → BlockParts w h c block
block-parts w h c block pos less =
    let macroblock : block / (2 * c) < w * h = div_below block (2 * c) (w * h) (omega arith) less in
    let wide : 0 < w = pos-of-product w h (omega arith) in
    record {
      column = mod_below (block / (2 * c)) w wide;
      row = div_below (block / (2 * c)) w h wide (omega arith);
      inner_column = mod_below (block % (2 * c)) c pos;
      inner_row = div_below (block % (2 * c)) c 2 pos (mod_below block (2 * c) (omega arith));
    }

pub coded-in-block : (grid : Grid) → IsSoundGrid grid → IsCodedInItsBlock grid
coded-in-block grid sound tile comp block x y known component less hx hy =
    let c : ℕ = block_columns grid.format.chroma comp in
    let w : ℕ = tile_w grid tile in
    let h : ℕ = tile_h grid tile in
    let k : BlockParts w h c block = block-parts w h c block (block_columns-pos grid.format.chroma comp) less in
    let macroblock : ℕ = block / (2 * c) in
    let inner : ℕ = block % (2 * c) in
    at-is grid comp (block_x grid tile comp block + x) (block_y grid tile comp block + y) (tile_x grid tile + macroblock % w) (tile_y grid tile + macroblock / w) tile macroblock inner block (8 * y + x)
    (sample-macroblock (tile_x grid tile + macroblock % w) c (inner % c) x k.inner_column hx)
    (sample-macroblock (tile_y grid tile + macroblock / w) 2 (inner / c) y k.inner_row hy)
    (tile-again tile (tile_columns grid) grid.tile_width grid.tile_height (macroblock % w) (macroblock / w) (omega (arith, k.column)) (omega (arith, k.row)))
    (macroblock-again (tile_x grid tile) (tile_y grid tile) w macroblock)
    (inner-again (tile_x grid tile + macroblock % w) (tile_y grid tile + macroblock / w) c inner x y k.inner_column k.inner_row hx hy)
    (div-add-mod' block (2 * c))
    (place-again ((tile_x grid tile + macroblock % w) * c + inner % c) ((tile_y grid tile + macroblock / w) * 2 + inner / c) x y hx hy)

-- ---- the law of the block of a sample

-- a place in a part of a whole, the last part being cut
record InPart (whole size part place : ℕ) : Type 0 where
  again : part * size + (place - part * size) ≡ place
  below : place - part * size < min size (whole - part * size)

-- a place below the whole is in the part that holds it
in-part : (whole size part place : ℕ) → 0 < size → place < whole → part ≡ place / size → InPart whole size part place
in-part whole size part place pos less e =
    let split : part * size + place % size ≡ place = rw e (div-add-mod' place size) in
    let low : place % size < size = mod_below place size pos in
    record { again = omega arith; below = omega arith }

-- a sample below the whole is in a macroblock below it
macroblock-below : (whole c x : ℕ) → 0 < c → x < 8 * c * whole → x / (8 * c) < whole
macroblock-below whole c x pos less = div_below x (8 * c) whole (omega arith) (omega arith)

-- a block of a tile by the column i and the row j of its macroblock, and the column p and the row q of the block in it
record IsBlock (w h c i j p q : ℕ) : Type 0 where
  column : i < w
  row : j < h
  inner_column : p < c
  inner_row : q < 2

-- its place in the order of coding
abbrev block-number : ℕ → ℕ → ℕ → ℕ → ℕ → ℕ → ℕ
block-number w c i j p q = (j * w + i) * (2 * c) + (q * c + p)

-- it is below the number of blocks of the tile
block-below : (w h c i j p q : ℕ) → IsBlock w h c i j p q → block-number w c i j p q < w * h * (2 * c)
block-below w h c i j p q known =
    let macroblock : j * w + i < w * h = mul-add-lt j w i h known.row known.column in
    let inner : q * c + p < c * 2 = mul-add-lt q c p 2 known.inner_row known.inner_column in
    omega (arith, mul-add-lt (j * w + i) (2 * c) (q * c + p) (w * h) macroblock (omega arith))

-- its macroblock
block-macroblock : (w h c i j p q : ℕ) → IsBlock w h c i j p q → block-number w c i j p q / (2 * c) ≡ j * w + i
block-macroblock w h c i j p q known = div-mul-add (j * w + i) (2 * c) (q * c + p) (omega (arith, mul-add-lt q c p 2 known.inner_row known.inner_column))

-- its block in the macroblock
block-inner : (w h c i j p q : ℕ) → IsBlock w h c i j p q → block-number w c i j p q % (2 * c) ≡ q * c + p
block-inner w h c i j p q known = mod-mul-add (j * w + i) (2 * c) (q * c + p) (omega (arith, mul-add-lt q c p 2 known.inner_row known.inner_column))

-- the column and the row of a sample, from its block and its place
column-again : (w h c i j p q x y a : ℕ) → IsBlock w h c i j p q → a + i ≡ x / (8 * c) → p ≡ x / 8 % c
    → 8 * ((a + block-number w c i j p q / (2 * c) % w) * c + block-number w c i j p q % (2 * c) % c) + (8 * (y % 8) + x % 8) % 8 ≡ x
column-again w h c i j p q x y a known e f =
    let low : (8 * (y % 8) + x % 8) % 8 ≡ x % 8 = omega arith in
    rw (block-macroblock w h c i j p q known, block-inner w h c i j p q known, mod-mul-add j w i known.column, mod-mul-add q c p known.inner_column, e, f, low) (sample-whole c x)

row-again : (w h c i j p q x y b : ℕ) → IsBlock w h c i j p q → b + j ≡ y / 16 → q ≡ y / 8 % 2
    → 8 * ((b + block-number w c i j p q / (2 * c) / w) * 2 + block-number w c i j p q % (2 * c) / c) + (8 * (y % 8) + x % 8) / 8 ≡ y
row-again w h c i j p q x y b known e f =
    rw (block-macroblock w h c i j p q known, block-inner w h c i j p q known, div-mul-add j w i known.column, div-mul-add q c p known.inner_column, e, f) (omega arith)

place-below : (x y : ℕ) → 8 * (y % 8) + x % 8 < 64
place-below x y = omega arith

pub sample-in-block : (grid : Grid) → IsSoundGrid grid → HasItsBlock grid
sample-in-block grid sound comp x y known hx hy =
    let c : ℕ = block_columns grid.format.chroma comp in
    let pos : 0 < c = block_columns-pos grid.format.chroma comp in
    let size = tile-size grid sound in
    let columns : ℕ = tile_columns grid in
    let column : ℕ = column_of grid comp x in
    let row : ℕ = row_of y in
    let tile : ℕ = tile_of grid column row in
    let less_x : column < macroblock_columns grid.format = macroblock-below (macroblock_columns grid.format) c x pos hx in
    let less_y : row < macroblock_rows grid.format = macroblock-below (macroblock_rows grid.format) 2 y (omega arith) hy in
    let tile_less_x : column / grid.tile_width < columns = below-part (macroblock_columns grid.format) grid.tile_width column size.0 less_x in
    let tile_less_y : row / grid.tile_height < tile_rows grid = below-part (macroblock_rows grid.format) grid.tile_height row size.1 less_y in
    let across : InPart (macroblock_columns grid.format) grid.tile_width (tile % columns) column =
    in-part (macroblock_columns grid.format) grid.tile_width (tile % columns) column size.0 less_x (mod-mul-add (row / grid.tile_height) columns (column / grid.tile_width) tile_less_x) in
    let down : InPart (macroblock_rows grid.format) grid.tile_height (tile / columns) row =
    in-part (macroblock_rows grid.format) grid.tile_height (tile / columns) row size.1 less_y (div-mul-add (row / grid.tile_height) columns (column / grid.tile_width) tile_less_x) in
    let w : ℕ = tile_w grid tile in
    let h : ℕ = tile_h grid tile in
    let i : ℕ = column - tile_x grid tile in
    let j : ℕ = row - tile_y grid tile in
    let p : ℕ = x / 8 % c in
    let q : ℕ = y / 8 % 2 in
    let is : IsBlock w h c i j p q = record { column = across.below; row = down.below; inner_column = mod_below (x / 8) c pos; inner_row = mod_below (y / 8) 2 (omega arith) } in
    record {
      tile = mul-add-lt (row / grid.tile_height) columns (column / grid.tile_width) (tile_rows grid) tile_less_y tile_less_x;
      block = block-below w h c i j p q is;
      place = place-below x y;
      column = column-again w h c i j p q x y (tile_x grid tile) is across.again refl;
      row = row-again w h c i j p q x y (tile_y grid tile) is down.again refl;
    }
