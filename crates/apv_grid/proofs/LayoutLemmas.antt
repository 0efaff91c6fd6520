-- Where the values of tiles, of their components and of their blocks are.
use Rattle.std.proofs.Common.{◌≡◌, ◌≢◌, ℕ, zero, suc, ◌+◌, ◌-◌, ◌*◌, ◌/◌, ◌%◌, ◌<◌, ◌≤◌, min, Bool, true, false, if◌then◌else◌, refl, sym, ◌∙◌, ap, arith, ⊎_elim}
use Rattle.std.proofs.lemmas.Nat.{mul-le, mul-add-lt, div-mul-add, mod-mul-add, div_below, mod_below, div-add-mod', le-div}
use Rattle.std.proofs.lemmas.Bool.{cases_lt}
use Rattle.std.proofs.Math.Nat.{zero-div, zero-mod}
use Rattle.apv_base.specs.declared.format.Chroma.{Chroma}
use Rattle.apv_base.specs.declared.format.Chroma.TheVariants.{C400, C422, C444, C4444}
use Rattle.apv_base.specs.model.Format.{parts, comps_of, macroblock_columns, macroblock_rows}
use Rattle.apv_base.specs.model.Grid.{Grid, IsSoundGrid, tile_count, tile_columns, tile_rows, tile_x, tile_y, tile_w, tile_h, column_of, row_of, tile_of, block_of, is_half, block_count, block_columns, macroblock_blocks}
use Rattle.apv_grid.specs.Buffer.{IsTileRun, IsFilled, macroblock_before, values_before, tile_value_count, tile_start, value_count, part_start, place_in}
use Rattle.apv_grid.specs.Strip.{row_place, IsStrip}
use Rattle.apv_grid.proofs.LawLemmas.{tile-size, below-part, at-is, block_columns-pos}

-- ---- the values of a macroblock

pub half-values : (chroma : Chroma) (comp : ℕ) → is_half chroma 1 ≡ true → comp ≢ 0 → comp ≤ comps_of chroma → 128 + 128 * comp ≡ macroblock_before chroma comp
unfolding macroblock_before
half-values C400 comp e some few = absurd (let no : ⊥ = cc in no)
half-values C422 zero e some few = absurd (some refl)
half-values C422 (suc zero) e some few = refl
half-values C422 (suc (suc zero)) e some few = refl
half-values C422 (suc (suc (suc zero))) e some few = refl
half-values C422 (suc (suc (suc (suc n)))) e some few = absurd (omega arith)
half-values C444 comp e some few = absurd (let no : ⊥ = cc in no)
half-values C4444 comp e some few = absurd (let no : ⊥ = cc in no)

blocks-whole : (chroma : Chroma) (comp : ℕ) → is_half chroma 1 ≡ false → macroblock_blocks chroma comp ≡ 4
blocks-whole C400 comp e = refl
blocks-whole C422 comp e = absurd (let no : ⊥ = cc in no)
blocks-whole C444 comp e = refl
blocks-whole C4444 comp e = refl

pub whole-values : (chroma : Chroma) (comp : ℕ) → is_half chroma 1 ≡ false → 256 * comp ≡ macroblock_before chroma comp
unfolding macroblock_before
whole-values chroma zero e = refl
whole-values chroma (suc comp) e = omega (arith, whole-values chroma comp e, blocks-whole chroma comp e)

pub no-values : (chroma : Chroma) → 0 ≡ macroblock_before chroma 0
unfolding macroblock_before
no-values chroma = refl

-- ---- the values of a tile

pub values-before-is : (grid : Grid) (tile comp : ℕ) → values_before grid tile comp ≡ tile_w grid tile * tile_h grid tile * macroblock_before grid.format.chroma comp
unfolding values_before macroblock_before
values-before-is grid tile zero = omega arith
values-before-is grid tile (suc comp) = omega (arith, values-before-is grid tile comp)

-- ---- the values of the tiles before one

-- parts of a size cover the whole, and each begins below its end
parts-cover : (n m : ℕ) → 0 < m → n ≤ parts n m * m
parts-cover n m pos = omega (arith, div-add-mod' (n + (m - 1)) m, mod_below (n + (m - 1)) m pos)

part-begins : (n m i : ℕ) → 0 < m → i < parts n m → i * m < n
part-begins n m i pos h = omega (arith, div-add-mod' (n + (m - 1)) m, mul-le (suc i) m (parts n m) m h (omega arith))

-- the macroblocks of the tiles before one, of n columns of tiles
abbrev before : ℕ → ℕ → ℕ → ℕ → ℕ → ℕ → ℕ
before n tw th mw mh t = min (t / n * th) mh * mw + t % n * tw * min th (mh - t / n * th)

record Next (n t i j : ℕ) : Type 0 where
  row : (t + 1) / n ≡ j
  column : (t + 1) % n ≡ i

next-in-row : (n t : ℕ) → t % n + 1 < n → Next n t (t % n + 1) (t / n)
next-in-row n t h =
    let e : t + 1 ≡ t / n * n + (t % n + 1) = omega (arith, div-add-mod' t n) in
    record { row = rw e (div-mul-add (t / n) n (t % n + 1) h); column = rw e (mod-mul-add (t / n) n (t % n + 1) h) }

next-row : (n t : ℕ) → 0 < n → t % n + 1 ≡ n → Next n t 0 (t / n + 1)
next-row n t pos h =
    let e : t + 1 ≡ (t / n + 1) * n + 0 = omega (arith, div-add-mod' t n) in
    record { row = rw e (div-mul-add (t / n + 1) n 0 pos); column = rw e (mod-mul-add (t / n + 1) n 0 pos) }

before-in-row : (n tw th mw mh t : ℕ) → 0 < tw → n ≡ parts mw tw → t % n + 1 < n
    → before n tw th mw mh t + min tw (mw - t % n * tw) * min th (mh - t / n * th) ≡ before n tw th mw mh (t + 1)
before-in-row n tw th mw mh t pos e h =
    let k : Next n t (t % n + 1) (t / n) = next-in-row n t h in
    let less : (t % n + 1) * tw < mw = part-begins mw tw (t % n + 1) pos (omega arith) in
    let whole : min tw (mw - t % n * tw) ≡ tw = omega arith in
    rw (k.row, k.column, whole) (omega arith)

before-next-row : (n tw th mw mh t : ℕ) → 0 < tw → 0 < n → n ≡ parts mw tw → t / n * th < mh → t % n * tw < mw → t % n + 1 ≡ n
    → before n tw th mw mh t + min tw (mw - t % n * tw) * min th (mh - t / n * th) ≡ before n tw th mw mh (t + 1)
before-next-row n tw th mw mh t pos some e low left h =
    let k : Next n t 0 (t / n + 1) = next-row n t some h in
    let cover : mw ≤ n * tw = rw e (parts-cover mw tw pos) in
    let split : n * tw ≡ t % n * tw + tw = omega (arith, ap (λ (k : ℕ). k * tw) h) in
    let w : ℕ = mw - t % n * tw in
    let cut : min tw w ≡ w = omega arith in
    let sum : t % n * tw + w ≡ mw = omega arith in
    let top : min (t / n * th) mh ≡ t / n * th = omega arith in
    let hh : ℕ = min th (mh - t / n * th) in
    let below : min ((t / n + 1) * th) mh ≡ t / n * th + hh = omega arith in
    rw (k.row, k.column, cut, top, below)
    (omega (arith, ap (λ (k : ℕ). k * hh) sum))

before-next : (n m tw th mw mh t : ℕ) → 0 < tw → 0 < th → n ≡ parts mw tw → m ≡ parts mh th → t < n * m
    → before n tw th mw mh t + min tw (mw - t % n * tw) * min th (mh - t / n * th) ≡ before n tw th mw mh (t + 1)
before-next zero m tw th mw mh t pw ph en em h = absurd (omega arith)
before-next (suc n) m tw th mw mh t pw ph en em h =
    let column : t % suc n < suc n = mod_below t (suc n) (omega arith) in
    let row : t / suc n < m = div_below t (suc n) m (omega arith) (omega arith) in
    let low : t / suc n * th < mh = part-begins mh th (t / suc n) ph (omega arith) in
    let left : t % suc n * tw < mw = part-begins mw tw (t % suc n) pw (omega arith) in
    ⊎_elim (λ h. before-in-row (suc n) tw th mw mh t pw en h) (λ h. before-next-row (suc n) tw th mw mh t pw (omega arith) en low left (omega arith)) (cases_lt (t % suc n + 1) (suc n))

before-none : (n tw th mw mh : ℕ) → before n tw th mw mh 0 ≡ 0
before-none n tw th mw mh =
    let top : min (0 * th) mh ≡ 0 = omega arith in
    rw (zero-div n, zero-mod n, top) (omega arith)

before-all : (n m tw th mw mh : ℕ) → 0 < tw → 0 < th → n ≡ parts mw tw → m ≡ parts mh th → before n tw th mw mh (n * m) ≡ mw * mh
before-all zero m tw th mw mh pw ph en em =
    let none : mw ≡ 0 = omega (arith, rw (← en) at (parts-cover mw tw pw)) in
    let t : 0 * m ≡ 0 = omega arith in
    rw (t, none) (before-none 0 tw th 0 mh ∙ omega arith)
before-all (suc n) m tw th mw mh pw ph en em =
    let e : suc n * m ≡ m * suc n + 0 = omega arith in
    let row : suc n * m / suc n ≡ m = rw e (div-mul-add m (suc n) 0 (omega arith)) in
    let column : suc n * m % suc n ≡ 0 = rw e (mod-mul-add m (suc n) 0 (omega arith)) in
    let cover : mh ≤ m * th = rw em (parts-cover mh th ph) in
    let top : min (m * th) mh ≡ mh = omega arith in
    rw (row, column, top) (omega arith)

-- in a grid
abbrev pub macroblocks-before : Grid → ℕ → ℕ
macroblocks-before grid tile =
    min (tile_y grid tile) (macroblock_rows grid.format) * macroblock_columns grid.format + tile_x grid tile * tile_h grid tile

abbrev pub macroblock-values : Grid → ℕ
macroblock-values grid = macroblock_before grid.format.chroma (comps_of grid.format.chroma)

pub tile-start-is : (grid : Grid) (tile : ℕ) → IsSoundGrid grid → tile ≤ tile_count grid → tile_start grid tile ≡ macroblocks-before grid tile * macroblock-values grid
unfolding tile_start
tile-start-is grid zero sound h =
    let e : macroblocks-before grid zero ≡ 0 = before-none (tile_columns grid) grid.tile_width grid.tile_height (macroblock_columns grid.format) (macroblock_rows grid.format) in
    rw e (omega arith)
tile-start-is grid (suc tile) sound h =
    let size = tile-size grid sound in
    let next = before-next (tile_columns grid) (tile_rows grid) grid.tile_width grid.tile_height (macroblock_columns grid.format) (macroblock_rows grid.format) tile size.0 size.1 refl refl (omega arith) in
    let e : tile + 1 ≡ suc tile = omega arith in
    let next' : macroblocks-before grid tile + tile_w grid tile * tile_h grid tile ≡ macroblocks-before grid (suc tile) = rw (sym e) next in
    rw (sym next', tile-start-is grid tile sound (omega arith), values-before-is grid tile (comps_of grid.format.chroma)) (omega arith)

pub count-is : (grid : Grid) → IsSoundGrid grid → value_count grid ≡ macroblock_columns grid.format * macroblock_rows grid.format * macroblock-values grid
count-is grid sound =
    let size = tile-size grid sound in
    let all = before-all (tile_columns grid) (tile_rows grid) grid.tile_width grid.tile_height (macroblock_columns grid.format) (macroblock_rows grid.format) size.0 size.1 refl refl in
    tile-start-is grid (tile_count grid) sound (omega arith) ∙ ap (λ (k : ℕ). k * macroblock-values grid) all

-- ---- tiles and components are one after another

pub starts-rise : (grid : Grid) (t u : ℕ) → t ≤ u → tile_start grid t ≤ tile_start grid u
unfolding tile_start
starts-rise grid t zero h = let e : t ≡ 0 = omega arith in rw e (omega arith)
starts-rise grid t (suc u) h =
    ⊎_elim (λ less. omega (arith, starts-rise grid t u (omega arith))) (λ (more : suc u ≤ t). let e : t ≡ suc u = omega arith in rw e (omega arith)) (cases_lt t (suc u))

pub next-start : (grid : Grid) (tile : ℕ) → tile_start grid (suc tile) ≡ tile_start grid tile + tile_value_count grid tile
unfolding tile_start
next-start grid tile = refl

-- a tile ends where a later one begins, or before
pub tile-before : (grid : Grid) (t u : ℕ) → t < u → tile_start grid t + tile_value_count grid t ≤ tile_start grid u
tile-before grid t u h = omega (arith, next-start grid t, starts-rise grid (suc t) u (omega arith))

pub tile-start-within : (grid : Grid) (tile : ℕ) → tile ≤ tile_count grid → tile_start grid tile ≤ value_count grid
tile-start-within grid tile h = starts-rise grid tile (tile_count grid) h

comps-rise : (grid : Grid) (tile c d : ℕ) → c ≤ d → values_before grid tile c ≤ values_before grid tile d
unfolding values_before
comps-rise grid tile c zero h = let e : c ≡ 0 = omega arith in rw e (omega arith)
comps-rise grid tile c (suc d) h =
    ⊎_elim (λ less. omega (arith, comps-rise grid tile c d (omega arith))) (λ (more : suc d ≤ c). let e : c ≡ suc d = omega arith in rw e (omega arith)) (cases_lt c (suc d))

next-comp : (grid : Grid) (tile comp : ℕ) → values_before grid tile (suc comp) ≡ values_before grid tile comp + 64 * block_count grid tile comp
unfolding values_before
next-comp grid tile comp = refl

pub comp-before : (grid : Grid) (tile c d : ℕ) → c < d → values_before grid tile c + 64 * block_count grid tile c ≤ values_before grid tile d
comp-before grid tile c d h = omega (arith, next-comp grid tile c, comps-rise grid tile (suc c) d (omega arith))

pub comps-within : (grid : Grid) (tile comp : ℕ) → tile < tile_count grid → comp ≤ comps_of grid.format.chroma → tile_start grid tile + values_before grid tile comp ≤ value_count grid
comps-within grid tile comp known few =
    omega (arith, tile-before grid tile (tile_count grid) known, comps-rise grid tile comp (comps_of grid.format.chroma) few)

pub part-within : (grid : Grid) (tile comp : ℕ) → tile < tile_count grid → comp < comps_of grid.format.chroma
    → part_start grid tile comp + 64 * block_count grid tile comp ≤ value_count grid
part-within grid tile comp known few = omega (arith, next-comp grid tile comp, comps-within grid tile (suc comp) known (omega arith))

-- ---- the row of a sample in its tile

-- the columns of blocks of a macroblock
abbrev pub columns : Bool → ℕ
columns half = if half then 1 else 2

-- a sample of a row of macroblocks that begins with the macroblock a
row-shift : (half : Bool) (a x : ℕ) → a * (8 * columns half) ≤ x
    → row_place half (x - a * (8 * columns half)) ≡ (x / (8 * columns half) - a) * (128 * columns half) + 64 * (x / 8 % columns half) + x % 8
unfolding row_place
row-shift true a x h = omega arith
row-shift false a x h = omega arith

-- a sample's place by the tile's first macroblock, a and b, and its width w
row-places : (c a b w m column x y : ℕ) → a ≤ column
    → 64 * (((m - b) * w + (column - a)) * (2 * c) + (y / 8 % 2 * c + x / 8 % c)) + (8 * (y % 8) + x % 8)
    ≡ (m - b) * w * (16 * (8 * c)) + (y / 8 % 2 * (8 * (8 * c)) + y % 8 * 8) + ((column - a) * (128 * c) + 64 * (x / 8 % c) + x % 8)
row-places c a b w m column x y h = omega arith

-- a tile by its column i and its row j of tiles
pub strip-is : (grid : Grid) (comp y i j width start row : ℕ) → i < tile_columns grid → j ≡ y / 16 / grid.tile_height
    → width ≡ 8 * block_columns grid.format.chroma comp → start ≡ part_start grid (j * tile_columns grid + i) comp
    → row ≡ (y / 16 - j * grid.tile_height) * min grid.tile_width (macroblock_columns grid.format - i * grid.tile_width) * (16 * width) + (y / 8 % 2 * (8 * width) + y % 8 * 8)
    → IsStrip grid comp y (i * grid.tile_width * width) ((i * grid.tile_width + min grid.tile_width (macroblock_columns grid.format - i * grid.tile_width)) * width) (start + row)
strip-is grid comp y i j width start row known ej ew es er = record {
  places = λ x from to.
      let c : ℕ = block_columns grid.format.chroma comp in
      let pos : 0 < c = block_columns-pos grid.format.chroma comp in
      let a : ℕ = i * grid.tile_width in
      let w : ℕ = min grid.tile_width (macroblock_columns grid.format - a) in
      let tile : ℕ = j * tile_columns grid + i in
      let column : ℕ = column_of grid comp x in
      let from' : a * (8 * c) ≤ x = rw (← ew) from in
      let to' : x < (a + w) * (8 * c) = rw (← ew) to in
      let low : a ≤ column = le-div a x (8 * c) (omega arith) from' in
      let high : column < a + w = div_below x (8 * c) (a + w) (omega arith) to' in
      let split : column ≡ i * grid.tile_width + (column - a) = omega arith in
      let across : column / grid.tile_width ≡ i = rw split (div-mul-add i grid.tile_width (column - a) (omega arith)) in
      let here : tile_of grid column (row_of y) ≡ tile = rw (across, ej) refl in
      let tx : tile % tile_columns grid ≡ i = mod-mul-add j (tile_columns grid) i known in
      let ty : tile / tile_columns grid ≡ j = div-mul-add j (tile_columns grid) i known in
      let macroblock : ℕ = (row_of y - j * grid.tile_height) * w + (column - a) in
      let hm : (row_of y - tile_y grid tile) * tile_w grid tile + (column - tile_x grid tile) ≡ macroblock = rw (tx, ty) refl in
      let is = at-is grid comp x y column (row_of y) tile macroblock (block_of grid.format.chroma comp x y)
      (macroblock * macroblock_blocks grid.format.chroma comp + block_of grid.format.chroma comp x y) (8 * (y % 8) + x % 8) refl refl here hm refl refl refl in
      let shift : row_place (is_half grid.format.chroma comp) (x - a * (8 * c)) ≡ (column - a) * (128 * c) + 64 * (x / 8 % c) + x % 8 =
      row-shift (is_half grid.format.chroma comp) a x from' in
      ap (place_in grid comp) is ∙ rw (es, er, ew, shift) (omega (arith, row-places c a (j * grid.tile_height) w (y / 16) column x y low));
}

-- ---- the tile of a sample

-- the samples of a macroblock's row, and the column of macroblocks of a sample
pub width-half : (half is : Bool) (width : ℕ) → half ≡ is → half ≡ true → width ≡ 8 → width ≡ 8 * columns is
width-half half is width e h w = let t : is ≡ true = sym e ∙ h in rw (t, w) refl

pub width-whole : (half is : Bool) (width : ℕ) → half ≡ is → half ≡ false → width ≡ 16 → width ≡ 8 * columns is
width-whole half is width e h w = let t : is ≡ false = sym e ∙ h in rw (t, w) refl

pub column-half : (half is : Bool) (column x : ℕ) → half ≡ is → half ≡ true → column ≡ x / 8 → column ≡ x / (8 * columns is)
column-half half is column x e h w = let t : is ≡ true = sym e ∙ h in rw (t, w) refl

pub column-whole : (half is : Bool) (column x : ℕ) → half ≡ is → half ≡ false → column ≡ x / 16 → column ≡ x / (8 * columns is)
column-whole half is column x e h w = let t : is ≡ false = sym e ∙ h in rw (t, w) refl

-- a filled sample has a tile
pub column-known : (grid : Grid) (comp x y : ℕ) → IsSoundGrid grid → IsFilled grid comp x y → x / (8 * block_columns grid.format.chroma comp) / grid.tile_width < tile_columns grid
column-known grid comp x y sound filled =
    let pos : 0 < block_columns grid.format.chroma comp = block_columns-pos grid.format.chroma comp in
    let less : x < macroblock_columns grid.format * (8 * block_columns grid.format.chroma comp) = omega (arith, filled.column) in
    below-part (macroblock_columns grid.format) grid.tile_width (x / (8 * block_columns grid.format.chroma comp)) (tile-size grid sound).0
    (div_below x (8 * block_columns grid.format.chroma comp) (macroblock_columns grid.format) (omega arith) less)

pub row-known : (grid : Grid) (comp x y : ℕ) → IsSoundGrid grid → IsFilled grid comp x y → y / 16 / grid.tile_height < tile_rows grid
row-known grid comp x y sound filled =
    below-part (macroblock_rows grid.format) grid.tile_height (y / 16) (tile-size grid sound).1 (omega (arith, filled.line))

-- the first value of a component of a tile, by its column i and its row j of tiles
pub part-start-is : (grid : Grid) (comp i j : ℕ) → IsSoundGrid grid → i < tile_columns grid → j < tile_rows grid
    → part_start grid (j * tile_columns grid + i) comp
    ≡ (j * grid.tile_height * macroblock_columns grid.format + i * grid.tile_width * min grid.tile_height (macroblock_rows grid.format - j * grid.tile_height)) * macroblock-values grid
    + min grid.tile_width (macroblock_columns grid.format - i * grid.tile_width) * min grid.tile_height (macroblock_rows grid.format - j * grid.tile_height) * macroblock_before grid.format.chroma comp
part-start-is grid comp i j sound hi hj =
    let size = tile-size grid sound in
    let tile : ℕ = j * tile_columns grid + i in
    let known : tile < tile_count grid = omega (arith, mul-add-lt j (tile_columns grid) i (tile_rows grid) hj hi) in
    let tx : tile % tile_columns grid ≡ i = mod-mul-add j (tile_columns grid) i hi in
    let ty : tile / tile_columns grid ≡ j = div-mul-add j (tile_columns grid) i hi in
    let low : j * grid.tile_height < macroblock_rows grid.format = part-begins (macroblock_rows grid.format) grid.tile_height j size.1 hj in
    let top : min (j * grid.tile_height) (macroblock_rows grid.format) ≡ j * grid.tile_height = omega arith in
    rw (tile-start-is grid tile sound (omega arith), values-before-is grid tile comp, tx, ty, top) refl

-- all tiles
pub run-all : (grid : Grid) (count size : ℕ) → IsSoundGrid grid → count ≡ tile_count grid → size ≡ value_count grid → IsTileRun grid 0 count size
unfolding tile_start
run-all grid count size sound all same = record {
  sound = sound;
  range = omega arith;
  values = let e : 0 + count ≡ tile_count grid = omega arith in rw (e, same) (omega arith);
}
