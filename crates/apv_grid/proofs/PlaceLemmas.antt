-- Samples have places of their own.
use Rattle.std.proofs.Common.{◌≡◌, ℕ, ◌+◌, ◌*◌, ◌/◌, ◌%◌, ◌<◌, ◌≤◌, sym, ◌∙◌, ap, arith, ⊎_elim}
use Rattle.std.proofs.lemmas.Bool.{cases_lt}
use Rattle.apv_base.specs.model.Encode.{block_x, block_y}
use Rattle.apv_base.specs.model.Format.{comps_of}
use Rattle.apv_base.specs.model.Grid.{Grid, IsSoundGrid, CodedPlace, coded_place, block_count}
use Rattle.apv_grid.specs.Buffer.{values_before, tile_value_count, part_start, value_count, sample_place, IsFilled}
use Rattle.apv_grid.specs.Laws.{LiesIn}
use Rattle.apv_grid.proofs.LawLemmas.{sample-in-block}
use Rattle.apv_grid.proofs.LayoutLemmas.{tile-before, comp-before, part-within}

-- a value of a part is after those of the tiles before it and before those of the tiles after it
comp-in-tile : (grid : Grid) (tile comp : ℕ) → comp < comps_of grid.format.chroma → values_before grid tile comp + 64 * block_count grid tile comp ≤ tile_value_count grid tile
comp-in-tile grid tile comp known = comp-before grid tile comp (comps_of grid.format.chroma) known

-- an equation of places in parts that are in different tiles or components can't be
tiles-apart : (grid : Grid) (t u c d i j : ℕ) → t < u → c < comps_of grid.format.chroma → i < 64 * block_count grid t c → part_start grid t c + i ≡ part_start grid u d + j → ⊥
tiles-apart grid t u c d i j less known hi e = absurd (omega (arith, comp-in-tile grid t c known, tile-before grid t u less))

comps-apart : (grid : Grid) (t c d i j : ℕ) → c < d → i < 64 * block_count grid t c → part_start grid t c + i ≡ part_start grid t d + j → ⊥
comps-apart grid t c d i j less hi e = absurd (omega (arith, comp-before grid t c d less))

record SamePlace (t u c d i j : ℕ) : Type 0 where
  tile : t ≡ u
  comp : c ≡ d
  inner : i ≡ j

same-comp : (grid : Grid) (t c d i j : ℕ) → i < 64 * block_count grid t c → j < 64 * block_count grid t d → part_start grid t c + i ≡ part_start grid t d + j → c ≡ d
same-comp grid t c d i j hi hj e =
    ⊎_elim (λ (less : c < d). absurd (comps-apart grid t c d i j less hi e))
    (λ (more : d ≤ c). ⊎_elim (λ (less : d < c). absurd (comps-apart grid t d c j i less hj (sym e))) (λ (same : c ≤ d). omega arith) (cases_lt d c)) (cases_lt c d)

same-tile : (grid : Grid) (t u c d i j : ℕ) → c < comps_of grid.format.chroma → d < comps_of grid.format.chroma → i < 64 * block_count grid t c → j < 64 * block_count grid u d
    → part_start grid t c + i ≡ part_start grid u d + j → t ≡ u
same-tile grid t u c d i j kc kd hi hj e =
    ⊎_elim (λ (less : t < u). absurd (tiles-apart grid t u c d i j less kc hi e))
    (λ (more : u ≤ t). ⊎_elim (λ (less : u < t). absurd (tiles-apart grid u t d c j i less kd hj (sym e))) (λ (same : t ≤ u). omega arith) (cases_lt u t)) (cases_lt t u)

same-place : (grid : Grid) (t u c d i j : ℕ) → c < comps_of grid.format.chroma → d < comps_of grid.format.chroma → i < 64 * block_count grid t c → j < 64 * block_count grid u d
    → part_start grid t c + i ≡ part_start grid u d + j → SamePlace t u c d i j
same-place grid t u c d i j kc kd hi hj e =
    let tile : t ≡ u = same-tile grid t u c d i j kc kd hi hj e in
    let hj' : j < 64 * block_count grid t d = rw tile hj in
    let e' : part_start grid t c + i ≡ part_start grid t d + j = e ∙ ap (λ (k : ℕ). part_start grid k d + j) (sym tile) in
    let comp : c ≡ d = same-comp grid t c d i j hi hj' e' in
    let e'' : part_start grid t d + i ≡ part_start grid t d + j = ap (λ (k : ℕ). part_start grid t k + i) (sym comp) ∙ e' in
    record { tile = tile; comp = comp; inner = omega arith }

-- ---- samples

pub sample-within : (grid : Grid) (comp x y : ℕ) → IsSoundGrid grid → IsFilled grid comp x y → sample_place grid comp x y < value_count grid
sample-within grid comp x y sound filled =
    let p : CodedPlace = coded_place grid comp x y in
    let k : LiesIn grid comp x y p = sample-in-block grid sound comp x y filled.known filled.column filled.line in
    omega (arith, part-within grid p.tile comp k.tile filled.known, k.block, k.place)

at-same : (f : ℕ → ℕ → ℕ → ℕ → ℕ) (t u c d i j k l : ℕ) → t ≡ u → c ≡ d → i ≡ j → k ≡ l → f t c i k ≡ f u d j l
at-same f t u c d i j k l et ec ei ek = cc

pub record SameSample (c x y d u v : ℕ) : Type 0 where
  pub comp : c ≡ d
  pub column : x ≡ u
  pub line : y ≡ v

-- samples that have the same place are one
pub sample-apart : (grid : Grid) (c x y d u v : ℕ) → IsSoundGrid grid → IsFilled grid c x y → IsFilled grid d u v → sample_place grid c x y ≡ sample_place grid d u v
    → SameSample c x y d u v
sample-apart grid c x y d u v sound first second e =
    let p : CodedPlace = coded_place grid c x y in
    let q : CodedPlace = coded_place grid d u v in
    let k : LiesIn grid c x y p = sample-in-block grid sound c x y first.known first.column first.line in
    let l : LiesIn grid d u v q = sample-in-block grid sound d u v second.known second.column second.line in
    let same = same-place grid p.tile q.tile c d (64 * p.block + p.place) (64 * q.block + q.place) first.known second.known (omega (arith, k.block, k.place)) (omega (arith, l.block, l.place)) e in
    let block : p.block ≡ q.block = omega (arith, same.inner, k.place, l.place) in
    let place : p.place ≡ q.place = omega (arith, same.inner, block) in
    record {
      comp = same.comp;
      column = sym k.column ∙ at-same (λ t c b l. block_x grid t c b + l % 8) p.tile q.tile c d p.block q.block p.place q.place same.tile same.comp block place ∙ l.column;
      line = sym k.row ∙ at-same (λ t c b l. block_y grid t c b + l / 8) p.tile q.tile c d p.block q.block p.place q.place same.tile same.comp block place ∙ l.row;
    }
