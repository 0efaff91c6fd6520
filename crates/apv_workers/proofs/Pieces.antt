-- The values of the components of tiles, out of those of a tile and of all tiles.
use Rattle.std.proofs.Common.{◌≡◌, ℕ, ◌+◌, ◌-◌, ◌*◌, ◌<◌, ◌≤◌, ◌++◌, List, length, take, drop, refl, sym, ap, ◌∙◌, subst, arith, inl, inr, OnOk, IfErr, Result, Ok, Err}
use Rattle.std.proofs.lemmas.Bool.{cases_lt}
use Rattle.std.proofs.lemmas.List.{length-drop, length-take-le, drop-drop, take-append-drop, take_at, drop_at}
use Rattle.apv_base.specs.model.Format.{comps_of}
use Rattle.apv_base.specs.model.Grid.{Grid, IsSoundGrid, tile_count, block_count}
use Rattle.apv_grid.specs.Buffer.{IsTileRun, values_before, tile_value_count, tile_start, value_count, part_start, part_in}
use Rattle.apv_workers.specs.Components.{of_component, AreAllReady, IsTileReady, AreDoneBelow, IsTileDone, AreAllDone}
use Rattle.apv_workers.specs.Cuts.{part, cut}
use Rattle.apv_workers.specs.Work.{AllReady, AllDone}
use Rattle.apv_workers.proofs.Halves.{take_prefix}
use Rattle.apv_workers.proofs.Parts.{before-rising}
use Rattle.apv_workers.proofs.Frames.{AreStarts, AllTiles, part-long, start-zero, start-suc, start-rising}

-- ---- a component of a tile

-- it has its place among the values of the tile
pub room-of : (grid : Grid) (tile comp : ℕ) → comp < comps_of grid.format.chroma → values_before grid tile comp + 64 * block_count grid tile comp ≤ tile_value_count grid tile
room-of grid tile comp lt = before-rising grid tile comp (comps_of grid.format.chroma) lt

-- the values of a component after those before it
pub component-here : {A : Type 0} (grid : Grid) (tile comp : ℕ) (before values rest : List A) → length before ≡ values_before grid tile comp → length values ≡ 64 * block_count grid tile comp → of_component grid tile comp (before ++ (values ++ rest)) ≡ values
component-here grid tile comp before values rest eb ev =
    ap (take (64 * block_count grid tile comp)) (drop_at before (values ++ rest) (values_before grid tile comp) eb) ∙ take_at values rest (64 * block_count grid tile comp) ev

-- the values of a component before it stay
pub component-before : {A : Type 0} (grid : Grid) (tile other comp : ℕ) (before x y : List A) → other < comp → length before ≡ values_before grid tile comp → of_component grid tile other (before ++ x) ≡ of_component grid tile other (before ++ y)
component-before grid tile other comp before x y lt e =
    let le = before-rising grid tile other comp lt in
    let k : ℕ = 64 * block_count grid tile other in
    let d : ℕ = values_before grid tile other in
    take_prefix k d (values_before grid tile comp) before x e (omega arith) ∙ sym (take_prefix k d (values_before grid tile comp) before y e (omega arith))

-- one more component is done
pub done-more : {A : Type 0} (Done : ℕ → ℕ → List A → Type 0) (grid : Grid) (tile n : ℕ) (old new : List A) → AreDoneBelow Done grid tile n old
    → ((other : ℕ) → other < n → of_component grid tile other new ≡ of_component grid tile other old) → Done tile n (of_component grid tile n new) → AreDoneBelow Done grid tile (n + 1) new
done-more Done grid tile n old new before stay here comp lt = elim (cases_lt comp n) [
  | inl h ↦ subst (Done tile comp) (sym (stay comp h)) (before comp h)
  | inr h ↦ (let e : n ≡ comp = omega arith in subst (λ (c : ℕ). Done tile c (of_component grid tile c new)) e here)
]

-- ---- all tiles

-- the values of all tiles of a grid
pub all-tiles : {A : Type 0} (grid : Grid) (count : ℕ) (values : List A) → IsSoundGrid grid → count ≡ tile_count grid → length values ≡ value_count grid → AllTiles grid 0 count values
unfolding tile_start
all-tiles grid count values sound ec el =
    let e : 0 + count ≡ tile_count grid = omega (arith, ec) in
    let end : tile_start grid (0 + count) ≡ value_count grid = ap (tile_start grid) e in
    record {
      first_is = refl;
      count_is = ec;
      run = record { sound = sound; range = omega (arith, e); values = omega (arith, el, end) };
    }

-- a component, out of its tile
pub component-part : {A : Type 0} (grid : Grid) (cuts : List ℕ) (count : ℕ) (values : List A) (tile comp : ℕ) → AreStarts grid cuts → AllTiles grid 0 count values → tile < tile_count grid → comp < comps_of grid.format.chroma
    → of_component grid tile comp (part cuts 0 values tile) ≡ part_in grid values tile comp
unfolding part
component-part {A} grid cuts count values tile comp s a lt less =
    let k : ℕ = 64 * block_count grid tile comp in
    let d : ℕ = values_before grid tile comp in
    let m : ℕ = cut cuts tile - cut cuts 0 in
    let n : ℕ = cut cuts (tile + 1) - cut cuts tile in
    let z : cut cuts 0 ≡ 0 = s.each 0 (omega arith) ∙ start-zero grid in
    let at : m + d ≡ part_start grid tile comp = omega (arith, z, s.each tile (omega arith)) in
    let xs : List A = drop m values in
    sym (take_prefix k d (tile_value_count grid tile) (take n xs) (drop n xs) (part-long grid cuts 0 count values tile s a lt) (room-of grid tile comp less))
    ∙ ap (λ (l : List A). take k (drop d l)) (take-append-drop n xs)
    ∙ ap (take k) (drop-drop d m values)
    ∙ ap (λ (i : ℕ). take k (drop i values)) at

-- it has 64 values for each block
pub part-in-long : {A : Type 0} (grid : Grid) (tile comp : ℕ) (values : List A) → length values ≡ value_count grid → tile < tile_count grid → comp < comps_of grid.format.chroma → length (part_in grid values tile comp) ≡ 64 * block_count grid tile comp
part-in-long grid tile comp values el lt less =
    let room = room-of grid tile comp less in
    let next = start-suc grid tile in
    let rise = start-rising grid (tile + 1) (tile_count grid) (omega arith) in
    length-take-le (64 * block_count grid tile comp) (drop (part_start grid tile comp) values) (omega (arith, room, next, rise, el, length-drop (part_start grid tile comp) values))

-- a run of all tiles has all values
pub run-whole : (grid : Grid) (first count size : ℕ) → first ≡ 0 → count ≡ tile_count grid → IsTileRun grid first count size → size ≡ value_count grid
run-whole grid first count size ef ec run =
    let from : tile_start grid first ≡ 0 = ap (tile_start grid) ef ∙ start-zero grid in
    let end : tile_start grid (first + count) ≡ value_count grid = ap (tile_start grid) (omega (arith, ef, ec)) in
    omega (arith, run.values, from, end)

-- each tile of all is ready
pub all-ready : {A : Type 0} (Ready : ℕ → ℕ → List A → Type 0) (grid : Grid) (cuts : List ℕ) (count : ℕ) (values : List A) → AreStarts grid cuts → AllTiles grid 0 count values → AreAllReady Ready grid
    → AllReady (λ tile part. IsTileReady Ready grid tile part) cuts 0 count values
all-ready Ready grid cuts count values s a ready = record {
  each = λ tile from below.
      let lt : tile < tile_count grid = omega (arith, below, a.count_is) in
      record { exists = lt; size = part-long grid cuts 0 count values tile s a lt; ready = ready };
}

-- each tile of all is done
pub all-done : {A : Type 0} (Sound : ℕ → Type 0) (Done : ℕ → ℕ → List A → Type 0) (grid : Grid) (cuts : List ℕ) (count : ℕ) (old new : List A) → AreStarts grid cuts → AllTiles grid 0 count new
    → AllDone Sound (λ tile before after. IsTileDone Done grid tile after) cuts 0 count old new → AreAllDone Done grid new
all-done Sound Done grid cuts count old new s a all tile comp lt less =
    subst (Done tile comp) (component-part grid cuts count new tile comp s a lt less) (all.each tile (omega arith) (omega (arith, lt, a.count_is)) comp less)

-- ---- after a work that can't fail

-- what holds where it ends well
pub on_ok_sure : {T E P : Type 0} (r : Result T E) → IfErr r (λ e. ⊥) → OnOk r P → P
on_ok_sure (Ok x) never p = p
on_ok_sure (Err e) never p = absurd never
