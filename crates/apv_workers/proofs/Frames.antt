-- The tiles of a whole frame.
use Rattle.std.proofs.Common.{◌≡◌, ℕ, ℤ, zero, suc, ◌+◌, ◌-◌, ◌*◌, ◌/◌, ◌%◌, ◌<◌, ◌≤◌, ◌++◌, List, [], ◌∷◌, length, get_or, take, drop, refl, sym, ap, ap₂, ◌∙◌, subst, arith, inl, inr, length-drop}
use Rattle.std.specs.List.{AllByRecursion, refill}
use Rattle.std.proofs.lemmas.Bool.{cases_lt}
use Rattle.std.proofs.lemmas.List.{get_or-take, get_or-drop, length-take, drop_all, append-nil}
use Rattle.std.proofs.Math.Seq.{take-length}
use Rattle.apv_base.specs.model.CodedFrame.{CodedFrame, Levels, HasBlocks, HasLevels}
use Rattle.apv_base.specs.model.Grid.{Grid, coded_place, tile_count, block_count}
use Rattle.apv_base.specs.model.Header.{header_comps, grid_of}
use Rattle.apv_base.specs.model.Judge.{ContentBreaks}
use Rattle.apv_base.specs.model.Picture.{sample}
use Rattle.apv_grid.specs.Buffer.{Buffer, IsFilled, IsTileRun, tile_start, tile_value_count, values_before, part_start, samples_in}
use Rattle.apv_grid.specs.Laws.{HasItsBlock}
use Rattle.apv_header.specs.declared.head.HeaderRead.{HeaderRead}
use Rattle.apv_header.specs.declared.tiles.TileTable.{TileTable}
use Rattle.apv_workers.specs.Cuts.{cut, part, IsRun}
use Rattle.apv_workers.specs.Work.{AllReady, AllDone, IsFirstBreak}
use Rattle.apv_workers.specs.Decode.{IsDecoded, break_of, IsSoundTile, TileBreaks, HasSamples, IsDecodedTile, component_values, WereRead}
use Rattle.apv_workers.specs.declared.run.ContentBreak.{ContentBreak}
use Rattle.apv_workers.proofs.Parts.{before-rising}

-- ---- lists of which each item is so

-- a list of n items, each of which is so for its index
record Collected {A : Type 0} (P : ℕ → A → Type 0) (d : A) (n : ℕ) : Type 0 where
  items : List A
  len : length items ≡ n
  each : (i : ℕ) → i < n → P i (get_or items i d)

at-each : {A : Type 0} (P : ℕ → A → Type 0) (d : A) (n : ℕ) (x : A) (xs : List A) → P 0 x → ((i : ℕ) → i < n → P (suc i) (get_or xs i d)) → (i : ℕ) → i < suc n → P i (get_or (x ∷ xs) i d)
at-each P d n x xs here later zero lt = here
at-each P d n x xs here later (suc i) lt = later i (omega arith)

-- where there is an item for each index, there is a list of them
collected : {A : Type 0} (P : ℕ → A → Type 0) (d : A) (n : ℕ) → ((i : ℕ) → i < n → (x : A) × P i x) → Collected P d n
collected P d zero each = record { items = []; len = refl; each = λ i lt. absurd (omega arith) }
collected {A} P d (suc n) each =
    let first = each 0 (omega arith) in
    let more = collected (λ (i : ℕ) (x : A). P (suc i) x) d n (λ i lt. each (suc i) (omega arith)) in
    record { items = first.0 ∷ more.items; len = ap suc more.len; each = at-each P d n first.0 more.items first.1 more.each }

pub all-from : {A : Type 0} (P : A → Type 0) (d : A) (xs : List A) → ((i : ℕ) → i < length xs → P (get_or xs i d)) → AllByRecursion P xs
all-from P d [] each = tt
all-from P d (x ∷ xs) each = (each 0 (omega arith), all-from P d xs (λ i lt. each (suc i) (omega arith)))

pub refill_whole : {A : Type 0} (xs ws : List A) → length ws ≡ length xs → refill (length xs) xs ws ≡ ws
refill_whole xs ws e =
    let none = drop_all (length ws) xs (omega arith) in
    ap (λ t. take (length xs) (ws ++ t)) none ∙ ap (λ t. take (length xs) t) (append-nil ws) ∙ ap (λ k. take k ws) (sym e) ∙ take-length ws

-- ---- where tiles begin

pub start-zero : (grid : Grid) → tile_start grid 0 ≡ 0
unfolding tile_start
start-zero grid = refl

start-next : (grid : Grid) (tile : ℕ) → tile_start grid (suc tile) ≡ tile_start grid tile + tile_value_count grid tile
unfolding tile_start
start-next grid tile = refl

pub start-suc : (grid : Grid) (tile : ℕ) → tile_start grid (tile + 1) ≡ tile_start grid tile + tile_value_count grid tile
start-suc grid tile = let e : tile + 1 ≡ suc tile = omega arith in ap (tile_start grid) e ∙ start-next grid tile

pub start-rising : (grid : Grid) (i j : ℕ) → i ≤ j → tile_start grid i ≤ tile_start grid j
unfolding tile_start
start-rising grid i zero le = let e : i ≡ 0 = omega arith in subst (λ (k : ℕ). tile_start grid k ≤ 0) (sym e) (omega arith)
start-rising grid i (suc j) le = elim (cases_lt j i) [
  | inl h ↦ (let e : suc j ≡ i = omega arith in subst (λ (k : ℕ). tile_start grid k ≤ tile_start grid j + tile_value_count grid j) e (omega arith))
  | inr h ↦ (let more = start-rising grid i j h in omega arith)
]

-- cuts are where the tiles of a grid begin
pub record AreStarts (grid : Grid) (cuts : List ℕ) : Type 0 where
  pub len : length cuts ≡ 401
  pub few : tile_count grid ≤ 400
  pub each : (tile : ℕ) → tile ≤ tile_count grid → cut cuts tile ≡ tile_start grid tile

-- the values of all tiles
pub record AllTiles {A : Type 0} (grid : Grid) (first count : ℕ) (values : List A) : Type 0 where
  pub first_is : first ≡ 0
  pub count_is : count ≡ tile_count grid
  pub run : IsTileRun grid first count (length values)

pub is-run : {A : Type 0} (grid : Grid) (cuts : List ℕ) (first count : ℕ) (values : List A) → AreStarts grid cuts → AllTiles grid first count values → IsRun cuts first count values
is-run grid cuts first count values s a =
    let v = a.run.values in
    let f = s.each first (omega (arith, a.first_is)) in
    let e = s.each (first + count) (omega (arith, a.first_is, a.count_is)) in
    record {
      sound = record {
        there = omega (arith, a.first_is, a.count_is, s.len, s.few);
        small = omega (arith, a.first_is, a.count_is, s.few);
        rising = λ i j ij jl.
            let x = s.each i (omega (arith, a.first_is, a.count_is)) in
            let y = s.each j (omega (arith, a.first_is, a.count_is)) in
            let r = start-rising grid i j ij in
            omega arith;
      };
      whole = omega arith;
    }

-- the length of a tile's values
pub part-long : {A : Type 0} (grid : Grid) (cuts : List ℕ) (first count : ℕ) (values : List A) (tile : ℕ) → AreStarts grid cuts → AllTiles grid first count values → tile < tile_count grid → length (part cuts first values tile) ≡ tile_value_count grid tile
unfolding part
part-long grid cuts first count values tile s a lt =
    let v = a.run.values in
    let z = s.each first (omega (arith, a.first_is)) in
    let f = s.each tile (omega arith) in
    let t = s.each (tile + 1) (omega arith) in
    let n = start-suc grid tile in
    let r = start-rising grid (tile + 1) (first + count) (omega (arith, a.first_is, a.count_is)) in
    let o = start-rising grid first tile (omega (arith, a.first_is)) in
    omega (arith, length-take (cut cuts (tile + 1) - cut cuts tile) (drop (cut cuts tile - cut cuts first) values), length-drop (cut cuts tile - cut cuts first) values)

-- a value of a tile is one of all
pub part-item : (grid : Grid) (cuts : List ℕ) (first count : ℕ) (values : List ℕ) (tile i : ℕ) → AreStarts grid cuts → AllTiles grid first count values → tile < tile_count grid → i < tile_value_count grid tile
    → get_or (part cuts first values tile) i 0 ≡ get_or values (tile_start grid tile + i) 0
unfolding part
part-item grid cuts first count values tile i s a lt less =
    let z : cut cuts first ≡ 0 = s.each first (omega (arith, a.first_is)) ∙ ap (tile_start grid) a.first_is ∙ start-zero grid in
    let f = s.each tile (omega arith) in
    let t = s.each (tile + 1) (omega arith) in
    let n = start-suc grid tile in
    let place : cut cuts tile - cut cuts first + i ≡ tile_start grid tile + i = omega arith in
    get_or-take (cut cuts (tile + 1) - cut cuts tile) (drop (cut cuts tile - cut cuts first) values) i 0 (omega arith) ∙ get_or-drop (cut cuts tile - cut cuts first) values i 0 ∙ ap (λ (k : ℕ). get_or values k 0) place

-- ---- the frame

-- the blocks of the components of a tile, and its samples are theirs
record TileLevels (coded : CodedFrame) (tile : ℕ) (values : List ℕ) (blocks : List (List (List ℤ))) : Type 0 where
  comps : length blocks ≡ header_comps coded.header
  each : (comp : ℕ) → comp < header_comps coded.header → HasSamples coded tile comp (component_values (grid_of coded.header) tile comp values) (get_or blocks comp [])

tile-levels : (coded : CodedFrame) (tile : ℕ) (values : List ℕ) → IsDecodedTile coded tile values → (blocks : List (List (List ℤ))) × TileLevels coded tile values blocks
tile-levels coded tile values d =
    let c = collected (λ (comp : ℕ) (blocks : List (List ℤ)). HasSamples coded tile comp (component_values (grid_of coded.header) tile comp values) blocks) [] (header_comps coded.header) d in
    (c.items, record { comps = c.len; each = c.each })

module _ (coded : CodedFrame) (cuts : List ℕ) (first count : ℕ) (values : List ℕ) (s : AreStarts (grid_of coded.header) cuts) (a : AllTiles (grid_of coded.header) first count values) where
  abbrev grid : Grid
  grid = grid_of coded.header

  abbrev AreLevels : Levels → Type 0
  AreLevels levels = (length levels ≡ tile_count grid) × ((tile : ℕ) → tile < tile_count grid → TileLevels coded tile (part cuts first values tile) (get_or levels tile []))

  levels-of : ((tile : ℕ) → tile < tile_count grid → IsDecodedTile coded tile (part cuts first values tile)) → (levels : Levels) × AreLevels levels
  levels-of d =
      let c = collected (λ (tile : ℕ) (blocks : List (List (List ℤ))). TileLevels coded tile (part cuts first values tile) blocks) [] (tile_count grid) (λ tile lt. tile-levels coded tile (part cuts first values tile) (d tile lt)) in
      (c.items, (c.len, c.each))

  has-levels : (levels : Levels) → AreLevels levels → HasLevels coded levels
  has-levels levels l = record {
    tiles = l.0;
    comps = all-from (λ (tile : List (List (List ℤ))). length tile ≡ header_comps coded.header) [] levels (λ i lt. (l.1 i (omega (arith, lt, l.0))).comps);
    blocks = λ tile comp exists. ((l.1 tile exists.0).each comp exists.1).is;
  }

  has-samples : (levels : Levels) → AreLevels levels → HasItsBlock grid → (comp x y : ℕ) → IsFilled grid comp x y → samples_in grid values comp x y ≡ sample coded levels comp x y
  unfolding sample
  has-samples levels l law comp x y filled =
      let p = coded_place grid comp x y in
      let lies = law comp x y filled.known filled.column filled.line in
      let rising = before-rising grid p.tile comp (header_comps coded.header) filled.known in
      let here = ((l.1 p.tile lies.tile).each comp filled.known).each p.block (p.place / 8) (p.place % 8) lies.block (omega (arith, lies.place)) (omega arith) in
      let values_of_tile : List ℕ = part cuts first values p.tile in
      let inside : 64 * p.block + p.place < 64 * block_count grid p.tile comp = omega (arith, lies.block, lies.place) in
      let place : 8 * (p.place / 8) + p.place % 8 ≡ p.place = omega arith in
      let in_tile : get_or (component_values grid p.tile comp values_of_tile) (64 * p.block + p.place) 0 ≡ get_or values_of_tile (values_before grid p.tile comp + (64 * p.block + p.place)) 0 =
      get_or-take (64 * block_count grid p.tile comp) (drop (values_before grid p.tile comp) values_of_tile) (64 * p.block + p.place) 0 inside ∙ get_or-drop (values_before grid p.tile comp) values_of_tile (64 * p.block + p.place) 0 in
      let in_frame = part-item grid cuts first count values p.tile (values_before grid p.tile comp + (64 * p.block + p.place)) s a lies.tile (omega arith) in
      let at : tile_start grid p.tile + (values_before grid p.tile comp + (64 * p.block + p.place)) ≡ part_start grid p.tile comp + (64 * p.block + p.place) = omega arith in
      sym (ap (λ (k : ℕ). get_or values k 0) at) ∙ sym in_frame ∙ sym in_tile ∙ sym (ap (λ (k : ℕ). get_or (component_values grid p.tile comp values_of_tile) (64 * p.block + k) 0) place) ∙ here

  -- each tile has a part of its length
  pub all-ready : (ready : ℕ → List ℕ → Type 0) → ((tile : ℕ) (values : List ℕ) → tile < tile_count grid → length values ≡ tile_value_count grid tile → ready tile values) → AllReady ready cuts first count values
  all-ready ready is = record { each = λ tile from below. is tile (part cuts first values tile) (omega (arith, below, a.first_is, a.count_is)) (part-long grid cuts first count values tile s a (omega (arith, below, a.first_is, a.count_is))) }

  -- all tiles decoded: the frame is
  pub all-decoded : (old : List ℕ) (buffer : Buffer ℕ) → HasItsBlock grid → buffer.grid ≡ grid → buffer.values ≡ values → AllDone (IsSoundTile coded) (λ tile before after. IsDecodedTile coded tile after) cuts first count old values → IsDecoded coded buffer
  all-decoded old buffer law eg ev d =
      let l = levels-of (λ tile lt. d.each tile (omega (arith, a.first_is)) (omega (arith, lt, a.first_is, a.count_is))) in
      record {
        levels = l.0;
        is = has-levels l.0 l.1;
        samples = λ comp x y filled.
            let P : Grid → Type 0 = λ g. IsFilled g comp x y in
            ap₂ (λ (g : Grid) (v : List ℕ). samples_in g v comp x y) eg ev ∙ has-samples l.0 l.1 law comp x y (subst P eg filled);
      }

  -- the first tile that breaks a rule is the frame's first break
  pub first-break : (broken : ContentBreak) → IsFirstBreak (IsSoundTile coded) (TileBreaks coded) first count broken → ContentBreaks coded (break_of broken)
  first-break broken b = record {
    exists = (omega (arith, b.below, a.first_is, a.count_is), b.breaks.exists);
    before = λ tile comp exists earlier. elim earlier [
      | inl h ↦ b.sound tile (omega (arith, a.first_is)) h comp exists.1
      | inr h ↦ subst (λ (t : ℕ). (blocks : List (List ℤ)) × HasBlocks coded t comp blocks) (sym h.0) (b.breaks.before comp h.1)
    ];
    breaks = b.breaks.breaks;
  }

-- ---- in a frame that was read

-- where the tiles of a read frame begin
pub starts-of : (body : List ℕ) (head : HeaderRead) (table : TileTable) (cuts : List ℕ) → WereRead body head table → length cuts ≡ 401 → tile_count head.grid ≤ 400 → ((tile : ℕ) → tile ≤ tile_count head.grid → cut cuts tile ≡ tile_start head.grid tile)
    → AreStarts (grid_of head.header) cuts
starts-of body head table cuts read len few each = subst (λ (g : Grid). AreStarts g cuts) read.header.grid (record { len = len; few = few; each = each })

-- the values of all its tiles
pub tiles-of-all : (body : List ℕ) (head : HeaderRead) (table : TileTable) (grid other : Grid) (first count : ℕ) (values : List ℕ) → WereRead body head table → grid ≡ other → other ≡ head.grid → first ≡ 0 → count ≡ tile_count other → IsTileRun grid first count (length values)
    → AllTiles (grid_of head.header) first count values
tiles-of-all body head table grid other first count values read e f first_is count_is run =
    let same : other ≡ grid_of head.header = f ∙ read.header.grid in
    record { first_is = first_is; count_is = count_is ∙ ap tile_count same; run = subst (λ (g : Grid). IsTileRun g first count (length values)) (e ∙ same) run }

-- with as many values in another buffer
pub same-many : (grid : Grid) (first count : ℕ) (old new : List ℕ) → length new ≡ length old → AllTiles grid first count old → AllTiles grid first count new
same-many grid first count old new e a = record { first_is = a.first_is; count_is = a.count_is; run = subst (IsTileRun grid first count) (sym e) a.run }
