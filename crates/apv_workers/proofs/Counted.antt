-- The lengths of the data of tiles.
use Rattle.std.proofs.Common.{◌≡◌, ℕ, ℤ, suc, ◌+◌, ◌-◌, ◌*◌, ◌<◌, ◌≤◌, List, [], ◌∷◌, length, get_or, map, drop, refl, sym, ap, ◌∙◌, subst, arith, length-append}
use Rattle.std.specs.List.{sum, concat}
use Rattle.std.proofs.lemmas.List.{length-map, length-take-le, length-drop, get_or-take, get_or-drop, get_or-map, ext_get_or}
use Rattle.std.proofs.lemmas.List.FromFn.{map-range_with_len_more}
use Rattle.std.proofs.lemmas.List.Sums.{sum_by-cons}
use Rattle.apv_base.proofs.HeaderLemmas.{comps-few}
use Rattle.apv_header.proofs.NumbersLemmas.{sum-push}
use Rattle.apv_base.specs.declared.header.FrameHeader.{FrameHeader}
use Rattle.apv_base.specs.model.CodedFrame.{Levels, blocks_at, no_tile}
use Rattle.apv_base.specs.model.Component.{component_bytes}
use Rattle.apv_base.specs.model.Encode.{Qps, each, tile_with, frame_with}
use Rattle.apv_base.specs.model.Grid.{tile_count}
use Rattle.apv_base.specs.model.Header.{grid_of, header_comps}
use Rattle.apv_base.specs.model.Tile.{Tile}
use Rattle.apv_grid.specs.Buffer.{Buffer}
use Rattle.apv_workers.specs.Cuts.{cut, part, IsRun}
use Rattle.apv_workers.specs.Lengths.{AreCounted, AreLengths, AreTileLengths, IsTileOfLengths, OfEach, tile_lengths}
use Rattle.apv_workers.specs.Track.{levels_in, data_bytes, data_total, length_place}
use Rattle.apv_workers.specs.Work.{AllReady, AllDone}
use Rattle.apv_workers.specs.declared.track.TrackHead.{TrackHead}
use Rattle.apv_workers.proofs.Coded.{length-each, get_or-each, blocks-at}
use Rattle.apv_workers.proofs.RunParts.{part-size, part-at}

-- ---- counted tile by tile

pub record AreFourths (cuts : List ℕ) (count : ℕ) : Type 0 where
  pub len : length cuts ≡ 401
  pub few : count ≤ 400
  pub each_is : (tile : ℕ) → tile ≤ 400 → cut cuts tile ≡ 4 * tile

pub fourths-run : (cuts : List ℕ) (count : ℕ) (values : List ℕ) → AreFourths cuts count → length values ≡ 4 * count → IsRun cuts 0 count values
fourths-run cuts count values f el = record {
  sound = record {
    there = omega (arith, f.len, f.few);
    small = omega (arith, f.few);
    rising = λ i j ij jl. omega (arith, f.each_is i (omega (arith, f.few)), f.each_is j (omega (arith, f.few)));
  };
  whole = omega (arith, el, f.each_is 0 (omega arith), f.each_is (0 + count) (omega (arith, f.few)));
}

pub fourths-ready : (header : FrameHeader) (Ready : ℕ → ℕ → Type 0) (cuts : List ℕ) (count : ℕ) (values : List ℕ) → OfEach header Ready → count ≡ tile_count (grid_of header) → AreFourths cuts count → length values ≡ 4 * count
    → AllReady (λ tile part. IsTileOfLengths header Ready tile part) cuts 0 count values
fourths-ready header Ready cuts count values ready ec f el = record {
  each = λ tile from below.
      let lt : tile < count = omega arith in
      record {
        exists = omega (arith, ec);
        four = part-size cuts count values tile (fourths-run cuts count values f el) lt ∙ omega (arith, f.few, f.each_is tile (omega (arith, f.few)), f.each_is (tile + 1) (omega (arith, f.few)));
        ready = ready;
      };
}

pub all-counted : (Sound : ℕ → Type 0) (header : FrameHeader) (Counts : ℕ → ℕ → ℕ → Type 0) (cuts : List ℕ) (count : ℕ) (old new : List ℕ) → count ≡ tile_count (grid_of header) → AreFourths cuts count
    → AllDone Sound (λ tile before after. AreTileLengths Counts tile (header_comps header) after) cuts 0 count old new → AreLengths header Counts new
all-counted Sound header Counts cuts count old new ec f d tile comp lt less =
    let few = comps-few header.info.chroma in
    let a = f.each_is tile (omega (arith, lt, ec, f.few)) in
    let b = f.each_is (tile + 1) (omega (arith, lt, ec, f.few)) in
    let z = f.each_is 0 (omega arith) in
    let at : cut cuts tile - cut cuts 0 + comp ≡ length_place tile comp = omega (arith, a, z) in
    let here : get_or (part cuts 0 new tile) comp 0 ≡ get_or new (length_place tile comp) 0 = part-at cuts new tile comp 0 (omega (arith, a, b, few, less)) ∙ ap (λ (k : ℕ). get_or new k 0) at in
    subst (λ (n : ℕ). Counts tile comp n) here (d.each tile (omega arith) (omega (arith, lt, ec)) comp less)

-- ---- sums

pub sum-each-more : (n : ℕ) (item : ℕ → ℕ) → sum (each (n + 1) item) ≡ sum (each n item) + item n
sum-each-more n item = ap sum (map-range_with_len_more item 0 n n (omega arith)) ∙ sum-push (each n item) (item n)

pub length-concat : (xss : List (List ℕ)) → length (concat xss) ≡ sum (map length xss)
length-concat [] = refl
length-concat (xs ∷ xss) = length-append xs (concat xss) ∙ ap (λ (n : ℕ). length xs + n) (length-concat xss) ∙ sym (sum_by-cons (λ (y : ℕ). y) (length xs) (map length xss))

-- numbers that are each at most another
sum-at-most : (xs ys : List ℕ) → length xs ≡ length ys → ((i : ℕ) → i < length xs → get_or xs i 0 ≤ get_or ys i 0) → sum xs ≤ sum ys
sum-at-most [] [] e each = omega arith
sum-at-most [] (y ∷ ys) e each = absurd (omega (arith, e))
sum-at-most (x ∷ xs) [] e each = absurd (omega (arith, e))
sum-at-most (x ∷ xs) (y ∷ ys) e each =
    omega (
      arith,
      sum_by-cons (λ (n : ℕ). n) x xs,
      sum_by-cons (λ (n : ℕ). n) y ys,
      each 0 (omega arith),
      sum-at-most xs ys (omega (arith, e)) (λ i lt. each (suc i) (omega (arith, lt))),
    )

-- ---- the lengths of a tile

-- the lengths of its data are the bytes of its data
lengths-sum : (comps : ℕ) (qps : Qps) (levels : Levels) (tile : ℕ) → sum (tile_with comps qps levels tile).lengths ≡ data_bytes (tile_with comps qps levels tile)
lengths-sum comps qps levels tile =
    let parts : List (List ℕ) = each comps (λ comp. component_bytes (blocks_at levels tile comp)) in
    let lengths : List ℕ = each comps (λ comp. length (component_bytes (blocks_at levels tile comp))) in
    let same : lengths ≡ map length parts =
    ext_get_or 0 lengths (map length parts)
    (length-each comps (λ comp. length (component_bytes (blocks_at levels tile comp))) ∙ sym (length-map parts length ∙ length-each comps (λ comp. component_bytes (blocks_at levels tile comp))))
    (λ comp less.
    let low : comp < comps = omega (arith, less, length-each comps (λ comp. length (component_bytes (blocks_at levels tile comp)))) in
    get_or-each comps (λ comp. length (component_bytes (blocks_at levels tile comp))) comp 0 low
    ∙ sym (get_or-map length parts comp [] 0 (omega (arith, low, length-each comps (λ comp. component_bytes (blocks_at levels tile comp)))) ∙ ap length (get_or-each comps (λ comp. component_bytes (blocks_at levels tile comp)) comp [] low))) in
    ap sum same ∙ sym (length-concat parts)

module _ (header : FrameHeader) (lengths : List ℕ) (four : length lengths ≡ 4 * tile_count (grid_of header)) (tile : ℕ) (exists : tile < tile_count (grid_of header)) where
  many-of-tile : length (tile_lengths lengths (header_comps header) tile) ≡ header_comps header
  many-of-tile = length-take-le (header_comps header) (drop (4 * tile) lengths) (omega (arith, comps-few header.info.chroma, four, exists, length-drop (4 * tile) lengths))

  at-tile : (comp : ℕ) → comp < header_comps header → get_or (tile_lengths lengths (header_comps header) tile) comp 0 ≡ get_or lengths (length_place tile comp) 0
  at-tile comp low = get_or-take (header_comps header) (drop (4 * tile) lengths) comp 0 low ∙ get_or-drop (4 * tile) lengths comp 0

-- ---- the lengths of a track

module _ (header : FrameHeader) (qps : Qps) (levels : Levels) (lengths : List ℕ) (four : length lengths ≡ 4 * tile_count (grid_of header)) where
  abbrev tile_of : ℕ → Tile
  tile_of = tile_with (header_comps header) qps levels

  abbrev length_of : ℕ → ℕ → ℕ
  length_of tile comp = length (component_bytes (blocks_at levels tile comp))

  abbrev sum_of : ℕ → ℕ
  sum_of tile = sum (tile_lengths lengths (header_comps header) tile)

  many-same : (tile : ℕ) → tile < tile_count (grid_of header) → length (tile_lengths lengths (header_comps header) tile) ≡ length (tile_of tile).lengths
  many-same tile lt = many-of-tile header lengths four tile lt ∙ sym (length-each (header_comps header) (length_of tile))

  -- the bytes of a tile among those of all
  tile-bytes : (tile : ℕ) → tile < tile_count (grid_of header) → get_or (map data_bytes (each (tile_count (grid_of header)) tile_of)) tile 0 ≡ data_bytes (tile_of tile)
  tile-bytes tile low =
      let count : ℕ = tile_count (grid_of header) in
      get_or-map data_bytes (each count tile_of) tile no_tile 0 (omega (arith, low, length-each count tile_of)) ∙ ap data_bytes (get_or-each count tile_of tile no_tile low)

  sums-same : length (each (tile_count (grid_of header)) sum_of) ≡ length (map data_bytes (each (tile_count (grid_of header)) tile_of))
  sums-same =
      let count : ℕ = tile_count (grid_of header) in
      length-each count sum_of ∙ sym (length-map (each count tile_of) data_bytes ∙ length-each count tile_of)

  module _ (has : OfEach header (λ tile comp. get_or lengths (length_place tile comp) 0 ≡ length_of tile comp)) where
    -- the lengths of a tile
    pub lengths-are : (tile : ℕ) → tile < tile_count (grid_of header) → tile_lengths lengths (header_comps header) tile ≡ (tile_of tile).lengths
    lengths-are tile lt =
        ext_get_or 0 (tile_lengths lengths (header_comps header) tile) (tile_of tile).lengths (many-same tile lt)
        (λ comp less.
        let low : comp < header_comps header = omega (arith, less, many-of-tile header lengths four tile lt) in
        at-tile header lengths four tile lt comp low ∙ has tile comp lt low ∙ sym (get_or-each (header_comps header) (length_of tile) comp 0 low))

    -- their sum
    pub sum-is : (tile : ℕ) → tile < tile_count (grid_of header) → sum_of tile ≡ data_bytes (tile_of tile)
    sum-is tile lt = ap sum (lengths-are tile lt) ∙ lengths-sum (header_comps header) qps levels tile

    -- the sum of all
    pub total-is : sum (each (tile_count (grid_of header)) sum_of) ≡ data_total (frame_with header qps levels)
    total-is =
        let count : ℕ = tile_count (grid_of header) in
        ap sum (ext_get_or 0 (each count sum_of) (map data_bytes (each count tile_of)) sums-same
        (λ tile less.
        let low : tile < count = omega (arith, less, length-each count sum_of) in
        get_or-each count sum_of tile 0 low ∙ sum-is tile low ∙ sym (tile-bytes tile low)))

  module _ (most : OfEach header (λ tile comp. get_or lengths (length_place tile comp) 0 ≤ length_of tile comp)) where
    -- numbers that are at most the lengths of a tile have at most their sum
    sum-most : (tile : ℕ) → tile < tile_count (grid_of header) → sum_of tile ≤ data_bytes (tile_of tile)
    sum-most tile lt =
        omega (
          arith,
          lengths-sum (header_comps header) qps levels tile,
          sum-at-most (tile_lengths lengths (header_comps header) tile) (tile_of tile).lengths (many-same tile lt)
              (λ comp less.
              let low : comp < header_comps header = omega (arith, less, many-of-tile header lengths four tile lt) in
              omega (arith, at-tile header lengths four tile lt comp low, most tile comp lt low, get_or-each (header_comps header) (length_of tile) comp 0 low)),
        )

    -- and of all tiles
    pub total-most : sum (each (tile_count (grid_of header)) sum_of) ≤ data_total (frame_with header qps levels)
    total-most =
        let count : ℕ = tile_count (grid_of header) in
        sum-at-most (each count sum_of) (map data_bytes (each count tile_of)) sums-same
        (λ tile less.
        let low : tile < count = omega (arith, less, length-each count sum_of) in
        omega (arith, get_or-each count sum_of tile 0 low, sum-most tile low, tile-bytes tile low))

-- counted levels are those of the track
pub counted-has : (head : TrackHead) (levels : Buffer ℤ) (lengths : List ℕ) → AreCounted head levels lengths → (tile comp : ℕ) → tile < tile_count (grid_of head.header) → comp < header_comps head.header
    → get_or lengths (length_place tile comp) 0 ≡ length (component_bytes (blocks_at (levels_in (grid_of head.header) levels.values) tile comp))
counted-has head levels lengths counted tile comp lt less =
    counted tile comp lt less ∙ sym (ap (λ (bs : List (List ℤ)). length (component_bytes bs)) (blocks-at (grid_of head.header) levels.values tile comp lt less))
