-- The bytes of tiles, one component and one tile after another.
use Rattle.std.proofs.Common.{◌≡◌, ℕ, zero, suc, ◌+◌, ◌-◌, ◌<◌, ◌≤◌, ◌++◌, Option, List, [], ◌∷◌, length, map, take, drop, refl, sym, ap, ap₂, ◌∙◌, subst, arith, length-append, append_assoc, append-nil}
use Rattle.std.specs.List.{sum, concat, range_with_len, flat_map}
use Rattle.std.proofs.Math.Seq.{take-add, take-length}
use Rattle.std.proofs.lemmas.List.{take_at, drop_at, ext_get_or}
use Rattle.std.proofs.lemmas.List.FromFn.{map-range_with_len_more}
use Rattle.apv_base.proofs.FoundTilesLemmas.{six}
use Rattle.apv_base.specs.model.Bits.{be}
use Rattle.apv_base.specs.model.Encode.{each}
use Rattle.apv_base.specs.declared.rules.TileBreak.{TileBreak}
use Rattle.apv_base.specs.model.Table.{Table, done, fields, spell}
use Rattle.apv_base.specs.model.Tile.{Tile, Layout, tile_header_size, tile_header_fields, tile_header_values, tile_fields, tiles_from, tile_values, tiles_values}
use Rattle.apv_workers.specs.Cuts.{cut, part, IsRun}
use Rattle.apv_workers.specs.Lengths.{tile_lengths}
use Rattle.apv_workers.specs.Put.{tile_piece, put_start}
use Rattle.apv_workers.proofs.Coded.{length-each, get_or-each}
use Rattle.apv_workers.proofs.Counted.{sum-each-more}
use Rattle.apv_workers.proofs.TileWalk.{last-of}

-- ---- lists with an item for each number

each-more : {A : Type 0} (n : ℕ) (item : ℕ → A) → each (n + 1) item ≡ each n item ++ item n ∷ []
each-more n item = map-range_with_len_more item 0 n n (omega arith)

pub each-same : {A : Type 0} (d : A) (n : ℕ) (f g : ℕ → A) → ((i : ℕ) → i < n → f i ≡ g i) → each n f ≡ each n g
each-same d n f g same =
    ext_get_or d (each n f) (each n g) (length-each n f ∙ sym (length-each n g))
    (λ i lt. let low : i < n = omega (arith, lt, length-each n f) in get_or-each n f i d low ∙ same i low ∙ sym (get_or-each n g i d low))

concat-last : (xss : List (List ℕ)) (xs : List ℕ) → concat (xss ++ xs ∷ []) ≡ concat xss ++ xs
concat-last [] xs = append-nil xs
concat-last (ys ∷ xss) xs = ap (λ (zs : List ℕ). ys ++ zs) (concat-last xss xs) ∙ sym (append_assoc ys (concat xss) xs)

pub concat-each-more : (n : ℕ) (item : ℕ → List ℕ) → concat (each (n + 1) item) ≡ concat (each n item) ++ item n
concat-each-more n item = ap concat (each-more n item) ∙ concat-last (each n item) (item n)

-- ---- the components of a tile

-- one more component was written
pub put-more : (before after new rest out : List ℕ) (place len n : ℕ) (item : ℕ → List ℕ) → out ≡ before ++ after → length before ≡ place → length new ≡ len → take place out ≡ concat (each n item) → new ≡ item n
    → take (place + len) (before ++ (new ++ rest)) ≡ concat (each (n + 1) item)
put-more before after new rest out place len n item e eb en so is =
    let long : length (before ++ new) ≡ place + len = length-append before new ∙ ap₂ (λ (a b : ℕ). a + b) eb en in
    let first : before ≡ concat (each n item) = sym (take_at before after place eb) ∙ ap (take place) (sym e) ∙ so in
    ap (take (place + len)) (sym (append_assoc before new rest)) ∙ take_at (before ++ new) rest (place + len) long
    ∙ ap₂ (λ (xs ys : List ℕ). xs ++ ys) first is ∙ sym (concat-each-more n item)

-- all were
pub put-all : (out lengths : List ℕ) (place n comps : ℕ) (item : ℕ → List ℕ) → length out ≡ sum lengths → length lengths ≡ comps → n ≡ comps → place ≡ sum (take n lengths) → take place out ≡ concat (each n item) → out ≡ concat (each comps item)
put-all out lengths place n comps item eo el en ep so =
    let all : take n lengths ≡ lengths = ap (λ (k : ℕ). take k lengths) (en ∙ sym el) ∙ take-length lengths in
    let whole : place ≡ length out = ep ∙ ap sum all ∙ sym eo in
    sym (take-length out) ∙ ap (λ (k : ℕ). take k out) (sym whole) ∙ so ∙ ap (λ (k : ℕ). concat (each k item)) en

-- ---- where tiles begin

pub start-more : (lengths : List ℕ) (comps tile : ℕ) → put_start lengths comps (tile + 1) ≡ put_start lengths comps tile + (tile_header_size comps + 4 + sum (tile_lengths lengths comps tile))
start-more lengths comps tile = omega (arith, sum-each-more tile (λ t. sum (tile_lengths lengths comps t)))

pub starts-rise : (lengths : List ℕ) (comps i k : ℕ) → put_start lengths comps i ≤ put_start lengths comps (i + k)
starts-rise lengths comps i zero = let e : i + 0 ≡ i = omega arith in subst (λ (n : ℕ). put_start lengths comps i ≤ put_start lengths comps n) (sym e) (omega arith)
starts-rise lengths comps i (suc k) =
    let e : i + suc k ≡ i + k + 1 = omega arith in
    subst (λ (n : ℕ). put_start lengths comps i ≤ put_start lengths comps n) (sym e) (omega (arith, starts-rise lengths comps i k, start-more lengths comps (i + k)))

-- cuts are where the tiles of a track begin in bytes
pub record ArePutStarts (lengths : List ℕ) (comps count : ℕ) (cuts : List ℕ) : Type 0 where
  pub len : length cuts ≡ 401
  pub few : count ≤ 400
  pub each_is : (tile : ℕ) → tile ≤ count → cut cuts tile ≡ put_start lengths comps tile

pub put-run : (lengths : List ℕ) (comps count : ℕ) (cuts out : List ℕ) → ArePutStarts lengths comps count cuts → length out ≡ put_start lengths comps count → IsRun cuts 0 count out
put-run lengths comps count cuts out s room =
    let none : put_start lengths comps 0 ≡ 0 = omega arith in
    let end : cut cuts (0 + count) ≡ put_start lengths comps count = s.each_is (0 + count) (omega arith) ∙ ap (put_start lengths comps) (omega arith) in
    record {
      sound = record {
        there = omega (arith, s.len, s.few);
        small = omega (arith, s.few);
        rising = λ i j ij jl.
            let k : ℕ = j - i in
            let e : i + k ≡ j = omega arith in
            omega (arith, s.each_is i (omega arith), s.each_is j (omega arith), starts-rise lengths comps i k, ap (put_start lengths comps) e);
      };
      whole = omega (arith, room, end, s.each_is 0 (omega arith), none);
    }

-- ---- the parts of a run one after another

parts-joined : (cuts : List ℕ) (count n : ℕ) (values : List ℕ) → IsRun cuts 0 count values → n ≤ count → take (cut cuts n - cut cuts 0) values ≡ concat (each n (λ tile. part cuts 0 values tile))
unfolding part
parts-joined cuts count zero values r le = let e : cut cuts 0 - cut cuts 0 ≡ 0 = omega arith in ap (λ (k : ℕ). take k values) e
parts-joined cuts count (suc n) values r le =
    let a = r.sound.rising 0 n (omega arith) (omega arith) in
    let b = r.sound.rising n (n + 1) (omega arith) (omega arith) in
    let e : suc n ≡ n + 1 = omega arith in
    let k : cut cuts (n + 1) - cut cuts 0 ≡ (cut cuts n - cut cuts 0) + (cut cuts (n + 1) - cut cuts n) = omega arith in
    ap (λ (m : ℕ). take (cut cuts m - cut cuts 0) values) e
    ∙ ap (λ (m : ℕ). take m values) k
    ∙ take-add (cut cuts n - cut cuts 0) (cut cuts (n + 1) - cut cuts n) values
    ∙ ap (λ (xs : List ℕ). xs ++ part cuts 0 values n) (parts-joined cuts count n values r (omega arith))
    ∙ sym (concat-each-more n (λ tile. part cuts 0 values tile))
    ∙ ap (λ (m : ℕ). concat (each m (λ tile. part cuts 0 values tile))) (sym e)

pub run-joined : (cuts : List ℕ) (count : ℕ) (values : List ℕ) → IsRun cuts 0 count values → values ≡ concat (each count (λ tile. part cuts 0 values tile))
run-joined cuts count values r =
    let e : 0 + count ≡ count = omega arith in
    sym (take-length values) ∙ ap (λ (k : ℕ). take k values) (r.whole ∙ ap (λ (m : ℕ). cut cuts m - cut cuts 0) e) ∙ parts-joined cuts count count values r (omega arith)

-- ---- tiles as they are spelled

spell-numbers : {E : Type 0} (count n : ℕ) (short : E) (check : ℕ → ℕ → Option E) (next : List ℕ → Table E) (values rest : List ℕ) → length values ≡ count
    → spell 256 (fields count n short check next) (values ++ rest) ≡ flat_map (be n) values ++ spell 256 (next values) rest
unfolding spell fields
spell-numbers zero n short check next [] rest e = refl
spell-numbers zero n short check next (v ∷ values) rest e = absurd (omega (arith, e))
spell-numbers (suc count) n short check next [] rest e = absurd (omega (arith, e))
spell-numbers (suc count) n short check next (v ∷ values) rest e =
    ap (λ (xs : List ℕ). be n v ++ xs) (spell-numbers count n short check (λ values. next (v ∷ values)) values rest (omega (arith, e)))
    ∙ sym (append_assoc (be n v) (flat_map (be n) values) (spell 256 (next (v ∷ values)) rest))

-- a tile header, and what follows it
header-spelled : (comps depth count index size : ℕ) (sizes : Option (List ℕ)) (next : Table TileBreak) (prefix qps more : List ℕ) (last : ℕ) → length prefix ≡ comps - 1 → length qps ≡ comps
    → spell 256 (tile_header_fields (record { comps = comps; depth = depth; count = count; sizes = sizes }) index size next) (tile_header_size comps ∷ index ∷ (prefix ++ (last ∷ (qps ++ (0 ∷ more)))))
    ≡ be 2 (tile_header_size comps) ++ (be 2 index ++ (flat_map (be 4) prefix ++ (be 4 last ++ (flat_map (be 1) qps ++ (be 1 0 ++ spell 256 next more)))))
unfolding spell
header-spelled comps depth count index size sizes next prefix qps more last e f =
    rw (spell-numbers (comps - 1) 4 _ _ _ prefix (last ∷ (qps ++ (0 ∷ more))) e, spell-numbers comps 1 _ _ _ qps (0 ∷ more) f) refl

-- the bytes of a header with others after it
header-parts : (a b c d e f y : List ℕ) → (a ++ (b ++ (c ++ (d ++ (e ++ (f ++ [])))))) ++ y ≡ a ++ (b ++ (c ++ (d ++ (e ++ (f ++ y)))))
header-parts a b c d e f y = simp (append_assoc, append-nil) refl

around : (a h b s : List ℕ) → a ++ (h ++ (b ++ s)) ≡ (a ++ (h ++ b)) ++ s
around a h b s = simp append_assoc refl

-- a tile, and what follows it
tile-spelled : (comps depth count number : ℕ) (sizes : Option (List ℕ)) (next : Table TileBreak) (tile : Tile) (later : List ℕ) → 1 ≤ comps → length tile.lengths ≡ comps → length tile.qps ≡ comps
    → let layout : Layout = record { comps = comps; depth = depth; count = count; sizes = sizes } in
    spell 256 (tile_fields layout number next) (tile_values comps number tile ++ later) ≡ tile_piece layout number tile ++ spell 256 next later
unfolding spell
tile-spelled comps depth count number sizes next tile later some el eq =
    let layout : Layout = record { comps = comps; depth = depth; count = count; sizes = sizes } in
    let hs : ℕ = tile_header_size comps in
    let size : ℕ = hs + length tile.bytes in
    let split = last-of tile.lengths (omega (arith, el, some)) in
    let p : List ℕ = split.prefix in
    let l : ℕ = split.last in
    let fewer : length p ≡ comps - 1 = omega (arith, ap length split.all, length-append p (l ∷ []), el) in
    let values : tile_values comps number tile ++ later ≡ size ∷ hs ∷ number ∷ (p ++ (l ∷ (tile.qps ++ (0 ∷ (tile.bytes ++ later))))) =
    ap (λ (ls : List ℕ). size ∷ hs ∷ number ∷ ((((ls ++ tile.qps) ++ 0 ∷ []) ++ tile.bytes) ++ later)) split.all
    ∙ ap (λ (vs : List ℕ). size ∷ hs ∷ number ∷ vs) (six p (l ∷ []) tile.qps (0 ∷ []) tile.bytes later) in
    let alone : tile_header_values comps number tile.lengths tile.qps ≡ hs ∷ number ∷ (p ++ (l ∷ (tile.qps ++ (0 ∷ [])))) =
    ap (λ (ls : List ℕ). hs ∷ number ∷ ((ls ++ tile.qps) ++ 0 ∷ [])) split.all
    ∙ ap (λ (vs : List ℕ). hs ∷ number ∷ vs) (append_assoc (p ++ l ∷ []) tile.qps (0 ∷ []) ∙ append_assoc p (l ∷ []) (tile.qps ++ 0 ∷ [])) in
    let header : spell 256 (tile_header_fields layout number size done) (tile_header_values comps number tile.lengths tile.qps)
    ≡ be 2 hs ++ (be 2 number ++ (flat_map (be 4) p ++ (be 4 l ++ (flat_map (be 1) tile.qps ++ (be 1 0 ++ []))))) =
    ap (spell 256 (tile_header_fields layout number size done)) alone ∙ header-spelled comps depth count number size sizes done p tile.qps [] l fewer eq in
    let n : size - hs ≡ length tile.bytes = omega arith in
    let rest : take (size - hs) (tile.bytes ++ later) ++ spell 256 next (drop (size - hs) (tile.bytes ++ later)) ≡ tile.bytes ++ spell 256 next later =
    ap₂ (λ (a b : List ℕ). a ++ spell 256 next b) (take_at tile.bytes later (size - hs) (sym n)) (drop_at tile.bytes later (size - hs) (sym n)) in
    ap (spell 256 (tile_fields layout number next)) values
    ∙ ap (λ (xs : List ℕ). be 4 size ++ xs) (
    header-spelled comps depth count number size sizes _ p tile.qps (tile.bytes ++ later) l fewer eq
    ∙ ap (λ (xs : List ℕ). be 2 hs ++ (be 2 number ++ (flat_map (be 4) p ++ (be 4 l ++ (flat_map (be 1) tile.qps ++ (be 1 0 ++ xs)))))) rest
    ∙ sym (header-parts (be 2 hs) (be 2 number) (flat_map (be 4) p) (be 4 l) (flat_map (be 1) tile.qps) (be 1 0) (tile.bytes ++ spell 256 next later))
    ∙ ap (λ (xs : List ℕ). xs ++ (tile.bytes ++ spell 256 next later)) (sym header))
    ∙ around (be 4 size) (spell 256 (tile_header_fields layout number size done) (tile_header_values comps number tile.lengths tile.qps)) tile.bytes (spell 256 next later)

-- all tiles
pub tiles-spelled : (comps depth count : ℕ) (sizes : Option (List ℕ)) (tile : ℕ → Tile) (n a : ℕ) → 1 ≤ comps → ((t : ℕ) → (length (tile t).lengths ≡ comps) × (length (tile t).qps ≡ comps))
    → let layout : Layout = record { comps = comps; depth = depth; count = count; sizes = sizes } in
    spell 256 (tiles_from layout n a) (tiles_values comps a (map tile (range_with_len a n))) ≡ concat (map (λ t. tile_piece layout t (tile t)) (range_with_len a n))
unfolding spell tiles_from tiles_values
tiles-spelled comps depth count sizes tile zero a some are = refl
tiles-spelled comps depth count sizes tile (suc n) a some are =
    let layout : Layout = record { comps = comps; depth = depth; count = count; sizes = sizes } in
    let later : List ℕ = range_with_len (a + 1) n in
    let e : a + 1 ≡ suc a = omega arith in
    tile-spelled comps depth count a sizes (tiles_from layout n (suc a)) (tile a) (tiles_values comps (suc a) (map tile later)) some (are a).0 (are a).1
    ∙ ap (λ (xs : List ℕ). tile_piece layout a (tile a) ++ xs)
    (subst (λ (k : ℕ). spell 256 (tiles_from layout n k) (tiles_values comps k (map tile later)) ≡ concat (map (λ t. tile_piece layout t (tile t)) later)) e
    (tiles-spelled comps depth count sizes tile n (a + 1) some are))
