-- The bytes of a frame that is coded, and their number.
use Rattle.std.proofs.Common.{◌≡◌, ℕ, zero, suc, ◌+◌, ◌-◌, ◌*◌, ◌/◌, ◌<◌, ◌≤◌, Bool, true, false, List, [], ◌∷◌, ◌++◌, Option, length, get_or, map, take, drop, refl, sym, ap, ap₂, ◌∙◌, subst, arith, lit<, length-append, append_assoc}
use Rattle.std.specs.Prelude.{if◌then◌else◌}
use Rattle.std.specs.List.{sum, concat, range_with_len}
use Rattle.std.proofs.Math.Nat.{suc-mul}
use Rattle.std.proofs.lemmas.List.{take_at, drop_at, drop-drop, length-map, length-take-le, get_or-take, get_or-map, ext_get_or}
use Rattle.std.proofs.lemmas.List.FromFn.{length-map-range_with_len, get_or-map-range_with_len, map-range_with_len_more}
use Rattle.std.proofs.lemmas.List.Sums.{sum_by-cons}
use Rattle.apv_base.proofs.BitsLemmas.{length-be}
use Rattle.apv_base.proofs.DigitsLemmas.{digits-take}
use Rattle.apv_base.proofs.PackedLemmas.{bytes-of-bits, length-packed}
use Rattle.apv_base.proofs.FoundTilesLemmas.{fault, qps_next, prefix_next}
use Rattle.apv_base.specs.declared.format.Chroma.{Chroma}
use Rattle.apv_base.specs.declared.format.Chroma.TheVariants.{C400, C422, C444, C4444}
use Rattle.apv_base.specs.declared.header.FrameHeader.{FrameHeader}
use Rattle.apv_base.specs.declared.rules.TileBreak.{TileBreak}
use Rattle.apv_base.specs.model.Bits.{bits, be, digits, number, AreBytes}
use Rattle.apv_base.specs.model.CodedFrame.{CodedFrame, Levels, blocks_at, no_tile, tile_size, stated_sizes, head_values}
use Rattle.apv_base.specs.model.Component.{bytes_of_bits, component_bytes}
use Rattle.apv_base.specs.model.Encode.{Qps, each, tile_with, tiles_with, frame_with, frame_body, frame_pbu}
use Rattle.apv_base.specs.model.Format.{comps_of}
use Rattle.apv_base.specs.model.Grid.{tile_count}
use Rattle.apv_base.specs.model.Header.{header_comps, header_table, info_values, colour_values, matrix_values, size_values, grid_of}
use Rattle.apv_base.specs.model.Pbu.{pbu_table}
use Rattle.apv_base.specs.model.Table.{Table, fields, no_check, spell}
use Rattle.apv_base.specs.model.Tile.{Tile, Layout, stated, check_qp, at_tile, tile_numbers, tile_header_size, tile_fields, tiles_from, tile_values, tiles_values}
use Rattle.apv_frame.specs.Coded.{IsFixedSize}
use Rattle.apv_header.proofs.NumbersLemmas.{sum-push}
use Rattle.apv_header.specs.Words.{frame_header_word}
use Rattle.apv_workers.specs.Track.{data_bytes, data_total, tiles_bytes, tiles_size}

-- ---- the length of tiles

long-numbers : {E : Type 0} (count n : ℕ) (short : E) (check : ℕ → ℕ → Option E) (next : List ℕ → Table E) (values : List ℕ) (m : ℕ) → ((vs : List ℕ) → length (spell 256 (next vs) (drop count values)) ≡ m)
    → length (spell 256 (fields count n short check next) values) ≡ count * n + m
unfolding spell fields
long-numbers zero n short check next values m is = is [] ∙ omega arith
long-numbers (suc count) n short check next values m is =
    let v : ℕ = get_or values 0 0 in
    let after : drop count (drop 1 values) ≡ drop (suc count) values = (let e : 1 + count ≡ suc count = omega arith in drop-drop count 1 values ∙ ap (λ (k : ℕ). drop k values) e) in
    let more = long-numbers count n short check (λ vs. next (v ∷ vs)) (drop 1 values) m (λ vs. ap (λ (xs : List ℕ). length (spell 256 (next (v ∷ vs)) xs)) after ∙ is (v ∷ vs)) in
    length-append (be n v) (spell 256 (fields count n short check (λ vs. next (v ∷ vs))) (drop 1 values)) ∙ ap₂ (λ (a b : ℕ). a + b) (length-be n v) more ∙ omega (arith, suc-mul count n)

-- the values of a tile after the first three, and later values
abbrev rest_values : Tile → List ℕ → List ℕ
rest_values tile later = (((tile.lengths ++ tile.qps) ++ 0 ∷ []) ++ tile.bytes) ++ later

after-header : (comps : ℕ) (tile : Tile) (later : List ℕ) → 1 ≤ comps → length tile.lengths ≡ comps → length tile.qps ≡ comps
    → drop 1 (drop comps (drop 1 (drop (comps - 1) (rest_values tile later)))) ≡ tile.bytes ++ later
after-header comps tile later some el eq =
    let xs : List ℕ = rest_values tile later in
    let header : List ℕ = (tile.lengths ++ tile.qps) ++ 0 ∷ [] in
    let long : length header ≡ comps - 1 + 1 + comps + 1 = omega (arith, length-append (tile.lengths ++ tile.qps) (0 ∷ []), length-append tile.lengths tile.qps, el, eq, some) in
    ap (λ (ys : List ℕ). drop 1 (drop comps ys)) (drop-drop 1 (comps - 1) xs)
    ∙ ap (drop 1) (drop-drop comps (comps - 1 + 1) xs)
    ∙ drop-drop 1 (comps - 1 + 1 + comps) xs
    ∙ ap (drop (comps - 1 + 1 + comps + 1)) (append_assoc header tile.bytes later)
    ∙ drop_at header (tile.bytes ++ later) (comps - 1 + 1 + comps + 1) long

-- a tile, and what follows it
tile-long : (comps depth count number : ℕ) (sizes : Option (List ℕ)) (next : Table TileBreak) (tile : Tile) (later : List ℕ) → 1 ≤ comps → length tile.lengths ≡ comps → length tile.qps ≡ comps
    → let layout : Layout = record { comps = comps; depth = depth; count = count; sizes = sizes } in
    length (spell 256 (tile_fields layout number next) (tile_values comps number tile ++ later)) ≡ tile_header_size comps + 4 + data_bytes tile + length (spell 256 next later)
unfolding spell digits
tile-long comps depth count number sizes next tile later some el eq =
    let layout : Layout = record { comps = comps; depth = depth; count = count; sizes = sizes } in
    let hs : ℕ = tile_header_size comps in
    let size : ℕ = hs + length tile.bytes in
    let xs : List ℕ = rest_values tile later in
    let end : List ℕ = drop 1 (drop comps (drop 1 (drop (comps - 1) xs))) in
    let is : end ≡ tile.bytes ++ later = after-header comps tile later some el eq in
    let n : length tile.bytes ≡ size - hs = omega arith in
    let m : ℕ = length tile.bytes + length (spell 256 next later) in
    let bytes : length (take (size - hs) end ++ spell 256 next (drop (size - hs) end)) ≡ m =
    length-append (take (size - hs) end) (spell 256 next (drop (size - hs) end))
    ∙ ap₂ (λ (a b : List ℕ). length a + length (spell 256 next b)) (ap (take (size - hs)) is ∙ take_at tile.bytes later (size - hs) n) (ap (drop (size - hs)) is ∙ drop_at tile.bytes later (size - hs) n) in
    let qps : length (spell 256 (tile_numbers number comps 1 (check_qp depth) (qps_next layout number size next)) (drop 1 (drop (comps - 1) xs))) ≡ comps * 1 + (1 + m) =
    long-numbers comps 1 (fault number) (λ value left. at_tile number (check_qp depth value left)) (qps_next layout number size next) (drop 1 (drop (comps - 1) xs)) (1 + m) (λ vs. ap suc bytes ∙ omega arith) in
    let lengths : length (spell 256 (tile_numbers number (comps - 1) 4 no_check (prefix_next layout number size next)) xs) ≡ (comps - 1) * 4 + (4 + (comps * 1 + (1 + m))) =
    long-numbers (comps - 1) 4 (fault number) (λ value left. at_tile number (no_check value left)) (prefix_next layout number size next) xs (4 + (comps * 1 + (1 + m))) (λ vs. ap (λ (k : ℕ). suc (suc (suc (suc k)))) qps ∙ omega arith) in
    ap (λ (k : ℕ). suc (suc (suc (suc (suc (suc (suc (suc k)))))))) lengths ∙ omega (arith, some)

-- all tiles
tiles-long : (comps depth count : ℕ) (sizes : Option (List ℕ)) (tile : ℕ → Tile) (n a : ℕ) → 1 ≤ comps → ((t : ℕ) → (length (tile t).lengths ≡ comps) × (length (tile t).qps ≡ comps))
    → let layout : Layout = record { comps = comps; depth = depth; count = count; sizes = sizes } in
    length (spell 256 (tiles_from layout n a) (tiles_values comps a (map tile (range_with_len a n)))) ≡ n * (tile_header_size comps + 4) + sum (map data_bytes (map tile (range_with_len a n)))
unfolding spell tiles_from tiles_values
tiles-long comps depth count sizes tile zero a some are = omega arith
tiles-long comps depth count sizes tile (suc n) a some are =
    let layout : Layout = record { comps = comps; depth = depth; count = count; sizes = sizes } in
    let later : List Tile = map tile (range_with_len (a + 1) n) in
    let e : a + 1 ≡ suc a = omega arith in
    let one = tile-long comps depth count a sizes (tiles_from layout n (suc a)) (tile a) (tiles_values comps (suc a) later) some (are a).0 (are a).1 in
    let more : length (spell 256 (tiles_from layout n (suc a)) (tiles_values comps (suc a) later)) ≡ n * (tile_header_size comps + 4) + sum (map data_bytes later) =
    ap (λ (k : ℕ). length (spell 256 (tiles_from layout n k) (tiles_values comps k later))) (sym e) ∙ tiles-long comps depth count sizes tile n (a + 1) some are in
    omega (arith, one, more, sum_by-cons (λ (y : ℕ). y) (data_bytes (tile a)) (map data_bytes later), suc-mul n (tile_header_size comps + 4))

comps-some : (chroma : Chroma) → 1 ≤ comps_of chroma
comps-some C400 = omega arith
comps-some C422 = omega arith
comps-some C444 = omega arith
comps-some C4444 = omega arith

length-each : {A : Type 0} (n : ℕ) (item : ℕ → A) → length (each n item) ≡ n
length-each n item = length-map-range_with_len item 0 n

-- the bytes of the tiles of levels
pub length-tiles : (header : FrameHeader) (qps : Qps) (levels : Levels) → length (tiles_bytes (frame_with header qps levels)) ≡ tiles_size (frame_with header qps levels)
length-tiles header qps levels =
    let frame : CodedFrame = frame_with header qps levels in
    let comps : ℕ = header_comps header in
    let count : ℕ = tile_count (grid_of header) in
    tiles-long comps header.info.depth count (stated header.sizes_present (stated_sizes frame)) (tile_with comps qps levels) count 0 (comps-some header.info.chroma)
    (λ t. (length-each comps (λ comp. length (component_bytes (blocks_at levels t comp))), length-each comps (qps t)))

-- ---- the length of a frame

-- a header with its sizes has n bytes
abbrev pub IsHeaderSize : FrameHeader → ℕ → Type 0
IsHeaderSize header n = (sizes : List ℕ) → (header.sizes_present ≡ true → length sizes ≡ tile_count (grid_of header)) → length (frame_header_word header sizes) ≡ 8 * n

where-stated : (present : Bool) (sizes : List ℕ) (n : ℕ) → length sizes ≡ n → present ≡ true → length (if present then sizes else []) ≡ n
where-stated true sizes n e is = e
where-stated false sizes n e is = absurd (let no : ⊥ = cc (is) in no)

-- the sizes of the tiles of levels
pub length-sizes : (header : FrameHeader) (qps : Qps) (levels : Levels) → length (map (tile_size (header_comps header)) (tiles_with header qps levels)) ≡ tile_count (grid_of header)
length-sizes header qps levels =
    length-map (tiles_with header qps levels) (tile_size (header_comps header)) ∙ length-each (tile_count (grid_of header)) (tile_with (header_comps header) qps levels)

-- the bytes of a frame of levels are those of its header and of its tiles
length-parts : (header : FrameHeader) (qps : Qps) (levels : Levels)
    → length (frame_body (frame_with header qps levels)) ≡ length (bytes_of_bits (spell 2 header_table (head_values (frame_with header qps levels)))) + tiles_size (frame_with header qps levels)
unfolding frame_body
length-parts header qps levels =
    let frame : CodedFrame = frame_with header qps levels in
    let word : List ℕ = spell 2 header_table (head_values frame) in
    length-append (bytes_of_bits word) (tiles_bytes frame) ∙ ap (λ (b : ℕ). length (bytes_of_bits word) + b) (length-tiles header qps levels)

pub length-body : (header : FrameHeader) (n : ℕ) (qps : Qps) (levels : Levels) → IsHeaderSize header n → length (frame_body (frame_with header qps levels)) ≡ n + tiles_size (frame_with header qps levels)
length-body header n qps levels is =
    let frame : CodedFrame = frame_with header qps levels in
    let word : List ℕ = spell 2 header_table (head_values frame) in
    let bits_are : length word ≡ 8 * n = is (stated_sizes frame) (where-stated header.sizes_present (map (tile_size (header_comps header)) frame.tiles) (tile_count (grid_of header)) (length-sizes header qps levels)) in
    length-parts header qps levels ∙ ap (λ (a : ℕ). a + tiles_size frame) (length-packed ((length word + 7) / 8) word ∙ omega (arith, bits_are))

length-pbu_header : (size kind group : ℕ) → length (spell 256 pbu_table (size ∷ kind ∷ group ∷ 0 ∷ [])) ≡ 8
unfolding spell digits
length-pbu_header size kind group = refl

pub length-pbu : (header : FrameHeader) (n kind : ℕ) (qps : Qps) (levels : Levels) → IsHeaderSize header n → length (frame_pbu kind header qps levels) ≡ 8 + (n + tiles_size (frame_with header qps levels))
length-pbu header n kind qps levels is =
    let body : List ℕ = frame_body (frame_with header qps levels) in
    length-append (spell 256 pbu_table ((length body + 4) ∷ kind ∷ 1 ∷ 0 ∷ [])) body
    ∙ ap₂ (λ (a b : ℕ). a + b) (length-pbu_header (length body + 4) kind 1) (length-body header n qps levels is)

-- the bytes of a frame but for those of its data
pub fixed-size : (header : FrameHeader) (n fixed : ℕ) → IsHeaderSize header n → fixed ≡ 8 + n + tile_count (grid_of header) * (tile_header_size (header_comps header) + 4) → IsFixedSize header fixed
fixed-size header n fixed is e kind qps levels = omega (arith, length-pbu header n kind qps levels is, e)

-- the data of a frame of levels have no more bytes than its PBU, which has 8 more than the frame
pub data-within : (header : FrameHeader) (kind : ℕ) (qps : Qps) (levels : Levels)
    → (data_total (frame_with header qps levels) ≤ length (frame_pbu kind header qps levels)) × (length (frame_pbu kind header qps levels) ≡ 8 + length (frame_body (frame_with header qps levels)))
data-within header kind qps levels =
    let body : List ℕ = frame_body (frame_with header qps levels) in
    let long : length (frame_pbu kind header qps levels) ≡ 8 + length body =
    length-append (spell 256 pbu_table ((length body + 4) ∷ kind ∷ 1 ∷ 0 ∷ [])) body ∙ ap (λ (a : ℕ). a + length body) (length-pbu_header (length body + 4) kind 1) in
    (omega (arith, long, length-parts header qps levels), long)

-- ---- the bytes of a frame

where-present : (present : Bool) (sizes : List ℕ) → size_values present sizes ≡ size_values present (if present then sizes else [])
where-present true sizes = refl
where-present false sizes = refl

-- a header is that of the frame, whether it states the sizes or not
header-word : (header : FrameHeader) (qps : Qps) (levels : Levels) (sizes : List ℕ) → sizes ≡ map (tile_size (header_comps header)) (tiles_with header qps levels)
    → frame_header_word header sizes ≡ spell 2 header_table (head_values (frame_with header qps levels))
header-word header qps levels sizes e =
    ap (λ (ss : List ℕ). frame_header_word header ss) e
    ∙ ap (λ (vs : List ℕ). spell 2 header_table (info_values header.info ++ 0 ∷ [] ++ colour_values header.colour ++ matrix_values header.use_matrix (header_comps header) header.matrices ++ header.tile_width ∷ header.tile_height ∷ [] ++ vs ++ 0 ∷ 0 ∷ []))
    (where-present header.sizes_present (map (tile_size (header_comps header)) (tiles_with header qps levels)))

-- its bytes as they are written
pub frame-written : (header : FrameHeader) (qps : Qps) (levels : Levels) (sizes head later : List ℕ) → sizes ≡ map (tile_size (header_comps header)) (tiles_with header qps levels) → AreBytes (head ++ later)
    → bits head ≡ frame_header_word header sizes → later ≡ tiles_bytes (frame_with header qps levels) → head ++ later ≡ frame_body (frame_with header qps levels)
unfolding frame_body
frame-written header qps levels sizes head later es are eh ed =
    let word : bits head ≡ spell 2 header_table (head_values (frame_with header qps levels)) = eh ∙ header-word header qps levels sizes es in
    let first : AreBytes head = subst AreBytes (take_at head later (length head) refl) (digits-take 256 (length head) (head ++ later) (lit< tt) are) in
    ap₂ (λ (xs ys : List ℕ). xs ++ ys) (sym (bytes-of-bits head first) ∙ ap bytes_of_bits word) ed

-- those of its PBU
pub pbu-written : (header : FrameHeader) (kind size : ℕ) (qps : Qps) (levels : Levels) (prefix body out : List ℕ) → prefix ≡ spell 256 pbu_table (size ∷ kind ∷ 1 ∷ 0 ∷ []) → body ≡ frame_body (frame_with header qps levels)
    → length out ≡ length (frame_pbu kind header qps levels) → size ≡ length out - 4 → prefix ++ body ≡ frame_pbu kind header qps levels
pbu-written header kind size qps levels prefix body out ep eb room es =
    let is : List ℕ = frame_body (frame_with header qps levels) in
    let n : size ≡ length is + 4 = omega (arith, es, room, length-append (spell 256 pbu_table ((length is + 4) ∷ kind ∷ 1 ∷ 0 ∷ [])) is, length-pbu_header (length is + 4) kind 1) in
    ap₂ (λ (xs ys : List ℕ). xs ++ ys) (ep ∙ ap (λ (k : ℕ). spell 256 pbu_table (k ∷ kind ∷ 1 ∷ 0 ∷ [])) n) eb

-- the sizes of all tiles, each by its number
pub sizes-are : (header : FrameHeader) (qps : Qps) (levels : Levels) (sizes : List ℕ) (count : ℕ) → count ≡ tile_count (grid_of header) → count ≤ length sizes
    → ((tile : ℕ) → tile < tile_count (grid_of header) → get_or sizes tile 0 ≡ tile_size (header_comps header) (tile_with (header_comps header) qps levels tile))
    → take count sizes ≡ map (tile_size (header_comps header)) (tiles_with header qps levels)
sizes-are header qps levels sizes count ec few are =
    let comps : ℕ = header_comps header in
    let tiles : List Tile = tiles_with header qps levels in
    let long : length (take count sizes) ≡ count = length-take-le count sizes few in
    ext_get_or 0 (take count sizes) (map (tile_size comps) tiles) (long ∙ ec ∙ sym (length-sizes header qps levels))
    (λ tile lt.
    let low : tile < count = omega (arith, lt, long) in
    let known : tile < tile_count (grid_of header) = omega (arith, low, ec) in
    get_or-take count sizes tile 0 low ∙ are tile known
    ∙ sym (get_or-map (tile_size comps) tiles tile no_tile 0 (omega (arith, known, length-each (tile_count (grid_of header)) (tile_with comps qps levels)))
    ∙ ap (tile_size comps) (get_or-map-range_with_len (tile_with comps qps levels) 0 (tile_count (grid_of header)) tile tile no_tile known (omega arith))))

-- ---- the data of a tile

each-more : {A : Type 0} (n : ℕ) (item : ℕ → A) → each (n + 1) item ≡ each n item ++ item n ∷ []
each-more n item = map-range_with_len_more item 0 n n (omega arith)

concat-last : (xss : List (List ℕ)) (xs : List ℕ) → length (concat (xss ++ xs ∷ [])) ≡ length (concat xss) + length xs
concat-last [] xs = omega (arith, length-append xs [])
concat-last (ys ∷ xss) xs = length-append ys (concat (xss ++ xs ∷ [])) ∙ ap (λ (n : ℕ). length ys + n) (concat-last xss xs) ∙ omega (arith, length-append ys (concat xss))

-- the bytes of one more component
pub length-more : (n : ℕ) (item : ℕ → List ℕ) → length (concat (each (n + 1) item)) ≡ length (concat (each n item)) + length (item n)
length-more n item = ap (λ (xss : List (List ℕ)). length (concat xss)) (each-more n item) ∙ concat-last (each n item) (item n)

length-rises : (n k : ℕ) (item : ℕ → List ℕ) → length (concat (each n item)) ≤ length (concat (each (n + k) item))
length-rises n zero item = let e : n + 0 ≡ n = omega arith in omega (arith, ap (λ (i : ℕ). length (concat (each i item))) e)
length-rises n (suc k) item =
    let e : n + suc k ≡ n + k + 1 = omega arith in
    omega (arith, length-rises n k item, length-more (n + k) item, ap (λ (i : ℕ). length (concat (each i item))) e)

sum-more : (n : ℕ) (item : ℕ → ℕ) → sum (each (n + 1) item) ≡ sum (each n item) + item n
sum-more n item = ap sum (each-more n item) ∙ sum-push (each n item) (item n)

sum-rises : (n k : ℕ) (item : ℕ → ℕ) → sum (each n item) ≤ sum (each (n + k) item)
sum-rises n zero item = let e : n + 0 ≡ n = omega arith in omega (arith, ap (λ (i : ℕ). sum (each i item)) e)
sum-rises n (suc k) item =
    let e : n + suc k ≡ n + k + 1 = omega arith in
    omega (arith, sum-rises n k item, sum-more (n + k) item, ap (λ (i : ℕ). sum (each i item)) e)

total-each : (header : FrameHeader) (qps : Qps) (levels : Levels) → data_total (frame_with header qps levels) ≡ sum (each (tile_count (grid_of header)) (λ tile. data_bytes (tile_with (header_comps header) qps levels tile)))
total-each header qps levels =
    let count : ℕ = tile_count (grid_of header) in
    let tile : ℕ → Tile = tile_with (header_comps header) qps levels in
    let item : ℕ → ℕ = λ t. data_bytes (tile t) in
    ap sum (ext_get_or 0 (map data_bytes (each count tile)) (each count item) (length-map (each count tile) data_bytes ∙ length-each count tile ∙ sym (length-each count item))
    (λ t lt.
    let low : t < count = omega (arith, lt, length-map (each count tile) data_bytes, length-each count tile) in
    get_or-map data_bytes (each count tile) t no_tile 0 (omega (arith, low, length-each count tile))
    ∙ ap data_bytes (get_or-map-range_with_len tile 0 count t t no_tile low (omega arith))
    ∙ sym (get_or-map-range_with_len item 0 count t t 0 low (omega arith))))

-- the data of the first components of a tile have no more bytes than those of all tiles
pub few-data : (header : FrameHeader) (qps : Qps) (levels : Levels) (tile n : ℕ) → tile < tile_count (grid_of header) → n ≤ header_comps header
    → length (concat (each n (λ comp. component_bytes (blocks_at levels tile comp)))) ≤ data_total (frame_with header qps levels)
few-data header qps levels tile n lt le =
    let comps : ℕ = header_comps header in
    let count : ℕ = tile_count (grid_of header) in
    let part : ℕ → List ℕ = λ comp. component_bytes (blocks_at levels tile comp) in
    let item : ℕ → ℕ = λ t. data_bytes (tile_with comps qps levels t) in
    let a : n + (comps - n) ≡ comps = omega arith in
    let b : tile + 1 + (count - (tile + 1)) ≡ count = omega arith in
    omega (
      arith,
      length-rises n (comps - n) part,
      ap (λ (i : ℕ). length (concat (each i part))) a,
      sum-more tile item,
      sum-rises (tile + 1) (count - (tile + 1)) item,
      ap (λ (i : ℕ). sum (each i item)) b,
      total-each header qps levels,
    )

-- the size of a header as it is returned for another that is the same
pub header-size : (given header : FrameHeader) (tiles n : ℕ) → given ≡ header → tiles ≡ tile_count (grid_of header)
    → ((sizes : List ℕ) → (given.sizes_present ≡ true → length sizes ≡ tiles) → length (frame_header_word given sizes) ≡ 8 * n) → IsHeaderSize header n
header-size given header tiles n eh et is =
    subst (λ (h : FrameHeader). IsHeaderSize h n) eh (λ sizes count. is sizes (λ p. count p ∙ ap (λ (h : FrameHeader). tile_count (grid_of h)) eh ∙ sym et))
