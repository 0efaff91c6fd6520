-- Walks over the fields of a tile, and over the tiles of a frame.
use Rattle.std.proofs.Common.{◌≡◌, ℕ, suc, ◌+◌, ◌-◌, ◌<◌, ◌≤◌, List, [], ◌∷◌, ◌++◌, length, get_or, take, drop, map, refl, sym, ap, ap₂, ◌∙◌, arith, true, false, not, nat_eq, nat_lt, ◌||◌, Option, Some, None, ◌⊎◌, ⊎_elim, length-drop, append_assoc, append-nil}
use Rattle.std.proofs.lemmas.Bool.{lt-ltb, le-ltb, eq-eqb, ne_eqb, cases_order}
use Rattle.std.proofs.lemmas.List.{drop-drop, length-take-le, length-map, map-append}
use Rattle.std.specs.List.{AllByRecursion}
use Rattle.apv_base.specs.declared.rules.Rule.{Rule}
use Rattle.apv_base.specs.declared.rules.Rule.TheVariants.{V18, V20}
use Rattle.apv_base.specs.declared.rules.TileBreak.{TileBreak}
use Rattle.apv_base.specs.declared.format.FrameInfo.{FrameInfo}
use Rattle.apv_base.specs.model.Bits.{number}
use Rattle.apv_base.specs.model.Format.{comps_of}
use Rattle.apv_base.specs.model.Table.{Table, done, plain}
use Rattle.apv_base.specs.model.Tile.{Layout, tile_header_size, tile_header_values, tile_fields, tile_values, tiles_from, tiles_values, check_tile_size, differs, at_tile, Tile}
use Rattle.apv_base.proofs.WalkLemmas.{Onward, Fails, Gives, onward-start, onward-onward, onward-fails, onward-done, field-passes, field-short, field-fault, plain-passes}
use Rattle.apv_header.specs.declared.tiles.TileEntry.{TileEntry}
use Rattle.apv_header.specs.Tiles.{tile_of_entry, ArePlaced}
use Rattle.apv_header.specs.Walks.{WalksBytes, layout_with, stated_at, differs_from, broken_at, header_fields, HasTileSize, HasTileHeader, HasTile, TileHeaderBreaks, TileBreaks}

-- ---- tile_size

-- the fields after the size
abbrev pub after_size : ℕ → ℕ → ℕ → Table TileBreak → ℕ → Table TileBreak
after_size comps depth tile next size = header_fields comps depth tile size (plain (size - tile_header_size comps) (broken_at tile V20) next)

-- the check of the size
abbrev pub size_check : ℕ → ℕ → ℕ → Option (List ℕ) → ℕ → ℕ → ℕ → Option TileBreak
size_check comps depth count sizes tile value left = at_tile tile (check_tile_size (layout_with comps depth count sizes) tile value left)

pub size-short : (comps depth count tile : ℕ) (sizes : Option (List ℕ)) (next : Table TileBreak) (xs : List ℕ) → length xs < 4 → Fails 256 (tile_fields (layout_with comps depth count sizes) tile next) xs (broken_at tile V20)
size-short comps depth count tile sizes next xs lt = field-short 256 4 (broken_at tile V20) (size_check comps depth count sizes tile) (after_size comps depth tile next) xs lt

either : (a b : ℕ) → (nat_lt a b || nat_lt b a) ≡ not (nat_eq a b)
either a b =
    ⊎_elim
    (λ (e : a ≡ b). rw (le-ltb a b (omega arith), le-ltb b a (omega arith), eq-eqb a b e) refl)
    (λ (u : (a < b) ⊎ (b < a)).
    ⊎_elim
    (λ (lt : a < b). rw (lt-ltb a b lt, ne_eqb a b (λ e. omega arith)) refl)
    (λ (gt : b < a). rw (le-ltb a b (omega arith), lt-ltb b a gt, ne_eqb a b (λ e. omega arith)) refl)
    u)
    (cases_order a b)

pub differs-from : (sizes : Option (List ℕ)) (tile size : ℕ) (stated : Option ℕ) → stated ≡ stated_at sizes tile → differs sizes tile size ≡ differs_from stated size
differs-from None tile size stated e = rw e refl
differs-from (Some sizes) tile size stated e = rw e (either (get_or sizes tile 0) size)

-- the size is another one than the stated
pub size-differs : (comps depth count tile size : ℕ) (sizes : Option (List ℕ)) (next : Table TileBreak) (xs : List ℕ) → 4 ≤ length xs → size ≡ number 256 (take 4 xs) → differs sizes tile size ≡ true
    → Fails 256 (tile_fields (layout_with comps depth count sizes) tile next) xs (broken_at tile V18)
size-differs comps depth count tile size sizes next xs le e d =
    field-fault 256 4 (broken_at tile V20) (size_check comps depth count sizes tile) (after_size comps depth tile next) xs size (length xs - 4) (broken_at tile V18) le refl (sym e) (rw d refl)

-- the tile is smaller than its header
pub size-small : (comps depth count tile size : ℕ) (sizes : Option (List ℕ)) (next : Table TileBreak) (xs : List ℕ) → 4 ≤ length xs → size ≡ number 256 (take 4 xs) → differs sizes tile size ≡ false → size < tile_header_size comps
    → Fails 256 (tile_fields (layout_with comps depth count sizes) tile next) xs (broken_at tile V20)
size-small comps depth count tile size sizes next xs le e d lt =
    field-fault 256 4 (broken_at tile V20) (size_check comps depth count sizes tile) (after_size comps depth tile next) xs size (length xs - 4) (broken_at tile V20) le refl (sym e)
    (rw (d, lt-ltb size (tile_header_size comps) lt) refl)

-- the bytes end inside the tile
pub size-large : (comps depth count tile size : ℕ) (sizes : Option (List ℕ)) (next : Table TileBreak) (xs : List ℕ) → 4 ≤ length xs → size ≡ number 256 (take 4 xs) → differs sizes tile size ≡ false → tile_header_size comps ≤ size → length xs - 4 < size
    → Fails 256 (tile_fields (layout_with comps depth count sizes) tile next) xs (broken_at tile V20)
size-large comps depth count tile size sizes next xs le e d ge lt =
    field-fault 256 4 (broken_at tile V20) (size_check comps depth count sizes tile) (after_size comps depth tile next) xs size (length xs - 4) (broken_at tile V20) le refl (sym e)
    (rw (d, le-ltb size (tile_header_size comps) ge, lt-ltb (length xs - 4) size lt) refl)

pub size-good : (info : FrameInfo) (count tile size : ℕ) (stated : Option ℕ) (sizes : Option (List ℕ)) (next : Table TileBreak) (xs : List ℕ) → HasTileSize xs info tile stated size → stated ≡ stated_at sizes tile
    → Onward 256 (tile_fields (layout_with (comps_of info.chroma) info.depth count sizes) tile next) xs (size ∷ []) (after_size (comps_of info.chroma) info.depth tile next size) (drop 4 xs)
size-good info count tile size stated sizes next xs h e =
    let comps : ℕ = comps_of info.chroma in
    let depth : ℕ = info.depth in
    let fits : size ≤ length xs - 4 = omega (arith, h.high) in
    let same = h.same sizes e in
    field-passes 256 4 (broken_at tile V20) (size_check comps depth count sizes tile) (after_size comps depth tile next) xs size (length xs - 4) (drop 4 xs) h.long refl h.is
    (rw (same, le-ltb size (tile_header_size comps) h.low, le-ltb (length xs - 4) size fits) refl) refl

-- ---- a tile

pub tile-good : (info : FrameInfo) (tile size : ℕ) (stated : Option ℕ) (xs values : List ℕ) → HasTileSize xs info tile stated size → WalksBytes (header_fields (comps_of info.chroma) info.depth tile size) (drop 4 xs) values (drop (tile_header_size (comps_of info.chroma)) (drop 4 xs))
    → (count : ℕ) (sizes : Option (List ℕ)) → stated ≡ stated_at sizes tile
    → WalksBytes (tile_fields (layout_with (comps_of info.chroma) info.depth count sizes) tile) xs (size ∷ values ++ take (size - tile_header_size (comps_of info.chroma)) (drop (tile_header_size (comps_of info.chroma)) (drop 4 xs))) (drop size (drop 4 xs))
tile-good info tile size stated xs values h o count sizes e next =
    let comps : ℕ = comps_of info.chroma in
    let depth : ℕ = info.depth in
    let header : ℕ = tile_header_size comps in
    let after : List ℕ = drop header (drop 4 xs) in
    let table = tile_fields (layout_with comps depth count sizes) tile next in
    let rest : Table TileBreak = plain (size - header) (broken_at tile V20) next in
    let fits : size - header ≤ length after = omega (arith, h.high, h.low, length-drop header (drop 4 xs), length-drop 4 xs) in
    let m : header + (size - header) ≡ size = omega (arith, h.low) in
    let first = size-good info count tile size stated sizes next xs h e in
    let middle : Onward 256 table xs (size ∷ values) rest after =
    onward-onward 256 table xs (size ∷ []) (after_size comps depth tile next size) (drop 4 xs) values rest after first (o rest) in
    let last = plain-passes 256 (size - header) (broken_at tile V20) next after (take (size - header) after) (drop size (drop 4 xs)) fits refl (drop-drop (size - header) header (drop 4 xs) ∙ ap (λ (i : ℕ). drop i (drop 4 xs)) m) in
    onward-onward 256 table xs (size ∷ values) rest after (take (size - header) after) next (drop size (drop 4 xs)) middle last

same-walk : {E : Type 0} (table : Table E → Table E) (xs values more ys zs : List ℕ) → values ≡ more → ys ≡ zs → WalksBytes table xs values ys → WalksBytes table xs more zs
same-walk table xs values more ys zs e f o = rw (← e, ← f) o

-- a tile whose size and header were read at a place of a body
pub tile-at : (body : List ℕ) (from : ℕ) (info : FrameInfo) (tile : ℕ) (stated : Option ℕ) (bytes header : List ℕ) (entry : TileEntry) → bytes ≡ drop from body → from ≤ length body → header ≡ drop 4 bytes
    → HasTileSize bytes info tile stated entry.size → HasTileHeader header info tile entry.size (entry.lengths, entry.qp) → entry.place ≡ from + 4 → HasTile body from info tile stated entry
tile-at body from info tile stated bytes header entry b le i h o p =
    let comps : ℕ = comps_of info.chroma in
    let depth : ℕ = info.depth in
    let hs : ℕ = tile_header_size comps in
    let values : List ℕ = tile_header_values comps tile (take comps entry.lengths) (take comps entry.qp) in
    let h' : HasTileSize (drop from body) info tile stated entry.size = rw b at h in
    let four : header ≡ drop 4 (drop from body) = i ∙ ap (drop 4) b in
    let walked : WalksBytes (header_fields comps depth tile entry.size) header values (drop hs header) = o.walked in
    let o' : WalksBytes (header_fields comps depth tile entry.size) (drop 4 (drop from body)) values (drop hs (drop 4 (drop from body))) = rw four at walked in
    let at_header : drop 4 (drop from body) ≡ drop entry.place body = drop-drop 4 from body ∙ ap (λ (n : ℕ). drop n body) (sym p) in
    let at_data : drop hs (drop 4 (drop from body)) ≡ drop (entry.place + hs) body = ap (drop hs) at_header ∙ drop-drop hs entry.place body in
    let at_end : drop entry.size (drop 4 (drop from body)) ≡ drop (entry.place + entry.size) body = ap (drop entry.size) at_header ∙ drop-drop entry.size entry.place body in
    let inside : entry.place + entry.size ≤ length body = omega (arith, h'.high, length-drop from body, le, p) in
    let fits : entry.size - hs ≤ length (drop (entry.place + hs) body) = omega (arith, length-drop (entry.place + hs) body, inside, h'.low) in
    let inner : List ℕ = take (entry.size - hs) (drop (entry.place + hs) body) in
    let size : entry.size ≡ hs + length (take (entry.size - hs) (drop (entry.place + hs) body)) = omega (arith, length-take-le (entry.size - hs) (drop (entry.place + hs) body) fits, h'.low) in
    let same : entry.size ∷ values ++ take (entry.size - hs) (drop hs (drop 4 (drop from body))) ≡ (hs + length inner) ∷ values ++ inner =
    ap₂ (λ (n : ℕ) (xs : List ℕ). n ∷ values ++ take (entry.size - hs) xs) size at_data in
    record {
      walked = λ count sizes e. same-walk (tile_fields (layout_with comps depth count sizes) tile) (drop from body) _ _ _ _ same at_end (tile-good info tile entry.size stated (drop from body) values h' o' count sizes e);
      place = p;
      whole = h'.low;
      inside = inside;
      counts = record { lengths = o.length_count; qps = o.qp_count };
      others = record { lengths = o.lengths; qps = o.qps };
    }

-- a tile whose size was read at a place of a body, and whose header breaks a rule
pub tile-breaks : (body : List ℕ) (from : ℕ) (info : FrameInfo) (tile size : ℕ) (stated : Option ℕ) (bytes header : List ℕ) (rule : Rule) → bytes ≡ drop from body → header ≡ drop 4 bytes → HasTileSize bytes info tile stated size → TileHeaderBreaks header info tile size rule
    → TileBreaks (drop from body) info tile stated rule
tile-breaks body from info tile size stated bytes header rule b i h o count sizes e next =
    let comps : ℕ = comps_of info.chroma in
    let depth : ℕ = info.depth in
    let rest : Table TileBreak = plain (size - tile_header_size comps) (broken_at tile V20) next in
    rw (← b)
    (onward-fails 256 (tile_fields (layout_with comps depth count sizes) tile next) bytes (size ∷ []) (after_size comps depth tile next size) (drop 4 bytes) (broken_at tile rule)
    (size-good info count tile size stated sizes next bytes h e) (rw i at (o rest)))

-- ---- the tiles in order

from-suc : (layout : Layout) (count tile : ℕ) → tiles_from layout (suc count) tile ≡ tile_fields layout tile (tiles_from layout count (suc tile))
unfolding tiles_from
from-suc layout count tile = refl

from-zero : (layout : Layout) (tile : ℕ) → tiles_from layout 0 tile ≡ done
unfolding tiles_from
from-zero layout tile = refl

values-push : (comps number : ℕ) (tiles : List Tile) (tile : Tile) → tiles_values comps number (tiles ++ tile ∷ []) ≡ tiles_values comps number tiles ++ tile_values comps (number + length tiles) tile
unfolding tiles_values
values-push comps number [] tile = let e : number + 0 ≡ number = omega arith in append-nil (tile_values comps number tile) ∙ ap (λ (n : ℕ). tile_values comps n tile) (sym e)
values-push comps number (first ∷ tiles) tile =
    let e : suc number + length tiles ≡ number + suc (length tiles) = omega arith in
    ap (λ (values : List ℕ). tile_values comps number first ++ values) (values-push comps (suc number) tiles tile ∙ ap (λ (n : ℕ). tiles_values comps (suc number) tiles ++ tile_values comps n tile) e)
    ∙ sym (append_assoc (tile_values comps number first) (tiles_values comps (suc number) tiles) (tile_values comps (number + suc (length tiles)) tile))

-- a table of no tiles
pub values-none : (comps number : ℕ) → tiles_values comps number [] ≡ []
unfolding tiles_values
values-none comps number = refl

pub placed-push : (comps from end : ℕ) (entries : List TileEntry) (entry : TileEntry) → ArePlaced comps from entries end → entry.place ≡ end + 4 → tile_header_size comps ≤ entry.size → ArePlaced comps from (entries ++ entry ∷ []) (entry.place + entry.size)
placed-push comps from end [] entry p e le = (e ∙ ap (λ (n : ℕ). n + 4) (sym p), le, refl)
placed-push comps from end (first ∷ entries) entry p e le = (p.0, p.1, placed-push comps (first.place + first.size) end entries entry p.2 e le)

-- the walk over some tiles goes on over the next
pub tiles-more : (body xs : List ℕ) (table : Table TileBreak) (info : FrameInfo) (count tile end : ℕ) (sizes : Option (List ℕ)) (stated : Option ℕ) (entries : List TileEntry) (entry : TileEntry)
    → Onward 256 table xs (tiles_values (comps_of info.chroma) 0 (map (tile_of_entry body (comps_of info.chroma)) entries)) (tiles_from (layout_with (comps_of info.chroma) info.depth count sizes) (count - tile) tile) (drop end body)
    → length entries ≡ tile → tile < count → stated ≡ stated_at sizes tile → HasTile body end info tile stated entry
    → Onward 256 table xs (tiles_values (comps_of info.chroma) 0 (map (tile_of_entry body (comps_of info.chroma)) (entries ++ entry ∷ []))) (tiles_from (layout_with (comps_of info.chroma) info.depth count sizes) (count - (tile + 1)) (tile + 1)) (drop (entry.place + entry.size) body)
tiles-more body xs table info count tile end sizes stated entries entry o len lt e h =
    let comps : ℕ = comps_of info.chroma in
    let layout : Layout = layout_with (comps_of info.chroma) info.depth count sizes in
    let prefix : List Tile = map (tile_of_entry body comps) entries in
    let one : tile + 1 ≡ suc tile = omega arith in
    let left : count - tile ≡ suc (count - (tile + 1)) = omega arith in
    let rest : Table TileBreak = tiles_from layout (count - (tile + 1)) (tile + 1) in
    let unfolded : tiles_from layout (count - tile) tile ≡ tile_fields layout tile rest =
    ap (λ (n : ℕ). tiles_from layout n tile) left ∙ from-suc layout (count - (tile + 1)) tile ∙ ap (λ (n : ℕ). tile_fields layout tile (tiles_from layout (count - (tile + 1)) n)) (sym one) in
    let number : 0 + length (map (tile_of_entry body comps) entries) ≡ tile = omega (arith, length-map entries (tile_of_entry body comps), len) in
    let values : tiles_values comps 0 (map (tile_of_entry body comps) (entries ++ entry ∷ [])) ≡ tiles_values comps 0 prefix ++ tile_values comps tile (tile_of_entry body comps entry) =
    ap (tiles_values comps 0) (map-append (tile_of_entry body comps) entries (entry ∷ [])) ∙ values-push comps 0 prefix (tile_of_entry body comps entry)
    ∙ ap (λ (n : ℕ). tiles_values comps 0 prefix ++ tile_values comps n (tile_of_entry body comps entry)) number in
    let begun : Onward 256 table xs (tiles_values comps 0 prefix) (tile_fields layout tile rest) (drop end body) = rw unfolded at o in
    rw values
    (onward-onward 256 table xs (tiles_values comps 0 prefix) (tile_fields layout tile rest) (drop end body) (tile_values comps tile (tile_of_entry body comps entry)) rest (drop (entry.place + entry.size) body)
    begun (h.walked count sizes e rest))

-- the next tile breaks a rule
pub tiles-break : (body xs values : List ℕ) (table : Table TileBreak) (info : FrameInfo) (count tile end : ℕ) (sizes : Option (List ℕ)) (stated : Option ℕ) (rule : Rule)
    → Onward 256 table xs values (tiles_from (layout_with (comps_of info.chroma) info.depth count sizes) (count - tile) tile) (drop end body)
    → tile < count → stated ≡ stated_at sizes tile → TileBreaks (drop end body) info tile stated rule → Fails 256 table xs (broken_at tile rule)
tiles-break body xs values table info count tile end sizes stated rule o lt e h =
    let layout : Layout = layout_with (comps_of info.chroma) info.depth count sizes in
    let left : count - tile ≡ suc (count - suc tile) = omega arith in
    let rest : Table TileBreak = tiles_from layout (count - suc tile) (suc tile) in
    let unfolded : tiles_from layout (count - tile) tile ≡ tile_fields layout tile rest = ap (λ (n : ℕ). tiles_from layout n tile) left ∙ from-suc layout (count - suc tile) tile in
    let begun : Onward 256 table xs values (tile_fields layout tile rest) (drop end body) = rw unfolded at o in
    onward-fails 256 table xs values (tile_fields layout tile rest) (drop end body) (broken_at tile rule) begun (h count sizes e rest)

-- no tile is left
pub tiles-all : (xs values rest : List ℕ) (table : Table TileBreak) (layout : Layout) (count tile : ℕ) → Onward 256 table xs values (tiles_from layout (count - tile) tile) rest → count ≤ tile → Gives 256 table xs values rest
tiles-all xs values rest table layout count tile o le =
    let none : count - tile ≡ 0 = omega arith in
    let ended : tiles_from layout (count - tile) tile ≡ done = ap (λ (n : ℕ). tiles_from layout n tile) none ∙ from-zero layout tile in
    let last : Onward 256 table xs values done rest = rw ended at o in
    onward-done 256 table xs values rest last

-- before the first tile
pub tiles-begin : (body xs : List ℕ) (comps depth count : ℕ) (sizes : Option (List ℕ)) (entries : List TileEntry) → entries ≡ []
    → Onward 256 (tiles_from (layout_with comps depth count sizes) count 0) xs (tiles_values comps 0 (map (tile_of_entry body comps) entries)) (tiles_from (layout_with comps depth count sizes) (count - 0) 0) xs
tiles-begin body xs comps depth count sizes entries e =
    let whole : count - 0 ≡ count = omega arith in
    let none : tiles_values comps 0 (map (tile_of_entry body comps) entries) ≡ [] = ap (λ (es : List TileEntry). tiles_values comps 0 (map (tile_of_entry body comps) es)) e ∙ values-none comps 0 in
    rw (none, whole) (onward-start 256 (tiles_from (layout_with comps depth count sizes) count 0) xs)

pub placed-none : (comps from : ℕ) (entries : List TileEntry) → entries ≡ [] → ArePlaced comps from entries from
placed-none comps from entries e = rw e refl

-- one entry more
pub all-push : (P : TileEntry → Type 0) (entries : List TileEntry) (entry : TileEntry) → AllByRecursion P entries → P entry → AllByRecursion P (entries ++ entry ∷ [])
all-push P [] entry all h = (h, tt)
all-push P (first ∷ entries) entry all h = (all.0, all-push P entries entry all.1 h)

pub all-none : (P : TileEntry → Type 0) (entries : List TileEntry) → entries ≡ [] → AllByRecursion P entries
all-none P entries e = rw e tt
