-- The values of tiles that fit pass the fields of tiles.
use Rattle.std.proofs.Common.{◌≡◌, ℕ, zero, suc, ◌+◌, ◌-◌, ◌*◌, ◌^◌, ◌<◌, ◌≤◌, List, [], ◌∷◌, ◌++◌, length, get_or, map, take, drop, refl, sym, ap, ◌∙◌, subst, arith, lit<, None, Bool, true, false, cond, ◌||◌, nat_lt, nat_eq, length-append}
use Rattle.std.specs.List.{AllByRecursion, sum}
use Rattle.std.proofs.lemmas.Bool.{le-ltb, eq-eqb}
use Rattle.std.proofs.lemmas.List.{take_at, drop_at}
use Rattle.std.proofs.lemmas.List.Sums.{sum_by-cons}
use Rattle.apv_base.specs.declared.rules.Rule.TheVariants.{V14}
use Rattle.apv_base.specs.declared.rules.TileBreak.{TileBreak}
use Rattle.apv_base.specs.model.CodedFrame.{tile_size}
use Rattle.apv_base.specs.model.Quant.{max_qp}
use Rattle.apv_base.specs.model.Table.{Table, spell, no_check, must_be_zero}
use Rattle.apv_base.specs.model.Tile.{Layout, Tile, tile_header_size, differs, check_tile_size, check_is, check_data, check_qp, at_tile, tile_fields, tiles_from, tile_values, tiles_values}
use Rattle.apv_base.specs.laws.Table.{Passes}
use Rattle.apv_base.proofs.FoundTilesLemmas.{six, fault, data_table, qps_next, last_next, prefix_next, index_next, header_size_next, size_next}
use Rattle.apv_laws.specs.Fits.{FitsTile}
use Rattle.apv_laws.proofs.SpelledFieldLemmas.{FitsField, length-field, pass-field, pass-fields, length-fields, all-more}

-- ---- the checks

if-false : {X : Type 0} (b : Bool) (x y : X) → b ≡ false → cond b x y ≡ y
if-false b x y e = rw e refl

if-true : {X : Type 0} (b : Bool) (x y : X) → b ≡ true → cond b x y ≡ x
if-true b x y e = rw e refl

or-neither : (a b : Bool) → a ≡ false → b ≡ false → (a || b) ≡ false
or-neither a b e f = rw (e, f) refl

is-fits : (number value left : ℕ) → value ≡ number → check_is number value left ≡ None
is-fits number value left e = if-true (nat_eq value number) _ _ (eq-eqb value number e)

size-fits : (layout : Layout) (tile size left : ℕ) → differs layout.sizes tile size ≡ false → tile_header_size layout.comps ≤ size → size ≤ left → check_tile_size layout tile size left ≡ None
size-fits layout tile size left same low high =
    if-false (differs layout.sizes tile size) _ _ same
    ∙ if-false (nat_lt size (tile_header_size layout.comps) || nat_lt left size) _ _ (or-neither (nat_lt size (tile_header_size layout.comps)) (nat_lt left size) (le-ltb size (tile_header_size layout.comps) low) (le-ltb left size high))

data-fits : (comps size : ℕ) (prefix : List ℕ) (last left : ℕ) → sum prefix + last ≤ size - tile_header_size comps → check_data comps size prefix last left ≡ None
data-fits comps size prefix last left le = if-false (nat_lt (size - tile_header_size comps) (sum prefix + last)) _ _ (le-ltb (size - tile_header_size comps) (sum prefix + last) le)

qp-fits : (tile depth qp : ℕ) → depth ≤ 12 → qp ≤ max_qp depth → FitsField 256 1 (λ value left. at_tile tile (check_qp depth value left)) qp
qp-fits tile depth qp high le = record {
  below = omega (arith, high, le);
  checked = λ left. ap (at_tile tile) (if-false (nat_lt (max_qp depth) qp) _ _ (le-ltb (max_qp depth) qp le));
}

-- ---- lists

-- a list of one at least has a last item
record LastOf (n : ℕ) (xs : List ℕ) : Type 0 where
  prefix : List ℕ
  last : ℕ
  all : xs ≡ prefix ++ last ∷ []
  long : length prefix ≡ n

last-more : (n x : ℕ) (xs : List ℕ) → LastOf n xs → LastOf (suc n) (x ∷ xs)
last-more n x xs l = record { prefix = x ∷ l.prefix; last = l.last; all = ap (λ (ys : List ℕ). x ∷ ys) l.all; long = ap suc l.long }

last-of : (n : ℕ) (xs : List ℕ) → length xs ≡ suc n → LastOf n xs
last-of n [] e = absurd (omega arith)
last-of zero (x ∷ []) e = record { prefix = []; last = x; all = refl; long = refl }
last-of zero (x ∷ (y ∷ xs)) e = absurd (omega arith)
last-of (suc n) (x ∷ xs) e = last-more n x xs (last-of n xs (omega arith))

sum-cons : (x : ℕ) (xs : List ℕ) → sum (x ∷ xs) ≡ x + sum xs
sum-cons x xs = sum_by-cons (λ (y : ℕ). y) x xs

regrouped : (x s last total : ℕ) → total ≡ x + s → x + (s + last) ≡ total + last
regrouped x s last total e = omega arith

sum-last : (prefix : List ℕ) (last : ℕ) → sum (prefix ++ last ∷ []) ≡ sum prefix + last
sum-last [] last = omega arith
sum-last (x ∷ prefix) last = sum-cons x (prefix ++ last ∷ []) ∙ ap (λ (k : ℕ). x + k) (sum-last prefix last) ∙ regrouped x (sum prefix) last (sum (x ∷ prefix)) (sum-cons x prefix)

within-total : (x s total bound : ℕ) → total ≡ x + s → total ≤ bound → (x ≤ bound) × (s ≤ bound)
within-total x s total bound e le = (omega arith, omega arith)

below-sum : (bound : ℕ) (xs : List ℕ) → sum xs ≤ bound → AllByRecursion (λ (x : ℕ). x ≤ bound) xs
below-sum bound [] le = tt
below-sum bound (x ∷ xs) le = let parts = within-total x (sum xs) (sum (x ∷ xs)) bound (sum-cons x xs) le in (parts.0, below-sum bound xs parts.1)

-- ---- a tile

first-part : (total a b n : ℕ) → total ≡ a + b → a ≡ n → n ≤ total
first-part total a b n e f = omega arith

tile-sum : (comps len n0 n1 n2 n3 n4 n5 n6 : ℕ) → n0 ≡ 2 + n1 → n1 ≡ 2 + n2 → n2 ≡ 4 * (comps - 1) + n3 → n3 ≡ 4 + n4 → n4 ≡ 1 * comps + n5 → n5 ≡ 1 + n6 → len ≤ n6 → 1 ≤ comps → 5 * comps + 5 + len ≤ n0
tile-sum comps len n0 n1 n2 n3 n4 n5 n6 e0 e1 e2 e3 e4 e5 le some = omega arith

-- the bytes of a tile after its size
plain-long : (layout : Layout) (tile size : ℕ) (next : Table TileBreak) (bytes later : List ℕ) → length bytes ≡ size - tile_header_size layout.comps → length bytes ≤ length (spell 256 (data_table layout tile size next) (bytes ++ later))
unfolding spell
plain-long layout tile size next bytes later len =
    let n : ℕ = size - tile_header_size layout.comps in
    first-part _ _ _ _ (length-append (take n (bytes ++ later)) (spell 256 next (drop n (bytes ++ later)))) (ap (length {A = ℕ}) (take_at bytes later n len))

after-size : (layout : Layout) (tile size : ℕ) (next : Table TileBreak) (prefix : List ℕ) (last : ℕ) (qps bytes later : List ℕ) → 1 ≤ layout.comps → length prefix ≡ layout.comps - 1 → length qps ≡ layout.comps → length bytes ≡ size - tile_header_size layout.comps
    → tile_header_size layout.comps + length bytes ≤ length (spell 256 (size_next layout tile next size) (tile_header_size layout.comps ∷ tile ∷ (prefix ++ (last ∷ (qps ++ (0 ∷ (bytes ++ later)))))))
after-size layout tile size next prefix last qps bytes later some pre qs len =
    let from_zero : List ℕ = 0 ∷ (bytes ++ later) in
    let from_last : List ℕ = last ∷ (qps ++ from_zero) in
    tile-sum layout.comps (length bytes) _ _ _ _ _ _ _
    (length-field 256 2 (fault tile) (λ value rest. at_tile tile (check_is (tile_header_size layout.comps) value rest)) (header_size_next layout tile size next) (tile_header_size layout.comps) (tile ∷ (prefix ++ from_last)))
    (length-field 256 2 (fault tile) (λ value rest. at_tile tile (check_is tile value rest)) (index_next layout tile size next) tile (prefix ++ from_last))
    (length-fields 256 (layout.comps - 1) 4 (fault tile) (λ value rest. at_tile tile (no_check value rest)) (prefix_next layout tile size next) prefix from_last pre)
    (length-field 256 4 (fault tile) (λ value rest. at_tile tile (check_data layout.comps size prefix value rest)) (last_next layout tile size next) last (qps ++ from_zero))
    (length-fields 256 layout.comps 1 (fault tile) (λ value rest. at_tile tile (check_qp layout.depth value rest)) (qps_next layout tile size next) qps from_zero qs)
    (length-field 256 1 (fault tile) (λ value rest. at_tile tile (must_be_zero V14 value rest)) (λ value. data_table layout tile size next) 0 (bytes ++ later)) (plain-long layout tile size next bytes later len) some

-- a tile by its parts
record TileParts (layout : Layout) (number size : ℕ) (prefix : List ℕ) (last : ℕ) (qps bytes : List ℕ) : Type 0 where
  some : 1 ≤ layout.comps
  few : layout.comps ≤ 4
  depth : layout.depth ≤ 12
  index : number < 2 ^ 16
  pre : length prefix ≡ layout.comps - 1
  qs : length qps ≡ layout.comps
  whole : size ≡ tile_header_size layout.comps + length bytes
  small : size < 2 ^ 32
  lengths : AllByRecursion (λ (x : ℕ). x ≤ length bytes) prefix
  last_small : last ≤ length bytes
  data_fits : sum prefix + last ≤ length bytes
  permitted : AllByRecursion (λ (qp : ℕ). qp ≤ max_qp layout.depth) qps
  same : differs layout.sizes number size ≡ false

room-enough : (size long left total : ℕ) → size ≡ total → total ≤ long → size ≤ long + left
room-enough size long left total e le = omega arith

pass-flat : (layout : Layout) (number size : ℕ) (next : Table TileBreak) (prefix : List ℕ) (last : ℕ) (qps bytes later : List ℕ) (left : ℕ) → TileParts layout number size prefix last qps bytes → Passes 256 next later left
    → Passes 256 (tile_fields layout number next) (size ∷ tile_header_size layout.comps ∷ number ∷ (prefix ++ (last ∷ (qps ++ (0 ∷ (bytes ++ later)))))) left
pass-flat layout number size next prefix last qps bytes later left t p =
    let rest : ℕ = size - tile_header_size layout.comps in
    let len : length bytes ≡ rest = omega (arith, t.whole) in
    let header_size : ℕ = tile_header_size layout.comps in
    let from_zero : List ℕ = 0 ∷ (bytes ++ later) in
    let from_last : List ℕ = last ∷ (qps ++ from_zero) in
    let room = after-size layout number size next prefix last qps bytes later t.some t.pre t.qs len in
    let pass_data : Passes 256 (data_table layout number size next) (bytes ++ later) left = (omega (arith, length-append bytes later, len), subst (λ (vs : List ℕ). Passes 256 next vs left) (sym (drop_at bytes later rest len)) p) in
    let pass_zero = pass-field 256 1 (fault number) (λ value more. at_tile number (must_be_zero V14 value more)) (λ value. data_table layout number size next) 0 (bytes ++ later) left (record { below = lit< tt; checked = λ more. refl }) pass_data in
    let pass_qps = pass-fields 256 layout.comps 1 (fault number) (λ value more. at_tile number (check_qp layout.depth value more)) (qps_next layout number size next) qps from_zero left t.qs
    (all-more (λ (qp : ℕ). qp ≤ max_qp layout.depth) (FitsField 256 1 (λ value more. at_tile number (check_qp layout.depth value more))) qps (λ qp le. qp-fits number layout.depth qp t.depth le) t.permitted) pass_zero in
    let pass_last = pass-field 256 4 (fault number) (λ value more. at_tile number (check_data layout.comps size prefix value more)) (last_next layout number size next) last (qps ++ from_zero) left
    (record { below = omega (arith, t.last_small, t.whole, t.small); checked = λ more. ap (at_tile number) (data-fits layout.comps size prefix last more (omega (arith, t.data_fits, len))) }) pass_qps in
    let pass_prefix = pass-fields 256 (layout.comps - 1) 4 (fault number) (λ value more. at_tile number (no_check value more)) (prefix_next layout number size next) prefix from_last left t.pre
    (all-more (λ (x : ℕ). x ≤ length bytes) (FitsField 256 4 (λ value more. at_tile number (no_check value more))) prefix (λ x le. record { below = omega (arith, le, t.whole, t.small); checked = λ more. refl }) t.lengths) pass_last in
    let pass_index = pass-field 256 2 (fault number) (λ value more. at_tile number (check_is number value more)) (index_next layout number size next) number (prefix ++ from_last) left
    (record { below = omega (arith, t.index); checked = λ more. ap (at_tile number) (is-fits number number more refl) }) pass_prefix in
    let pass_header_size = pass-field 256 2 (fault number) (λ value more. at_tile number (check_is header_size value more)) (header_size_next layout number size next) header_size (number ∷ (prefix ++ from_last)) left
    (record { below = omega (arith, t.few); checked = λ more. ap (at_tile number) (is-fits header_size header_size more refl) }) pass_index in
    let after : ℕ = length (spell 256 (size_next layout number next size) (header_size ∷ number ∷ (prefix ++ from_last))) + left in
    let fits : check_tile_size layout number size after ≡ None = size-fits layout number size after t.same (omega (arith, t.whole)) (room-enough size _ left (tile_header_size layout.comps + length bytes) t.whole room) in
    (refl, omega (arith, t.small), ap (at_tile number) fits, pass_header_size)

tile-flat : (p q b later : List ℕ) (size hs number last : ℕ) → size ∷ hs ∷ number ∷ (p ++ (last ∷ (q ++ (0 ∷ (b ++ later))))) ≡ size ∷ hs ∷ number ∷ (((((p ++ last ∷ []) ++ q) ++ 0 ∷ []) ++ b) ++ later)
tile-flat p q b later size hs number last = ap (λ (xs : List ℕ). size ∷ hs ∷ number ∷ xs) (sym (six p (last ∷ []) q (0 ∷ []) b later))

-- the values of a tile, where its lengths are these
tile-spelled : (comps number : ℕ) (tile : Tile) (prefix : List ℕ) (last : ℕ) (later : List ℕ) → tile.lengths ≡ prefix ++ last ∷ []
    → (tile_header_size comps + length tile.bytes) ∷ tile_header_size comps ∷ number ∷ (prefix ++ (last ∷ (tile.qps ++ (0 ∷ (tile.bytes ++ later))))) ≡ tile_values comps number tile ++ later
tile-spelled comps number tile prefix last later e =
    tile-flat prefix tile.qps tile.bytes later (tile_header_size comps + length tile.bytes) (tile_header_size comps) number last
    ∙ ap (λ (xs : List ℕ). (tile_header_size comps + length tile.bytes) ∷ tile_header_size comps ∷ number ∷ ((((xs ++ tile.qps) ++ 0 ∷ []) ++ tile.bytes) ++ later)) (sym e)

pub pass-tile : (layout : Layout) (number : ℕ) (next : Table TileBreak) (tile : Tile) (later : List ℕ) (left : ℕ) → 1 ≤ layout.comps → layout.comps ≤ 4 → layout.depth ≤ 12 → number < 2 ^ 16 → FitsTile layout.comps layout.depth tile
    → differs layout.sizes number (tile_size layout.comps tile) ≡ false → Passes 256 next later left → Passes 256 (tile_fields layout number next) (tile_values layout.comps number tile ++ later) left
pass-tile layout number next tile later left some few depth index fits same p =
    let l = last-of (layout.comps - 1) tile.lengths (omega (arith, fits.is.lengths, some)) in
    let total : sum l.prefix + l.last ≤ length tile.bytes = omega (arith, sum-last l.prefix l.last, ap sum l.all, fits.lengths) in
    let parts : TileParts layout number (tile_header_size layout.comps + length tile.bytes) l.prefix l.last tile.qps tile.bytes = record {
      some = some;
      few = few;
      depth = depth;
      index = index;
      pre = l.long;
      qs = fits.is.qps;
      whole = refl;
      small = fits.size;
      lengths = below-sum (length tile.bytes) l.prefix (omega (arith, total));
      last_small = omega (arith, total);
      data_fits = total;
      permitted = fits.qps;
      same = same;
    } in
    subst (λ (vs : List ℕ). Passes 256 (tile_fields layout number next) vs left) (tile-spelled layout.comps number tile l.prefix l.last later l.all)
    (pass-flat layout number (tile_header_size layout.comps + length tile.bytes) next l.prefix l.last tile.qps tile.bytes later left parts p)

-- ---- tiles

-- none of the tiles from a number on differs from what is stated
abbrev pub AreStated : Layout → ℕ → List Tile → Type 0
AreStated layout number tiles = (i k : ℕ) → k ≡ number + i → i < length tiles → differs layout.sizes k (get_or (map (tile_size layout.comps) tiles) i 0) ≡ false

pub pass-tiles : (layout : Layout) (count number : ℕ) (tiles : List Tile) (left : ℕ) → 1 ≤ layout.comps → layout.comps ≤ 4 → layout.depth ≤ 12 → length tiles ≡ count → number + count ≤ 2 ^ 16 → AllByRecursion (FitsTile layout.comps layout.depth) tiles
    → AreStated layout number tiles → Passes 256 (tiles_from layout count number) (tiles_values layout.comps number tiles) left
unfolding tiles_from tiles_values
pass-tiles layout zero number [] left some few depth len index all same = refl
pass-tiles layout zero number (tile ∷ tiles) left some few depth len index all same = absurd (omega arith)
pass-tiles layout (suc count) number [] left some few depth len index all same = absurd (omega arith)
pass-tiles layout (suc count) number (tile ∷ tiles) left some few depth len index all same =
    let more = pass-tiles layout count (suc number) tiles left some few depth (omega arith) (omega (arith, index)) all.1 (λ i k e lt. same (suc i) k (omega arith) (omega arith)) in
    pass-tile layout number (tiles_from layout count (suc number)) tile (tiles_values layout.comps (suc number) tiles) left some few depth (omega (arith, index)) all.0 (same 0 number (omega arith) (omega arith)) more
