-- Values that pass the fields of tiles are those of tiles.
use Rattle.std.proofs.Common.{◌≡◌, ℕ, zero, suc, ◌+◌, ◌-◌, ◌<◌, ◌≤◌, List, [], ◌∷◌, ◌++◌, length, get_or, take, drop, map, refl, sym, ap, ◌∙◌, subst, arith, Option, Some, None, false, ◌||◌, nat_eq, nat_lt, inl, inr, append_assoc, length-append}
use Rattle.std.specs.List.{AllByRecursion}
use Rattle.std.proofs.lemmas.Bool.{ltb-false, eqb-true}
use Rattle.std.proofs.lemmas.List.{length-take-le, take-append-drop, ext_get_or, length-map}
use Rattle.apv_base.specs.declared.rules.Rule.{Rule}
use Rattle.apv_base.specs.declared.rules.Rule.TheVariants.{V14, V18, V20, V21}
use Rattle.apv_base.specs.declared.rules.TileBreak.{TileBreak}
use Rattle.apv_base.specs.model.CodedFrame.{IsTile, tile_size}
use Rattle.apv_base.specs.model.Table.{Table, plain, no_check, must_be_zero}
use Rattle.apv_base.specs.model.Tile.{Layout, Tile, tile_header_size, differs, check_tile_size, check_is, check_data, check_qp, at_tile, tile_field, tile_numbers, tile_fields, tiles_from, tile_values, tiles_values}
use Rattle.apv_base.specs.laws.Table.{Passes}
use Rattle.apv_base.proofs.InfoPartsLemmas.{neither, zero-checked}
use Rattle.apv_base.proofs.PassesLemmas.{field-is, fields-are}
use Rattle.apv_base.proofs.TableLemmas.{chosen}

-- ---- the checks

tile-none : (tile : ℕ) (rule : Option Rule) → at_tile tile rule ≡ None → rule ≡ None
tile-none tile None e = refl
tile-none tile (Some rule) e = absurd (let no : ⊥ = cc in no)

no-rule : {A : Type 0} (rule : Rule) → ◌≡◌ {A = Option Rule} (Some rule) None → A
no-rule rule e = absurd (let no : ⊥ = cc in no)

is-checked : (number value left : ℕ) → check_is number value left ≡ None → value ≡ number
is-checked number value left e = elim (chosen (nat_eq value number) _ _ _ e) [
  | inl t ↦ eqb-true value number t.0
  | inr t ↦ no-rule V21 t.1
]

size-checked : (layout : Layout) (tile size left : ℕ) → check_tile_size layout tile size left ≡ None → (differs layout.sizes tile size ≡ false) × (tile_header_size layout.comps ≤ size)
size-checked layout tile size left e = elim (chosen (differs layout.sizes tile size) _ _ _ e) [
  | inl t ↦ no-rule V18 t.1
  | inr t ↦ elim (chosen (nat_lt size (tile_header_size layout.comps) || nat_lt left size) _ _ _ t.1) [
    | inl u ↦ no-rule V20 u.1
    | inr u ↦ (t.0, ltb-false size (tile_header_size layout.comps) (neither (nat_lt size (tile_header_size layout.comps)) (nat_lt left size) u.0).0)
  ]
]

-- ---- a tile

-- what follows each field of a tile; the break where fewer bytes are left than the tile has
abbrev pub fault : ℕ → TileBreak
fault tile = record { tile = tile; rule = V20 }

abbrev pub data_table : Layout → ℕ → ℕ → Table TileBreak → Table TileBreak
data_table layout tile size next = plain (size - tile_header_size layout.comps) (fault tile) next

abbrev pub qps_next : Layout → ℕ → ℕ → Table TileBreak → List ℕ → Table TileBreak
qps_next layout tile size next qps = tile_field tile 1 (must_be_zero V14) (λ reserved. data_table layout tile size next)

abbrev pub last_next : Layout → ℕ → ℕ → Table TileBreak → ℕ → Table TileBreak
last_next layout tile size next last = tile_numbers tile layout.comps 1 (check_qp layout.depth) (qps_next layout tile size next)

abbrev pub prefix_next : Layout → ℕ → ℕ → Table TileBreak → List ℕ → Table TileBreak
prefix_next layout tile size next prefix = tile_field tile 4 (check_data layout.comps size prefix) (last_next layout tile size next)

abbrev pub index_next : Layout → ℕ → ℕ → Table TileBreak → ℕ → Table TileBreak
index_next layout tile size next index = tile_numbers tile (layout.comps - 1) 4 no_check (prefix_next layout tile size next)

abbrev pub header_size_next : Layout → ℕ → ℕ → Table TileBreak → ℕ → Table TileBreak
header_size_next layout tile size next header_size = tile_field tile 2 (check_is tile) (index_next layout tile size next)

abbrev pub size_next : Layout → ℕ → Table TileBreak → ℕ → Table TileBreak
size_next layout tile next size = tile_field tile 2 (check_is (tile_header_size layout.comps)) (header_size_next layout tile size next)

-- a tile, and the values after it
pub record TileAt (layout : Layout) (number : ℕ) (next : Table TileBreak) (values : List ℕ) (left : ℕ) : Type 0 where
  pub tile : Tile
  pub is : IsTile layout.comps tile
  pub size : differs layout.sizes number (tile_size layout.comps tile) ≡ false
  pub later : List ℕ
  pub all : values ≡ tile_values layout.comps number tile ++ later
  pub passes : Passes 256 next later left

tile-flat : (v l1 l2 l3 p l4 l5 q l6 l7 b later : List ℕ) (size size' hs hs' ix number last z : ℕ) → v ≡ size ∷ l1 → size ≡ size' → l1 ≡ hs ∷ l2 → hs ≡ hs' → l2 ≡ ix ∷ l3 → ix ≡ number → l3 ≡ p ++ l4 → l4 ≡ last ∷ l5 → l5 ≡ q ++ l6 → l6 ≡ z ∷ l7 → z ≡ 0 → l7 ≡ b ++ later
    → v ≡ size' ∷ hs' ∷ number ∷ (p ++ (last ∷ (q ++ (0 ∷ (b ++ later)))))
tile-flat v l1 l2 l3 p l4 l5 q l6 l7 b later size size' hs hs' ix number last z e0 es e1 eh e2 ei e3 e4 e5 e6 ez e7 = cc

pub six : (a b c d e f : List ℕ) → (((((a ++ b) ++ c) ++ d) ++ e) ++ f) ≡ a ++ (b ++ (c ++ (d ++ (e ++ f))))
six a b c d e f = append_assoc ((((a ++ b) ++ c) ++ d)) e f ∙ append_assoc (((a ++ b) ++ c)) d (e ++ f) ∙ append_assoc ((a ++ b)) c (d ++ (e ++ f)) ∙ append_assoc a b (c ++ (d ++ (e ++ f)))

tile-joined : (v p q b later : List ℕ) (size hs number last : ℕ) → v ≡ size ∷ hs ∷ number ∷ (p ++ (last ∷ (q ++ (0 ∷ (b ++ later))))) → v ≡ size ∷ hs ∷ number ∷ (((((p ++ last ∷ []) ++ q) ++ 0 ∷ []) ++ b) ++ later)
tile-joined v p q b later size hs number last e = e ∙ ap (λ (xs : List ℕ). size ∷ hs ∷ number ∷ xs) (sym (six p (last ∷ []) q (0 ∷ []) b later))

-- values that pass the fields of a tile are those of a tile, and others
tile-at : (layout : Layout) (number : ℕ) (next : Table TileBreak) (values : List ℕ) (left : ℕ) → 1 ≤ layout.comps → Passes 256 (tile_fields layout number next) values left → TileAt layout number next values left
tile-at layout number next values left some p =
    let size = field-is 256 4 (fault number) (λ value rest. at_tile number (check_tile_size layout number value rest)) (size_next layout number next) values left p in
    let header_size = field-is 256 2 (fault number) (λ value rest. at_tile number (check_is (tile_header_size layout.comps) value rest)) (header_size_next layout number size.value next) size.later left size.passes in
    let index = field-is 256 2 (fault number) (λ value rest. at_tile number (check_is number value rest)) (index_next layout number size.value next) header_size.later left header_size.passes in
    let prefix = fields-are 256 (layout.comps - 1) 4 (fault number) (λ value rest. at_tile number (no_check value rest)) (prefix_next layout number size.value next) index.later left index.passes in
    let last = field-is 256 4 (fault number) (λ value rest. at_tile number (check_data layout.comps size.value prefix.items value rest)) (last_next layout number size.value next) prefix.later left prefix.passes in
    let qps = fields-are 256 layout.comps 1 (fault number) (λ value rest. at_tile number (check_qp layout.depth value rest)) (qps_next layout number size.value next) last.later left last.passes in
    let blank = field-is 256 1 (fault number) (λ value rest. at_tile number (must_be_zero V14 value rest)) (λ value. data_table layout number size.value next) qps.later left qps.passes in
    let n : ℕ = size.value - tile_header_size layout.comps in
    let bytes : List ℕ = take n blank.later in
    let more : List ℕ = drop n blank.later in
    let sound = size-checked layout number size.value size.after (tile-none number _ size.checked) in
    let long : length bytes ≡ n = length-take-le n blank.later blank.passes.0 in
    let whole : size.value ≡ tile_header_size layout.comps + length bytes = omega (arith, long, sound.1) in
    let all = tile-flat values size.later header_size.later index.later prefix.items prefix.later last.later qps.items qps.later blank.later bytes more size.value (tile_header_size layout.comps + length bytes) header_size.value (tile_header_size layout.comps) index.value number
    last.value blank.value size.all whole header_size.all (is-checked (tile_header_size layout.comps) header_size.value header_size.after (tile-none number _ header_size.checked)) index.all
    (is-checked number index.value index.after (tile-none number _ index.checked)) prefix.all last.all qps.all blank.all (zero-checked V14 blank.value blank.after (tile-none number _ blank.checked)) (sym (take-append-drop n blank.later)) in
    record {
      tile = record { lengths = prefix.items ++ last.value ∷ []; qps = qps.items; bytes = bytes };
      is = record { lengths = omega (arith, length-append prefix.items (last.value ∷ []), prefix.long, some); qps = qps.long };
      size = subst (λ (s : ℕ). differs layout.sizes number s ≡ false) whole sound.0;
      later = more;
      all = tile-joined values prefix.items qps.items bytes more (tile_header_size layout.comps + length bytes) (tile_header_size layout.comps) number last.value all;
      passes = blank.passes.1;
    }

-- ---- tiles

-- tiles from a number on, whose sizes are those that are stated
pub record TilesAre (layout : Layout) (count number : ℕ) (values : List ℕ) : Type 0 where
  pub tiles : List Tile
  pub each : AllByRecursion (IsTile layout.comps) tiles
  pub long : length tiles ≡ count
  pub all : values ≡ tiles_values layout.comps number tiles
  pub sizes : (i k : ℕ) → k ≡ number + i → i < count → differs layout.sizes k (get_or (map (tile_size layout.comps) tiles) i 0) ≡ false

stated-more : (layout : Layout) (count number : ℕ) (tile : Tile) (tiles : List Tile) → differs layout.sizes number (tile_size layout.comps tile) ≡ false
    → ((i k : ℕ) → k ≡ suc number + i → i < count → differs layout.sizes k (get_or (map (tile_size layout.comps) tiles) i 0) ≡ false) → (i k : ℕ) → k ≡ number + i → i < suc count
    → differs layout.sizes k (get_or (map (tile_size layout.comps) (tile ∷ tiles)) i 0) ≡ false
stated-more layout count number tile tiles here later zero k e lt = let same : number ≡ k = omega arith in subst (λ (n : ℕ). differs layout.sizes n (tile_size layout.comps tile) ≡ false) same here
stated-more layout count number tile tiles here later (suc i) k e lt = later i k (omega arith) (omega arith)

-- values that pass the fields of tiles are those of tiles
pub tiles-are : (layout : Layout) (count number : ℕ) (values : List ℕ) (left : ℕ) → 1 ≤ layout.comps → Passes 256 (tiles_from layout count number) values left → TilesAre layout count number values
unfolding tiles_from tiles_values
tiles-are layout zero number values left some p = record { tiles = []; each = tt; long = refl; all = p; sizes = λ i k e lt. absurd (omega arith) }
tiles-are layout (suc count) number values left some p =
    let t = tile-at layout number (tiles_from layout count (suc number)) values left some p in
    let more = tiles-are layout count (suc number) t.later left some t.passes in
    record {
      tiles = t.tile ∷ more.tiles;
      each = (t.is, more.each);
      long = ap suc more.long;
      all = t.all ∙ ap (λ (xs : List ℕ). tile_values layout.comps number t.tile ++ xs) more.all;
      sizes = stated-more layout count number t.tile more.tiles t.size more.sizes;
    }

-- a size that doesn't differ is the stated one
same-size : (sizes : List ℕ) (tile size : ℕ) → differs (Some sizes) tile size ≡ false → get_or sizes tile 0 ≡ size
same-size sizes tile size e =
    let within = neither (nat_lt (get_or sizes tile 0) size) (nat_lt size (get_or sizes tile 0)) e in
    omega (arith, ltb-false (get_or sizes tile 0) size within.0, ltb-false size (get_or sizes tile 0) within.1)

-- the sizes that are stated are those of the tiles
pub sizes-same : (comps depth count : ℕ) (sizes : List ℕ) (values : List ℕ) → length sizes ≡ count → (t : TilesAre (record { comps = comps; depth = depth; count = count; sizes = Some sizes }) count 0 values) → sizes ≡ map (tile_size comps) t.tiles
sizes-same comps depth count sizes values len t =
    ext_get_or 0 sizes (map (tile_size comps) t.tiles) (len ∙ sym t.long ∙ sym (length-map t.tiles (tile_size comps)))
    (λ i lt. same-size sizes i (get_or (map (tile_size comps) t.tiles) i 0) (t.sizes i i (omega arith) (omega (arith, lt, len))))
