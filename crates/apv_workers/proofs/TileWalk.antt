-- What a walk over the tiles of a frame says of their data and their QPs.
use Rattle.std.proofs.Common.{◌≡◌, ℕ, zero, suc, ◌+◌, ◌-◌, ◌≤◌, List, [], ◌∷◌, ◌++◌, length, take, drop, refl, sym, ap, ◌∙◌, subst, arith, Option, Some, None, Result, Ok, nat_lt, inl, inr, length-append, Bool, true, false, cond}
use Rattle.std.specs.List.{AllByRecursion, sum}
use Rattle.std.proofs.lemmas.Bool.{ltb-false}
use Rattle.std.proofs.lemmas.List.{length-take-le}
use Rattle.apv_base.proofs.CodedFrameLemmas.{append-parts}
use Rattle.apv_base.proofs.FoundTilesLemmas.{six, fault, data_table, qps_next, last_next, prefix_next, index_next, header_size_next, size_next}
use Rattle.apv_header.proofs.NumbersLemmas.{sum-push}
use Rattle.apv_base.specs.declared.rules.Rule.{Rule}
use Rattle.apv_base.specs.declared.rules.Rule.TheVariants.{V14, V22, V24}
use Rattle.apv_base.specs.declared.rules.TileBreak.{TileBreak}
use Rattle.apv_base.specs.model.Bits.{number}
use Rattle.apv_base.specs.model.CodedFrame.{IsTile}
use Rattle.apv_base.specs.model.Quant.{max_qp}
use Rattle.apv_base.specs.model.Table.{Table, field, plain, fields, walk, with_values, no_check, must_be_zero}
use Rattle.apv_base.specs.model.Tile.{Layout, Tile, tile_header_size, check_tile_size, check_is, check_data, check_qp, at_tile, tile_fields, tiles_from, tile_values, tiles_values}
use Rattle.apv_base.proofs.TableLemmas.{chosen, unless_fault-Ok, with_values-Ok}

-- ---- one field, and fields one after another, whose values are known

-- the check of the value finds no fault, and the fields after it give the values after it
record Walked {E : Type 0} (r : ℕ) (check : Option E) (next : Table E) (later rest : List ℕ) : Type 0 where
  checked : check ≡ None
  ys : List ℕ
  walked : ◌≡◌ {A = Result (List ℕ × List ℕ) E} (walk r next ys) (Ok (later, rest))

heads : (a b : ℕ) (xs ys : List ℕ) → a ∷ xs ≡ b ∷ ys → (a ≡ b) × (xs ≡ ys)
heads a b xs ys e = (cc, cc)

field-walked : {E : Type 0} (r n : ℕ) (short : E) (check : ℕ → ℕ → Option E) (next : ℕ → Table E) (xs : List ℕ) (value : ℕ) (later rest : List ℕ) → ◌≡◌ {A = Result (List ℕ × List ℕ) E} (walk r (field n short check next) xs) (Ok (value ∷ later, rest))
    → (left : ℕ) × Walked r (check value left) (next value) later rest
unfolding walk
field-walked {E} r n short check next xs value later rest e = elim (chosen (nat_lt (length xs) n) _ _ _ e) [
  | inl t ↦ absurd (let no : ⊥ = cc (t.1) in no)
  | inr t ↦ (let found : ℕ = number r (take n xs) in
      let sound = unless_fault-Ok (check found (length xs - n)) (with_values (found ∷ []) (walk r (next found) (drop n xs))) (value ∷ later, rest) t.1 in
      let b = with_values-Ok (found ∷ []) (walk r (next found) (drop n xs)) (value ∷ later) rest sound.1 in
      let same = heads value found later b.later b.all in
      let P : ℕ → Type 0 = λ v. Walked r (check v (length xs - n)) (next v) later rest in
      (length xs - n, subst P (sym same.0) (record { checked = sound.0; ys = drop n xs; walked = b.is ∙ ap (λ (l : List ℕ). Ok (l, rest)) (sym same.1) })))
]

-- the check of each value finds no fault
record AllWalked {E : Type 0} (r : ℕ) (check : ℕ → ℕ → Option E) (items : List ℕ) (next : Table E) (later rest : List ℕ) : Type 0 where
  each : AllByRecursion (λ value. (left : ℕ) × (check value left ≡ None)) items
  ys : List ℕ
  walked : ◌≡◌ {A = Result (List ℕ × List ℕ) E} (walk r next ys) (Ok (later, rest))

fields-walked : {E : Type 0} (r n : ℕ) (short : E) (check : ℕ → ℕ → Option E) (next : List ℕ → Table E) (count : ℕ) (xs items later rest : List ℕ) → length items ≡ count → ◌≡◌ {A = Result (List ℕ × List ℕ) E} (walk r (fields count n short check next) xs) (Ok (items ++ later, rest))
    → AllWalked r check items (next items) later rest
unfolding fields
fields-walked r n short check next zero xs [] later rest len e = record { each = tt; ys = xs; walked = e }
fields-walked r n short check next zero xs (item ∷ items) later rest len e = absurd (omega arith)
fields-walked r n short check next (suc count) xs [] later rest len e = absurd (omega arith)
fields-walked r n short check next (suc count) xs (item ∷ items) later rest len e =
    let f = field-walked r n short check (λ value. fields count n short check (λ values. next (value ∷ values))) xs item (items ++ later) rest e in
    let more = fields-walked r n short check (λ values. next (item ∷ values)) count f.1.ys items later rest (omega arith) f.1.walked in
    record { each = ((f.0, f.1.checked), more.each); ys = more.ys; walked = more.walked }

plain-walked : {E : Type 0} (r n : ℕ) (short : E) (next : Table E) (xs items later rest : List ℕ) → length items ≡ n → ◌≡◌ {A = Result (List ℕ × List ℕ) E} (walk r (plain n short next) xs) (Ok (items ++ later, rest))
    → (ys : List ℕ) × (◌≡◌ {A = Result (List ℕ × List ℕ) E} (walk r next ys) (Ok (later, rest)))
unfolding walk
plain-walked {E} r n short next xs items later rest len e = elim (chosen (nat_lt (length xs) n) _ _ _ e) [
  | inl t ↦ absurd (let no : ⊥ = cc (t.1) in no)
  | inr t ↦ (let b = with_values-Ok (take n xs) (walk r next (drop n xs)) (items ++ later) rest t.1 in
      let long : length (take n xs) ≡ n = length-take-le n xs (ltb-false (length xs) n t.0) in
      let parts = append-parts items (take n xs) later b.later (len ∙ sym long) b.all in
      (drop n xs, b.is ∙ ap (λ (l : List ℕ). Ok (l, rest)) (sym parts.1)))
]

-- ---- the checks of a tile

no-fault : (tile : ℕ) (rule : Option Rule) → at_tile tile rule ≡ None → rule ≡ None
no-fault tile None e = refl
no-fault tile (Some rule) e = absurd (let no : ⊥ = cc in no)

-- a check that finds no fault by a condition
not-chosen : (tile : ℕ) (b : Bool) (rule : Rule) → at_tile tile (cond b (Some rule) None) ≡ None → b ≡ false
not-chosen tile true rule e = absurd (let no : ⊥ = cc in no)
not-chosen tile false rule e = refl

-- the data of a tile are inside it, and its QPs are at most the maximum
pub record IsTileWithin (depth : ℕ) (tile : Tile) : Type 0 where
  pub bytes : sum tile.lengths ≤ length tile.bytes
  pub qps : AllByRecursion (λ qp. qp ≤ max_qp depth) tile.qps

qps-within : (tile depth : ℕ) (qps : List ℕ) → AllByRecursion (λ qp. (left : ℕ) × (at_tile tile (check_qp depth qp left) ≡ None)) qps → AllByRecursion (λ qp. qp ≤ max_qp depth) qps
qps-within tile depth [] all = tt
qps-within tile depth (qp ∷ qps) all = (ltb-false (max_qp depth) qp (not-chosen tile (nat_lt (max_qp depth) qp) V22 all.0.1), qps-within tile depth qps all.1)

-- a list but for its last item, and the last
pub record Last (xs : List ℕ) : Type 0 where
  pub prefix : List ℕ
  pub last : ℕ
  pub all : xs ≡ prefix ++ last ∷ []

pub last-of : (xs : List ℕ) → 1 ≤ length xs → Last xs
last-of [] some = absurd (omega arith)
last-of (x ∷ []) some = record { prefix = []; last = x; all = refl }
last-of (x ∷ y ∷ xs) some =
    let more = last-of (y ∷ xs) (omega arith) in
    record { prefix = x ∷ more.prefix; last = more.last; all = ap (λ (l : List ℕ). x ∷ l) more.all }

-- the tile is within, and the walk goes on after it
record PastTile (depth : ℕ) (tile : Tile) (next : Table TileBreak) (later rest : List ℕ) : Type 0 where
  within : IsTileWithin depth tile
  ys : List ℕ
  walked : ◌≡◌ {A = Result (List ℕ × List ℕ) TileBreak} (walk 256 next ys) (Ok (later, rest))

past-tile : (layout : Layout) (index : ℕ) (next : Table TileBreak) (xs : List ℕ) (tile : Tile) (later rest : List ℕ) → 1 ≤ layout.comps → IsTile layout.comps tile
    → ◌≡◌ {A = Result (List ℕ × List ℕ) TileBreak} (walk 256 (tile_fields layout index next) xs) (Ok (tile_values layout.comps index tile ++ later, rest)) → PastTile layout.depth tile next later rest
past-tile layout index next xs tile later rest some is e =
    let hs : ℕ = tile_header_size layout.comps in
    let size : ℕ = hs + length tile.bytes in
    let split = last-of tile.lengths (omega (arith, is.lengths, some)) in
    let p : List ℕ = split.prefix in
    let l : ℕ = split.last in
    let count : length p ≡ layout.comps - 1 = omega (arith, ap length split.all, length-append p (l ∷ []), is.lengths) in
    let total : sum tile.lengths ≡ sum p + l = ap sum split.all ∙ sum-push p l in
    let values : tile_values layout.comps index tile ++ later ≡ size ∷ hs ∷ index ∷ (p ++ (l ∷ (tile.qps ++ (0 ∷ (tile.bytes ++ later))))) =
    ap (λ (ls : List ℕ). size ∷ hs ∷ index ∷ ((((ls ++ tile.qps) ++ 0 ∷ []) ++ tile.bytes) ++ later)) split.all
    ∙ ap (λ (vs : List ℕ). size ∷ hs ∷ index ∷ vs) (six p (l ∷ []) tile.qps (0 ∷ []) tile.bytes later) in
    let e0 : ◌≡◌ {A = Result (List ℕ × List ℕ) TileBreak} (walk 256 (tile_fields layout index next) xs) (Ok (size ∷ hs ∷ index ∷ (p ++ (l ∷ (tile.qps ++ (0 ∷ (tile.bytes ++ later))))), rest)) =
    e ∙ ap (λ (vs : List ℕ). Ok (vs, rest)) values in
    let a = field-walked 256 4 (fault index) (λ value left. at_tile index (check_tile_size layout index value left)) (size_next layout index next) xs size (hs ∷ index ∷ (p ++ (l ∷ (tile.qps ++ (0 ∷ (tile.bytes ++ later)))))) rest e0 in
    let b = field-walked 256 2 (fault index) (λ value left. at_tile index (check_is hs value left)) (header_size_next layout index size next) a.1.ys hs (index ∷ (p ++ (l ∷ (tile.qps ++ (0 ∷ (tile.bytes ++ later)))))) rest a.1.walked in
    let c = field-walked 256 2 (fault index) (λ value left. at_tile index (check_is index value left)) (index_next layout index size next) b.1.ys index (p ++ (l ∷ (tile.qps ++ (0 ∷ (tile.bytes ++ later))))) rest b.1.walked in
    let d = fields-walked 256 4 (fault index) (λ value left. at_tile index (no_check value left)) (prefix_next layout index size next) (layout.comps - 1) c.1.ys p (l ∷ (tile.qps ++ (0 ∷ (tile.bytes ++ later)))) rest count c.1.walked in
    let f = field-walked 256 4 (fault index) (λ value left. at_tile index (check_data layout.comps size p value left)) (last_next layout index size next) d.ys l (tile.qps ++ (0 ∷ (tile.bytes ++ later))) rest d.walked in
    let g = fields-walked 256 1 (fault index) (λ value left. at_tile index (check_qp layout.depth value left)) (qps_next layout index size next) layout.comps f.1.ys tile.qps (0 ∷ (tile.bytes ++ later)) rest is.qps f.1.walked in
    let h = field-walked 256 1 (fault index) (λ value left. at_tile index (must_be_zero V14 value left)) (λ reserved. data_table layout index size next) g.ys 0 (tile.bytes ++ later) rest g.walked in
    let len : length tile.bytes ≡ size - hs = omega arith in
    let i = plain-walked 256 (size - hs) (fault index) next h.1.ys tile.bytes later rest len h.1.walked in
    let room : sum p + l ≤ size - hs = ltb-false (size - hs) (sum p + l) (not-chosen index (nat_lt (size - hs) (sum p + l)) V24 f.1.checked) in
    record {
      within = record { bytes = omega (arith, total, room, len); qps = qps-within index layout.depth tile.qps g.each };
      ys = i.0;
      walked = i.1;
    }

-- of a walk that gives the values of tiles, each tile is within
pub tiles-within : (layout : Layout) (count first : ℕ) (xs : List ℕ) (tiles : List Tile) (rest : List ℕ) → 1 ≤ layout.comps → length tiles ≡ count → AllByRecursion (IsTile layout.comps) tiles
    → ◌≡◌ {A = Result (List ℕ × List ℕ) TileBreak} (walk 256 (tiles_from layout count first) xs) (Ok (tiles_values layout.comps first tiles, rest)) → AllByRecursion (IsTileWithin layout.depth) tiles
unfolding tiles_from tiles_values
tiles-within layout zero first xs [] rest some len is e = tt
tiles-within layout zero first xs (tile ∷ tiles) rest some len is e = absurd (omega arith)
tiles-within layout (suc count) first xs [] rest some len is e = absurd (omega arith)
tiles-within layout (suc count) first xs (tile ∷ tiles) rest some len is e =
    let past = past-tile layout first (tiles_from layout count (suc first)) xs tile (tiles_values layout.comps (suc first) tiles) rest some is.0 e in
    (past.within, tiles-within layout count (suc first) past.ys tiles rest some (omega arith) is.1 past.walked)
