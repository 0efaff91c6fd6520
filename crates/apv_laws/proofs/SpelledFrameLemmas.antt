-- A frame that fits is read back from its bytes.
use Rattle.std.proofs.Common.{◌≡◌, ℕ, ◌-◌, ◌/◌, ◌^◌, ◌<◌, ◌≤◌, List, [], ◌∷◌, ◌++◌, length, get_or, map, replicate, refl, sym, ap, ◌∙◌, arith, lit<, lit≤, None, Ok, Bool, true, false, if◌then◌else◌, ◌||◌, nat_lt, inl, inr, append-nil, length-append}
use Rattle.std.specs.List.{AllByRecursion}
use Rattle.std.proofs.lemmas.Bool.{le-ltb, ltb-false}
use Rattle.std.proofs.lemmas.List.{drop_at, length-map}
use Rattle.std.proofs.lemmas.Nat.{mul-le}
use Rattle.apv_base.specs.declared.format.Chroma.{Chroma}
use Rattle.apv_base.specs.declared.format.Chroma.TheVariants.{C400, C422, C444, C4444}
use Rattle.apv_base.specs.model.Bits.{bits, padding, AreDigits}
use Rattle.apv_base.specs.model.CodedFrame.{CodedFrame, IsTile, HasFrame, stated_sizes, head_values, tile_list_values, tile_size}
use Rattle.apv_base.specs.model.Component.{bytes_of_bits}
use Rattle.apv_base.specs.model.Encode.{frame_body}
use Rattle.apv_base.specs.model.Format.{comps_of}
use Rattle.apv_base.specs.model.Frame.{bytes_left}
use Rattle.apv_base.specs.model.Grid.{Grid, tile_rule, tile_columns, tile_rows, tile_count}
use Rattle.apv_base.specs.model.Header.{header_table, header_comps, grid_of}
use Rattle.apv_base.specs.model.Table.{spell, walk}
use Rattle.apv_base.specs.model.Tile.{Layout, Tile, tiles_table, layout_in, layout_of, stated}
use Rattle.apv_base.specs.laws.Table.{Passes}
use Rattle.apv_base.proofs.BitsLemmas.{bits-append, length-bits}
use Rattle.apv_base.proofs.HeaderLemmas.{comps-few, layout-values}
use Rattle.apv_base.proofs.TableLemmas.{chosen, spelled-walked}
use Rattle.apv_base.proofs.PackedLemmas.{bits_of_bytes}
use Rattle.apv_laws.specs.Fits.{FitsTile, Fits}
use Rattle.apv_laws.proofs.SpelledFieldLemmas.{all-more}
use Rattle.apv_laws.proofs.SpelledHeaderLemmas.{pass-header, whole-header, digits-header}
use Rattle.apv_laws.proofs.SpelledTilesLemmas.{pass-tiles, AreStated}

-- ---- sizes

-- the sizes that are stated, or none
abbrev sizes_if : Bool → (Tile → ℕ) → List Tile → List ℕ
sizes_if present size tiles = if present then map size tiles else []

sizes-long : (present : Bool) (size : Tile → ℕ) (tiles : List Tile) (count : ℕ) → length tiles ≡ count → present ≡ true → length (sizes_if present size tiles) ≡ count
sizes-long false size tiles count len e = absurd (let no : ⊥ = cc (e) in no)
sizes-long true size tiles count len e = length-map tiles size ∙ len

map-small : (comps depth : ℕ) (tiles : List Tile) → AllByRecursion (FitsTile comps depth) tiles → AllByRecursion (λ (size : ℕ). size < 2 ^ 32) (map (tile_size comps) tiles)
map-small comps depth [] all = tt
map-small comps depth (tile ∷ tiles) all = (all.0.size, map-small comps depth tiles all.1)

sizes-small : (present : Bool) (comps depth : ℕ) (tiles : List Tile) → AllByRecursion (FitsTile comps depth) tiles → AllByRecursion (λ (size : ℕ). size < 2 ^ 32) (sizes_if present (tile_size comps) tiles)
sizes-small false comps depth tiles all = tt
sizes-small true comps depth tiles all = map-small comps depth tiles all

same-below : (x y : ℕ) → x ≡ y → (nat_lt x y || nat_lt y x) ≡ false
same-below x y e = let a : nat_lt x y ≡ false = le-ltb x y (omega arith) in let b : nat_lt y x ≡ false = le-ltb y x (omega arith) in rw (a, b) refl

sizes-stated : (present : Bool) (comps depth count : ℕ) (tiles : List Tile) → AreStated (record { comps = comps; depth = depth; count = count; sizes = stated present (sizes_if present (tile_size comps) tiles) }) 0 tiles
sizes-stated false comps depth count tiles i k e lt = refl
sizes-stated true comps depth count tiles i k e lt =
    same-below (get_or (map (tile_size comps) tiles) k 0) (get_or (map (tile_size comps) tiles) i 0) (ap (λ (j : ℕ). get_or (map (tile_size comps) tiles) j 0) (let at : k ≡ i = omega arith in at))

either-false : (a b : Bool) → (a || b) ≡ false → (a ≡ false) × (b ≡ false)
either-false true b e = absurd (let no : ⊥ = cc in no)
either-false false b e = (refl, e)

few-tiles : (grid : Grid) → tile_rule grid ≡ None → tile_count grid ≤ 400
few-tiles grid e = elim (chosen (nat_lt grid.tile_width 16 || nat_lt grid.tile_height 8) _ _ _ e) [
  | inl t ↦ absurd (let no : ⊥ = cc (t.1) in no)
  | inr t ↦ elim (chosen (nat_lt 20 (tile_columns grid) || nat_lt 20 (tile_rows grid)) _ _ _ t.1) [
    | inl u ↦ absurd (let no : ⊥ = cc (u.1) in no)
    | inr u ↦ (let few = either-false (nat_lt 20 (tile_columns grid)) (nat_lt 20 (tile_rows grid)) u.0 in
        mul-le (tile_columns grid) (tile_rows grid) 20 20 (ltb-false 20 (tile_columns grid) few.0) (ltb-false 20 (tile_rows grid) few.1))
  ]
]

some-comps : (chroma : Chroma) → 1 ≤ comps_of chroma
some-comps C400 = lit≤ tt
some-comps C422 = lit≤ tt
some-comps C444 = lit≤ tt
some-comps C4444 = lit≤ tt

-- ---- the body

-- the bits of whole bytes and those of others
whole-bits : (b tiles : List ℕ) → AreDigits 2 b → padding (length b) ≡ 0 → bits (bytes_of_bits b ++ tiles) ≡ b ++ bits tiles
whole-bits b tiles h e =
    let zeros : replicate (padding (length b)) 0 ≡ [] = ap (λ (n : ℕ). replicate n 0) e in
    bits-append (bytes_of_bits b) tiles ∙ ap (λ (xs : List ℕ). xs ++ bits tiles) (bits_of_bytes b h ∙ ap (λ (zs : List ℕ). b ++ zs) zeros ∙ append-nil b)

-- the bytes after those of the header
tiles-left : (header tiles : List ℕ) → bytes_left (header ++ tiles) (bits tiles) ≡ tiles
tiles-left header tiles =
    let n : ℕ = length (header ++ tiles) - length (bits tiles) / 8 in
    let len : length header ≡ n = omega (arith, length-append header tiles, length-bits tiles) in drop_at header tiles n len

-- the layout of a frame that fits
abbrev layout : CodedFrame → Layout
layout frame = layout_of frame.header (stated_sizes frame)

tiles-pass : (frame : CodedFrame) → Fits frame → Passes 256 (tiles_table (layout frame)) (tile_list_values frame) 0
tiles-pass frame fits =
    let few = few-tiles (grid_of frame.header) fits.header.tiles in
    pass-tiles (layout frame) (tile_count (grid_of frame.header)) 0 frame.tiles 0 (some-comps frame.header.info.chroma) (comps-few frame.header.info.chroma) fits.header.info.format.high fits.count (omega (arith, few)) fits.tiles
    (sizes-stated frame.header.sizes_present (header_comps frame.header) frame.header.info.depth (tile_count (grid_of frame.header)) frame.tiles)

tiles-walked : (frame : CodedFrame) → Fits frame → walk 256 (tiles_table (layout frame)) (spell 256 (tiles_table (layout frame)) (tile_list_values frame)) ≡ Ok (tile_list_values frame, [])
tiles-walked frame fits =
    let spelled : List ℕ = spell 256 (tiles_table (layout frame)) (tile_list_values frame) in
    ap (walk 256 (tiles_table (layout frame))) (sym (append-nil spelled)) ∙ spelled-walked 256 (tiles_table (layout frame)) (tile_list_values frame) [] (lit< tt) (tiles-pass frame fits)

-- a frame that fits is read back from its bytes
pub spelled-frame : (frame : CodedFrame) → Fits frame → HasFrame (frame_body frame) frame
unfolding frame_body
spelled-frame frame fits =
    let head_bits : List ℕ = spell 2 header_table (head_values frame) in
    let tile_bytes : List ℕ = spell 256 (tiles_table (layout frame)) (tile_list_values frame) in
    let body : List ℕ = bytes_of_bits head_bits ++ tile_bytes in
    let len = sizes-long frame.header.sizes_present (tile_size (header_comps frame.header)) frame.tiles (tile_count (grid_of frame.header)) fits.count in
    let small = sizes-small frame.header.sizes_present (header_comps frame.header) frame.header.info.depth frame.tiles fits.tiles in
    let passes = pass-header frame.header (stated_sizes frame) (length (bits tile_bytes)) fits.header len small in
    let whole = whole-header frame.header (stated_sizes frame) fits.header len in
    let all : bits body ≡ head_bits ++ bits tile_bytes = whole-bits head_bits tile_bytes (digits-header frame.header (stated_sizes frame) fits.header len) whole in
    let head_walked = spelled-walked 2 header_table (head_values frame) (bits tile_bytes) (lit< tt) passes in
    let in_layout : layout_in (head_values frame) ≡ layout frame = layout-values frame.header (stated_sizes frame) fits.header len in
    let left : bytes_left body (bits tile_bytes) ≡ tile_bytes = tiles-left (bytes_of_bits head_bits) tile_bytes in
    record {
      header = fits.header;
      tiles = all-more (FitsTile (header_comps frame.header) frame.header.info.depth) (IsTile (header_comps frame.header)) frame.tiles (λ tile fit. fit.is) fits.tiles;
      left = bits tile_bytes;
      after = [];
      walked = ap (walk 2 header_table) all ∙ head_walked;
      walked_tiles = ap (walk 256 (tiles_table (layout_in (head_values frame)))) left ∙ ap (λ (l : Layout). walk 256 (tiles_table l) tile_bytes) in_layout ∙ tiles-walked frame fits;
      filler = refl;
    }
