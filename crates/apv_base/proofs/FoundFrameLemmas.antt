-- A body of bytes that breaks no rule is a coded frame.
use Rattle.std.proofs.Common.{◌≡◌, ℕ, zero, suc, ◌-◌, ◌/◌, ◌^◌, ◌<◌, ◌≤◌, List, [], ◌∷◌, ◌++◌, length, map, refl, sym, ap, ◌∙◌, subst, lit<, lit≤, Ok, Bool, true, false, if◌then◌else◌}
use Rattle.std.proofs.Math.Nat.{mod-lt}
use Rattle.apv_base.specs.declared.format.Chroma.{Chroma}
use Rattle.apv_base.specs.declared.format.Chroma.TheVariants.{C400, C422, C444, C4444}
use Rattle.apv_base.specs.declared.header.FrameHeader.{FrameHeader}
use Rattle.apv_base.specs.model.Bits.{bits, bin, digits, AreDigits, AreBytes}
use Rattle.apv_base.specs.model.CodedFrame.{CodedFrame, HasFrame, stated_sizes, head_values, tile_size}
use Rattle.apv_base.specs.model.Format.{comps_of}
use Rattle.apv_base.specs.model.Frame.{IsFrame, WalksHeader, WalksTiles, bytes_left}
use Rattle.apv_base.specs.model.Grid.{tile_count}
use Rattle.apv_base.specs.model.Header.{header_table, header_comps, grid_of, header_values, info_values, colour_values, matrix_values, size_values}
use Rattle.apv_base.specs.model.Table.{walk}
use Rattle.apv_base.specs.model.Tile.{Layout, tiles_table, layout_of, stated}
use Rattle.apv_base.proofs.DigitsLemmas.{digits-drop}
use Rattle.apv_base.proofs.FoundHeaderLemmas.{header-is, HeaderIs}
use Rattle.apv_base.proofs.FoundTilesLemmas.{tiles-are, TilesAre, sizes-same}
use Rattle.apv_base.proofs.HeaderLemmas.{layout-values}
use Rattle.apv_base.proofs.PassesLemmas.{walked-passes}

-- ---- bits

digits-append : (r : ℕ) (xs ys : List ℕ) → AreDigits r xs → AreDigits r ys → AreDigits r (xs ++ ys)
digits-append r [] ys h g i = g i
digits-append r (x ∷ xs) ys h g zero = h 0
digits-append r (x ∷ xs) ys h g (suc i) = digits-append r xs ys (λ j. h (suc j)) g i

digits-are : (r n v : ℕ) → 0 < r → AreDigits r (digits r n v)
unfolding digits
digits-are r zero v lt i = lt
digits-are r (suc n) v lt zero = mod-lt (v / r ^ n) lt
digits-are r (suc n) v lt (suc i) = digits-are r n v lt i

-- bits are bits
pub bits-are : (xs : List ℕ) → AreDigits 2 (bits xs)
bits-are [] i = lit< tt
bits-are (x ∷ xs) i = digits-append 2 (bin 8 x) (bits xs) (digits-are 2 8 x (lit< tt)) (bits-are xs) i

-- ---- the frame

some-comps : (chroma : Chroma) → 1 ≤ comps_of chroma
some-comps C400 = lit≤ tt
some-comps C422 = lit≤ tt
some-comps C444 = lit≤ tt
some-comps C4444 = lit≤ tt

-- the values of a header of some sizes, by those alone
with-sizes : (header : FrameHeader) (sizes others : List ℕ) → size_values header.sizes_present sizes ≡ size_values header.sizes_present others → header_values header sizes ≡ header_values header others
with-sizes header sizes others e =
    ap (λ (s : List ℕ). info_values header.info ++ 0 ∷ []
    ++ colour_values header.colour
    ++ matrix_values header.use_matrix (header_comps header) header.matrices
    ++ header.tile_width ∷ header.tile_height ∷ []
    ++ s
    ++ 0 ∷ 0 ∷ []) e

-- sizes that are stated, or none
sizes-stated : (present : Bool) (sizes others : List ℕ) → (present ≡ true → sizes ≡ others) → size_values present sizes ≡ size_values present (if present then others else [])
sizes-stated false sizes others e = refl
sizes-stated true sizes others e = ap (size_values true) (e refl)

-- the sizes of the tiles are the stated ones
tile-sizes : (comps depth count : ℕ) (present : Bool) (sizes values : List ℕ) → (present ≡ true → length sizes ≡ count)
    → (t : TilesAre (record { comps = comps; depth = depth; count = count; sizes = stated present sizes }) count 0 values) → present ≡ true → sizes ≡ map (tile_size comps) t.tiles
tile-sizes comps depth count false sizes values len t e = absurd (let no : ⊥ = cc (e) in no)
tile-sizes comps depth count true sizes values len t e = sizes-same comps depth count sizes values (len refl) t

frame-of : (body header tiles : List ℕ) → AreBytes body → IsFrame body header tiles → HeaderIs header → (frame : CodedFrame) × HasFrame body frame
frame-of body header tiles bytes f h =
    let walked : WalksHeader body (header_values h.header h.sizes) f.left = subst (λ (vs : List ℕ). WalksHeader body vs f.left) h.all f.walked in
    let layout = layout-values h.header h.sizes h.sound h.long in
    let walked_there : WalksTiles (header_values h.header h.sizes) (bytes_left body f.left) tiles f.after = subst (λ (vs : List ℕ). WalksTiles vs (bytes_left body f.left) tiles f.after) h.all f.walked_tiles in
    let in_layout : walk 256 (tiles_table (layout_of h.header h.sizes)) (bytes_left body f.left) ≡ Ok (tiles, f.after) = ap (λ (l : Layout). walk 256 (tiles_table l) (bytes_left body f.left)) (sym layout) ∙ walked_there in
    let passes = walked-passes 256 (tiles_table (layout_of h.header h.sizes)) (bytes_left body f.left) tiles f.after (lit< tt) (lit≤ tt) (digits-drop 256 (length body - length f.left / 8) body bytes) in_layout in
    let t = tiles-are (layout_of h.header h.sizes) (tile_count (grid_of h.header)) 0 tiles (length f.after) (some-comps h.header.info.chroma) passes in
    let same = tile-sizes (header_comps h.header) h.header.info.depth (tile_count (grid_of h.header)) h.header.sizes_present h.sizes tiles h.long t in
    let frame : CodedFrame = record { header = h.header; tiles = t.tiles } in
    let values : header_values h.header h.sizes ≡ head_values frame = with-sizes h.header h.sizes (stated_sizes frame) (sizes-stated h.header.sizes_present h.sizes (map (tile_size (header_comps h.header)) t.tiles) same) in (
      frame,
      record {
        header = h.sound;
        tiles = t.each;
        left = f.left;
        after = f.after;
        walked = subst (λ (vs : List ℕ). WalksHeader body vs f.left) values walked;
        walked_tiles = subst (λ (vs : List ℕ). WalksTiles (head_values frame) (bytes_left body f.left) vs f.after) t.all (subst (λ (vs : List ℕ). WalksTiles vs (bytes_left body f.left) tiles f.after) values walked_there);
        filler = f.filler;
      },
    )

-- a body of bytes that breaks no rule is a coded frame
pub some-frame : (body header tiles : List ℕ) → AreBytes body → IsFrame body header tiles → (frame : CodedFrame) × HasFrame body frame
some-frame body header tiles bytes f =
    frame-of body header tiles bytes f (header-is header (length f.left) (walked-passes 2 header_table (bits body) header f.left (lit< tt) (lit≤ tt) (bits-are body) f.walked))
