-- What the values of a sound header say of the tiles after it.
use Rattle.std.proofs.Common.{◌≡◌, ℕ, zero, suc, ◌+◌, ◌-◌, ◌*◌, ◌≤◌, List, [], ◌∷◌, ◌++◌, length, take, drop, refl, ap, ◌∙◌, Option, Some, None, Bool, true, false, arith, lit≤, length-append, append_assoc}
use Rattle.std.specs.Prelude.{slice_index, if◌then◌else◌, ◌==◌}
use Rattle.std.specs.List.{AllByRecursion, concat}
use Rattle.std.proofs.lemmas.List.{take_at, drop_at, get_or-replicate}
use Rattle.apv_base.specs.declared.format.Chroma.{Chroma}
use Rattle.apv_base.specs.declared.format.Chroma.TheVariants.{C400, C422, C444, C4444}
use Rattle.apv_base.specs.declared.format.Colour.{Colour}
use Rattle.apv_base.specs.declared.format.Format.{Format}
use Rattle.apv_base.specs.declared.header.FrameHeader.{FrameHeader}
use Rattle.apv_base.specs.model.Format.{idc_of, chroma_of, comps_of, or_grey}
use Rattle.apv_base.specs.model.Grid.{tile_count}
use Rattle.apv_base.specs.model.Header.{flat, info_values, colour_values, matrix_values, size_values, header_values, header_comps, grid_of, IsSoundHeader}
use Rattle.apv_base.specs.model.Quant.{IsMatrix}
use Rattle.apv_base.specs.model.Tile.{Layout, comps_in, after_colour, after_matrices, grid_in, sizes_in, layout_in, layout_of, stated}

-- a chroma format is that of its code
pub chroma-idc : (chroma : Chroma) → chroma_of (idc_of chroma) ≡ Some chroma
chroma-idc C400 = refl
chroma-idc C422 = refl
chroma-idc C444 = refl
chroma-idc C4444 = refl

pub comps-few : (chroma : Chroma) → comps_of chroma ≤ 4
comps-few C400 = lit≤ tt
comps-few C422 = lit≤ tt
comps-few C444 = lit≤ tt
comps-few C4444 = lit≤ tt

-- the flat matrix is a matrix
pub flat-is-matrix : IsMatrix flat
flat-is-matrix = record {
  count = refl;
  each = λ place lt. let e : slice_index flat place ≡ 16 = get_or-replicate 64 place 16 0 lt in (omega (arith, e), omega (arith, e));
}

-- n matrices have 64 values each
pub length-matrices : (n : ℕ) (matrices : List (List ℕ)) → n ≤ length matrices → AllByRecursion IsMatrix matrices → length (concat (take n matrices)) ≡ 64 * n
length-matrices zero matrices le all = refl
length-matrices (suc n) [] le all = absurd (omega arith)
length-matrices (suc n) (matrix ∷ matrices) le all =
    let ih = length-matrices n matrices (omega arith) all.1 in
    omega (arith, length-append matrix (concat (take n matrices)), ih, all.0.count)

-- ---- the values from a part on

pub nested : (a b c d e f g : List ℕ) → ((((((a ++ b) ++ c) ++ d) ++ e) ++ f) ++ g) ≡ a ++ (b ++ (c ++ (d ++ (e ++ (f ++ g)))))
nested a b c d e f g =
    append_assoc (((((a ++ b) ++ c) ++ d) ++ e)) f g ∙ append_assoc ((((a ++ b) ++ c) ++ d)) e (f ++ g) ∙ append_assoc (((a ++ b) ++ c)) d (e ++ (f ++ g))
    ∙ append_assoc ((a ++ b)) c (d ++ (e ++ (f ++ g))) ∙ append_assoc a b (c ++ (d ++ (e ++ (f ++ g))))

past-colour : (a b c d e f g h i j k : ℕ) (colour : Option Colour) (later : List ℕ) → after_colour (a ∷ b ∷ c ∷ d ∷ e ∷ f ∷ g ∷ h ∷ i ∷ j ∷ k ∷ (colour_values colour ++ later)) ≡ later
past-colour a b c d e f g h i j k None later = refl
past-colour a b c d e f g h i j k (Some colour) later = refl

-- after the matrices, where the values after the colour description begin with theirs
past-matrices : (values : List ℕ) (use_matrix : Bool) (comps : ℕ) (matrices : List (List ℕ)) (later : List ℕ) → after_colour values ≡ matrix_values use_matrix comps matrices ++ later → comps_in values ≡ comps
    → length (concat (take comps matrices)) ≡ 64 * comps → after_matrices values ≡ later
past-matrices values false comps matrices later e c len = rw e refl
past-matrices values true comps matrices later e c len = rw (e, c) (drop_at (concat (take comps matrices)) later (64 * comps) len)

-- the size of the tiles, and the sizes that are stated, where the values after the matrices begin with these
stated-sizes : (present : Bool) (sizes later : List ℕ) (count w h : ℕ) → (present ≡ true → length sizes ≡ count)
    → (if slice_index (w ∷ h ∷ (size_values present sizes ++ later)) 2 == 1 then Some (take count (drop 3 (w ∷ h ∷ (size_values present sizes ++ later)))) else None) ≡ stated present sizes
stated-sizes false sizes later count w h e = refl
stated-sizes true sizes later count w h e = ap Some (take_at sizes later count (e refl))

sizes-at : (values later : List ℕ) (count : ℕ) → after_matrices values ≡ later → tile_count (grid_in values) ≡ count → sizes_in values ≡ (if slice_index later 2 == 1 then Some (take count (drop 3 later)) else None)
sizes-at values later count e f = rw (f, e) refl

-- ---- the tiles

same-format : (w h : ℕ) (chroma chroma' : Chroma) (depth depth' : ℕ) → chroma ≡ chroma' → depth ≡ depth' → ◌≡◌ {A = Format} (record { width = w; height = h; chroma = chroma; depth = depth }) (record { width = w; height = h; chroma = chroma'; depth = depth' })
same-format w h chroma chroma' depth depth' e f = rw (e, f) refl

same-layout : (comps comps' depth depth' count count' : ℕ) (sizes sizes' : Option (List ℕ)) → comps ≡ comps' → depth ≡ depth' → count ≡ count' → sizes ≡ sizes'
    → ◌≡◌ {A = Layout} (record { comps = comps; depth = depth; count = count; sizes = sizes }) (record { comps = comps'; depth = depth'; count = count'; sizes = sizes' })
same-layout comps comps' depth depth' count count' sizes sizes' e f g h = rw (e, f, g, h) refl

-- the values of a sound header say what it says
pub layout-values : (header : FrameHeader) (sizes : List ℕ) → IsSoundHeader header → (header.sizes_present ≡ true → length sizes ≡ tile_count (grid_of header)) → layout_in (header_values header sizes) ≡ layout_of header sizes
layout-values header sizes sound count =
    let values : List ℕ = header_values header sizes in
    let tiles : List ℕ = header.tile_width ∷ header.tile_height ∷ (size_values header.sizes_present sizes ++ 0 ∷ 0 ∷ []) in
    let chroma : or_grey (chroma_of (idc_of header.info.chroma)) ≡ header.info.chroma = ap or_grey (chroma-idc header.info.chroma) in
    let comps : comps_in values ≡ header_comps header = ap comps_of chroma in
    let depth : header.info.depth - 8 + 8 ≡ header.info.depth = omega (arith, sound.info.format.low) in
    let len = length-matrices (header_comps header) header.matrices (omega (arith, sound.four, comps-few header.info.chroma)) sound.each in
    let colour : after_colour values ≡ matrix_values header.use_matrix (header_comps header) header.matrices ++ tiles = ap after_colour (nested (info_values header.info) (0 ∷ []) (colour_values header.colour) (matrix_values header.use_matrix (header_comps header) header.matrices) (header.tile_width ∷ header.tile_height ∷ []) (size_values header.sizes_present sizes) (0 ∷ 0 ∷ []))
    ∙ past-colour header.info.profile header.info.level header.info.band 0 header.info.width header.info.height (idc_of header.info.chroma) (header.info.depth - 8) header.info.capture 0 0 header.colour (matrix_values header.use_matrix (header_comps header) header.matrices ++ tiles) in
    let matrices : after_matrices values ≡ tiles = past-matrices values header.use_matrix (header_comps header) header.matrices tiles colour comps len in
    let format = same-format header.info.width header.info.height (or_grey (chroma_of (idc_of header.info.chroma))) header.info.chroma (header.info.depth - 8 + 8) header.info.depth chroma depth in
    let grid : grid_in values ≡ grid_of header = rw (matrices, format) refl in
    let all : sizes_in values ≡ stated header.sizes_present sizes = sizes-at values tiles (tile_count (grid_of header)) matrices (ap tile_count grid) ∙ stated-sizes header.sizes_present sizes (0 ∷ 0 ∷ []) (tile_count (grid_of header)) header.tile_width header.tile_height count in
    same-layout (comps_in values) (header_comps header) (header.info.depth - 8 + 8) header.info.depth (tile_count (grid_in values)) (tile_count (grid_of header)) (sizes_in values) (stated header.sizes_present sizes)
    comps depth (ap tile_count grid) all
