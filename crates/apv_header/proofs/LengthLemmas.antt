-- How long the parts of a frame's header are.
use Rattle.std.proofs.Common.{◌≡◌, ℕ, ◌+◌, ◌*◌, ◌≤◌, Bool, true, false, ◌||◌, nat_lt, inl, inr, List, [], ◌∷◌, ◌++◌, length, refl, ap, ◌∙◌, arith, Option, Some, None, length-append}
use Rattle.std.specs.List.{flat_map, concat}
use Rattle.std.specs.Option.{is_some}
use Rattle.std.proofs.lemmas.Bool.{ltb-false}
use Rattle.std.proofs.lemmas.Nat.{mul-le}
use Rattle.apv_base.specs.declared.format.Colour.{Colour}
use Rattle.apv_base.specs.declared.format.FrameInfo.{FrameInfo}
use Rattle.apv_base.specs.declared.header.FrameHeader.{FrameHeader}
use Rattle.apv_base.specs.model.Bits.{bin, bits, padding}
use Rattle.apv_base.specs.model.Grid.{Grid, tile_rule, tile_columns, tile_rows, tile_count}
use Rattle.apv_base.specs.model.Header.{flag, header_comps}
use Rattle.apv_base.proofs.BitsLemmas.{length-bin, length-bits}
use Rattle.apv_base.proofs.TableLemmas.{chosen}
use Rattle.apv_header.specs.Parts.{colour_flag}
use Rattle.apv_header.specs.Words.{fields_word, info_list, colour_list, colour_word, stated_matrices, sizes_in_header, matrices_word, sizes_word, header_matrices_word, tile_list, prefix_word, prefix_len, alignment_word}
use Rattle.apv_header.proofs.WriteLemmas.{length-fields, length-sizes}

pub length-info : (info : FrameInfo) → length (fields_word (info_list info)) ≡ 96
length-info info = length-fields (info_list info)

pub length-some_colour : (colour : Colour) → length (colour_word (Some colour)) ≡ 26
length-some_colour colour = length-fields (colour_list colour)

pub length-matrices : (used : Bool) (comps : ℕ) (matrices : List (List ℕ)) → length (matrices_word used comps matrices) ≡ 1 + 8 * length (concat (stated_matrices used comps matrices))
length-matrices used comps matrices =
    omega (arith, length-append (bin 1 (flag used)) (bits (concat (stated_matrices used comps matrices))), length-bin 1 (flag used), length-bits (concat (stated_matrices used comps matrices)))

pub length-present : (sizes : List ℕ) → length (sizes_word true sizes) ≡ 1 + 32 * length sizes
length-present sizes = omega (arith, length-append (bin 1 1) (flat_map (bin 32) sizes), length-bin 1 1, length-sizes sizes)

pub length-absent : (sizes : List ℕ) → length (sizes_word false sizes) ≡ 1
length-absent sizes = length-append (bin 1 0) [] ∙ ap (λ n. n + 0) (length-bin 1 0)

-- the bits of a header, from those of its parts
pub length-prefix : (header : FrameHeader) (sizes : List ℕ) → length (prefix_word header sizes) ≡ prefix_len header sizes
length-prefix header sizes =
    let from_sizes = sizes_word header.sizes_present sizes ++ bin 8 0 in
    let from_tiles = fields_word (tile_list header) ++ from_sizes in
    let from_matrices = header_matrices_word header ++ from_tiles in
    let from_colour = colour_word header.colour ++ from_matrices in
    omega (
      arith,
      length-append (fields_word (info_list header.info)) (bin 8 0 ++ from_colour),
      length-append (bin 8 0) from_colour,
      length-append (colour_word header.colour) from_matrices,
      length-append (header_matrices_word header) from_tiles,
      length-append (fields_word (tile_list header)) from_sizes,
      length-append (sizes_word header.sizes_present sizes) (bin 8 0),
      length-bin 8 0,
      length-info header.info,
      length-fields (tile_list header),
    )

pub length-header : (header : FrameHeader) (sizes : List ℕ)
    → length (prefix_word header sizes ++ alignment_word header) ≡ prefix_len header sizes + padding (155 + 25 * colour_flag header.colour)
length-header header sizes =
    omega (
      arith,
      length-append (prefix_word header sizes) (alignment_word header),
      length-prefix header sizes,
      length-bin (padding (155 + 25 * colour_flag header.colour)) 0,
    )

pub length-no_colour : length (colour_word None) ≡ 1
length-no_colour = length-bin 1 0

pub length-sizes_word : (present : Bool) (sizes : List ℕ) → 1 ≤ length (sizes_word present sizes)
length-sizes_word present sizes = omega (arith, length-append (bin 1 (flag present)) (flat_map (bin 32) (sizes_in_header present sizes)), length-bin 1 (flag present))

pub length-described : (colour : Option Colour) → true ≡ is_some colour → length (colour_word colour) + padding (155 + 25 * colour_flag colour) ≡ 30
length-described None e = absurd (let no : ⊥ = cc in no)
length-described (Some colour) e = ap (λ n. n + 4) (length-some_colour colour)

pub length-undescribed : (colour : Option Colour) → false ≡ is_some colour → length (colour_word colour) + padding (155 + 25 * colour_flag colour) ≡ 6
length-undescribed None e = ap (λ n. n + 5) length-no_colour
length-undescribed (Some colour) e = absurd (let no : ⊥ = cc in no)

no_other : (a b : Bool) → (a || b) ≡ false → (a ≡ false) × (b ≡ false)
no_other false b e = (refl, e)
no_other true b e = absurd (let no : ⊥ = cc in no)

-- a frame has at most 20 columns and 20 rows of tiles
pub few_tiles : (grid : Grid) → tile_rule grid ≡ None → tile_count grid ≤ 400
few_tiles grid e = elim (chosen (nat_lt grid.tile_width 16 || nat_lt grid.tile_height 8) _ _ _ e) [
  | inl t ↦ absurd (let no : ⊥ = cc (t.1) in no)
  | inr t ↦ elim (chosen (nat_lt 20 (tile_columns grid) || nat_lt 20 (tile_rows grid)) _ _ _ t.1) [
    | inl u ↦ absurd (let no : ⊥ = cc (u.1) in no)
    | inr u ↦ (let few = no_other (nat_lt 20 (tile_columns grid)) (nat_lt 20 (tile_rows grid)) u.0 in
        mul-le (tile_columns grid) (tile_rows grid) 20 20 (ltb-false 20 (tile_columns grid) few.0) (ltb-false 20 (tile_rows grid) few.1))
  ]
]

pub few_sizes : (present : Bool) (sizes : List ℕ) (count : ℕ) → (present ≡ true → length sizes ≡ count) → count ≤ 400 → length (sizes_word present sizes) ≤ 12801
few_sizes false sizes count is few = omega (arith, length-absent sizes)
few_sizes true sizes count is few = omega (arith, length-present sizes, is refl)

pub few_colour : (colour : Option Colour) → length (colour_word colour) + padding (155 + 25 * colour_flag colour) ≤ 30
few_colour None = omega (arith, length-undescribed None refl)
few_colour (Some colour) = omega (arith, length-described (Some colour) refl)
