-- Values that pass the fields of a frame's header are those of a sound header.
use Rattle.std.proofs.Common.{◌≡◌, ℕ, ◌+◌, ◌*◌, List, [], ◌∷◌, ◌++◌, length, refl, sym, ◌∙◌, Option, Some, None, true}
use Rattle.apv_base.specs.declared.rules.Rule.{Rule}
use Rattle.apv_base.specs.declared.rules.Rule.TheVariants.{V8, V14, V19}
use Rattle.apv_base.specs.declared.rules.HeadEnd.{HeadEnd}
use Rattle.apv_base.specs.declared.rules.HeadEnd.TheVariants.{Rule as breaks}
use Rattle.apv_base.specs.declared.format.Format.{Format}
use Rattle.apv_base.specs.declared.header.FrameHeader.{FrameHeader}
use Rattle.apv_base.specs.model.Bits.{padding}
use Rattle.apv_base.specs.model.Format.{comps_of}
use Rattle.apv_base.specs.model.Grid.{grid_with, tile_rule, tile_count}
use Rattle.apv_base.specs.model.Header.{head_end, check_tiles, free, reserved, colour_fields, matrix_fields, size_fields, alignment_fields, header_table, info_values, colour_values, matrix_values, size_values, format_of, grid_of, header_values, IsSoundHeader}
use Rattle.apv_base.specs.model.Table.{Table, done, field, no_check, must_be_zero}
use Rattle.apv_base.specs.laws.Table.{Passes}
use Rattle.apv_base.proofs.HeaderLemmas.{comps-few, nested}
use Rattle.apv_base.proofs.HeaderPartsLemmas.{colour-is, matrices-are, sizes-are}
use Rattle.apv_base.proofs.InfoPartsLemmas.{info-is, InfoIs, zero-checked}
use Rattle.apv_base.proofs.PassesLemmas.{field-is}

-- what follows each part of the header
abbrev reserved_next : ℕ → ℕ → Table HeadEnd
reserved_next colour value = alignment_fields colour done

abbrev end_table : ℕ → Table HeadEnd
end_table colour = reserved 8 (alignment_fields colour done)

abbrev height_next : Format → ℕ → ℕ → ℕ → Table HeadEnd
height_next format colour tile_width tile_height = size_fields (tile_count (grid_with format tile_width tile_height)) (end_table colour)

abbrev width_next : Format → ℕ → ℕ → Table HeadEnd
width_next format colour tile_width = field 20 (breaks V8) (check_tiles format tile_width) (height_next format colour tile_width)

abbrev colour_next : Format → ℕ → Table HeadEnd
colour_next format colour = matrix_fields (comps_of format.chroma) (free 20 (width_next format colour))

abbrev format_next : Format → Table HeadEnd
format_next format = reserved 8 (colour_fields (colour_next format))

-- a sound header with these values
pub record HeaderIs (values : List ℕ) : Type 0 where
  pub header : FrameHeader
  pub sizes : List ℕ
  pub sound : IsSoundHeader header
  pub all : values ≡ header_values header sizes
  pub long : header.sizes_present ≡ true → length sizes ≡ tile_count (grid_of header)

rule-none : (rule : Option Rule) → head_end rule ≡ None → rule ≡ None
rule-none None e = refl
rule-none (Some rule) e = absurd (let no : ⊥ = cc in no)

-- the parts of the values, one after another
parts-flat : (v i l1 l2 c l3 m l4 l5 l6 s l7 l8 l9 : List ℕ) (z w h a b : ℕ) → v ≡ i ++ l1 → l1 ≡ z ∷ l2 → z ≡ 0 → l2 ≡ c ++ l3 → l3 ≡ m ++ l4 → l4 ≡ w ∷ l5 → l5 ≡ h ∷ l6 → l6 ≡ s ++ l7 → l7 ≡ a ∷ l8 → a ≡ 0 → l8 ≡ b ∷ l9 → b ≡ 0 → l9 ≡ []
    → v ≡ i ++ (0 ∷ (c ++ (m ++ (w ∷ h ∷ (s ++ 0 ∷ 0 ∷ [])))))
parts-flat v i l1 l2 c l3 m l4 l5 l6 s l7 l8 l9 z w h a b e1 e2 ez e3 e4 e5 e6 e7 e8 ea e9 eb e10 = cc

parts-joined : (v i c m s : List ℕ) (w h : ℕ) → v ≡ i ++ (0 ∷ (c ++ (m ++ (w ∷ h ∷ (s ++ 0 ∷ 0 ∷ []))))) → v ≡ ((((((i ++ 0 ∷ []) ++ c) ++ m) ++ w ∷ h ∷ []) ++ s) ++ 0 ∷ 0 ∷ [])
parts-joined v i c m s w h e = e ∙ sym (nested i (0 ∷ []) c m (w ∷ h ∷ []) s (0 ∷ 0 ∷ []))

header-after : (values : List ℕ) (left : ℕ) → InfoIs format_next values left → HeaderIs values
header-after values left i =
    let format : Format = format_of i.info in
    let blank = field-is 2 8 (breaks V8) (must_be_zero (breaks V14)) (λ value. colour_fields (colour_next format)) i.later left i.passes in
    let colour = colour-is (colour_next format) blank.later left blank.passes in
    let matrices = matrices-are (comps_of format.chroma) (free 20 (width_next format colour.present)) colour.later left (comps-few format.chroma) colour.passes in
    let width = field-is 2 20 (breaks V8) no_check (width_next format colour.present) matrices.later left matrices.passes in
    let height = field-is 2 20 (breaks V8) (check_tiles format width.value) (height_next format colour.present width.value) width.later left width.passes in
    let sizes = sizes-are (tile_count (grid_with format width.value height.value)) (end_table colour.present) height.later left height.passes in
    let last = field-is 2 8 (breaks V8) (must_be_zero (breaks V14)) (reserved_next colour.present) sizes.later left sizes.passes in
    let align = field-is 2 (padding (155 + 25 * colour.present)) (breaks V8) (must_be_zero (breaks V19)) (λ value. done) last.later left last.passes in
    let all = parts-flat values (info_values i.info) i.later blank.later (colour_values colour.colour) colour.later (matrix_values matrices.used (comps_of format.chroma) matrices.matrices) matrices.later width.later height.later
    (size_values sizes.present sizes.sizes) sizes.later last.later align.later blank.value width.value height.value last.value align.value i.all blank.all (zero-checked (breaks V14) blank.value blank.after blank.checked) colour.all matrices.all
    width.all height.all sizes.all last.all (zero-checked (breaks V14) last.value last.after last.checked) align.all (zero-checked (breaks V19) align.value align.after align.checked) align.passes in
    record {
      header = record {
        info = i.info;
        colour = colour.colour;
        use_matrix = matrices.used;
        matrices = matrices.matrices;
        tile_width = width.value;
        tile_height = height.value;
        sizes_present = sizes.present;
      };
      sizes = sizes.sizes;
      sound = record {
        info = i.sound;
        colour = colour.sound;
        width = width.below;
        height = height.below;
        tiles = rule-none (tile_rule (grid_with format width.value height.value)) height.checked;
        four = matrices.four;
        each = matrices.each;
        matrices = matrices.flat_others;
      };
      all = parts-joined values (info_values i.info) (colour_values colour.colour) (matrix_values matrices.used (comps_of format.chroma) matrices.matrices) (size_values sizes.present sizes.sizes) width.value height.value all;
      long = sizes.long;
    }

-- values that pass the fields of a header are those of a sound header
pub header-is : (values : List ℕ) (left : ℕ) → Passes 2 header_table values left → HeaderIs values
header-is values left p = header-after values left (info-is format_next values left p)
