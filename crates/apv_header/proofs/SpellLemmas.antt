-- The bits of a frame's header, part by part.
use Rattle.std.proofs.Common.{◌≡◌, ℕ, zero, suc, ◌+◌, ◌-◌, ◌*◌, ◌≤◌, Bool, true, false, List, [], ◌∷◌, ◌++◌, length, take, refl, sym, ap, ◌∙◌, arith, Option, Some, None, append_assoc, append-nil}
use Rattle.std.specs.List.{flat_map, concat}
use Rattle.apv_base.specs.declared.rules.HeadEnd.{HeadEnd}
use Rattle.apv_base.specs.declared.rules.HeadEnd.TheVariants.{Rule as breaks}
use Rattle.apv_base.specs.declared.rules.Rule.TheVariants.{V8}
use Rattle.apv_base.specs.declared.format.Chroma.{Chroma}
use Rattle.apv_base.specs.declared.format.Chroma.TheVariants.{C400, C422, C444, C4444}
use Rattle.apv_base.specs.declared.format.Colour.{Colour}
use Rattle.apv_base.specs.declared.format.Format.{Format}
use Rattle.apv_base.specs.declared.format.FrameInfo.{FrameInfo}
use Rattle.apv_base.specs.declared.header.FrameHeader.{FrameHeader}
use Rattle.apv_base.specs.model.Bits.{bin, bits, padding}
use Rattle.apv_base.specs.model.Format.{idc_of, chroma_of, comps_of, or_grey}
use Rattle.apv_base.specs.model.Grid.{grid_with, tile_count}
use Rattle.apv_base.specs.model.Header.{info_fields, info_table, info_values, colour_fields, colour_values, matrix_fields, matrix_values, size_fields, size_values, alignment_fields, reserved, free, check_tiles, IsSoundHeader, header_table, header_values, header_comps, format_of, grid_of}
use Rattle.apv_base.specs.model.Table.{Table, done, field, fields, spell}
use Rattle.apv_header.specs.Parts.{colour_flag}
use Rattle.apv_header.specs.Words.{fields_word, info_list, colour_word, stated_matrices, matrices_word, sizes_word, header_matrices_word, tile_list, prefix_word, alignment_word, frame_header_word}

-- the chroma format of a code
chroma_is : (chroma : Chroma) → or_grey (chroma_of (idc_of chroma)) ≡ chroma
chroma_is C400 = refl
chroma_is C422 = refl
chroma_is C444 = refl
chroma_is C4444 = refl

-- frame_info(), and what follows it
pub spell-info : (info : FrameInfo) (judged : Bool) (next : Format → Table HeadEnd) (rest : List ℕ) → 10 ≤ info.depth
    → spell 2 (info_fields judged next) (info_values info ++ rest) ≡ fields_word (info_list info) ++ spell 2 (next (format_of info)) rest
unfolding spell
spell-info info judged next rest low =
    let depth : info.depth - 8 + 8 ≡ info.depth = omega arith in
    rw (chroma_is info.chroma, depth) (simp append_assoc refl)

pub spelled-info : (info : FrameInfo) → 10 ≤ info.depth → spell 2 info_table (info_values info) ≡ fields_word (info_list info)
unfolding spell
spelled-info info low = spell-info info true (λ format. done) [] low ∙ append-nil (fields_word (info_list info))

pub spell-reserved : (next : Table HeadEnd) (rest : List ℕ) → spell 2 (reserved 8 next) (0 ∷ rest) ≡ bin 8 0 ++ spell 2 next rest
unfolding spell
spell-reserved next rest = refl

-- the colour description, and what follows it
pub spell-colour : (colour : Option Colour) (next : ℕ → Table HeadEnd) (rest : List ℕ)
    → spell 2 (colour_fields next) (colour_values colour ++ rest) ≡ colour_word colour ++ spell 2 (next (colour_flag colour)) rest
unfolding spell
spell-colour None next rest = refl
spell-colour (Some colour) next rest = simp append_assoc refl

-- fields of one length, and what follows them
pub spell-fields : {E : Type 0} (count n : ℕ) (short : E) (check : ℕ → ℕ → Option E) (next : List ℕ → Table E) (values rest : List ℕ) → length values ≡ count
    → spell 2 (fields count n short check next) (values ++ rest) ≡ flat_map (bin n) values ++ spell 2 (next values) rest
unfolding spell fields
spell-fields zero n short check next [] rest e = refl
spell-fields zero n short check next (value ∷ values) rest e = absurd (omega (arith, e))
spell-fields (suc count) n short check next [] rest e = absurd (omega (arith, e))
spell-fields (suc count) n short check next (value ∷ values) rest e =
    ap (λ w. bin n value ++ w) (spell-fields count n short check (λ values'. next (value ∷ values')) values rest (omega (arith, e)))
    ∙ sym (append_assoc (bin n value) (flat_map (bin n) values) (spell 2 (next (value ∷ values)) rest))

-- the matrices, and what follows them
pub spell-matrices : (used : Bool) (comps : ℕ) (matrices : List (List ℕ)) (next : Table HeadEnd) (rest : List ℕ) → (used ≡ true → length (concat (take comps matrices)) ≡ 64 * comps)
    → spell 2 (matrix_fields comps next) (matrix_values used comps matrices ++ rest) ≡ matrices_word used comps matrices ++ spell 2 next rest
unfolding spell
spell-matrices false comps matrices next rest count = sym (append_assoc (bin 1 0) [] (spell 2 next rest))
spell-matrices true comps matrices next rest count =
    ap (λ w. bin 1 1 ++ w) (spell-fields (64 * comps) 8 _ _ (λ values. next) (concat (take comps matrices)) rest (count refl))
    ∙ sym (append_assoc (bin 1 1) (bits (concat (take comps matrices))) (spell 2 next rest))

-- the sizes, and what follows them
pub spell-sizes : (present : Bool) (count : ℕ) (sizes : List ℕ) (next : Table HeadEnd) (rest : List ℕ) → (present ≡ true → length sizes ≡ count)
    → spell 2 (size_fields count next) (size_values present sizes ++ rest) ≡ sizes_word present sizes ++ spell 2 next rest
unfolding spell
spell-sizes false count sizes next rest len = sym (append_assoc (bin 1 0) [] (spell 2 next rest))
spell-sizes true count sizes next rest len =
    ap (λ w. bin 1 1 ++ w) (spell-fields count 32 _ _ (λ values. next) sizes rest (len refl))
    ∙ sym (append_assoc (bin 1 1) (flat_map (bin 32) sizes) (spell 2 next rest))

-- ---- a header

-- the tables of what follows a part of a header
abbrev end_table : ℕ → Table HeadEnd
end_table colour = reserved 8 (alignment_fields colour done)

abbrev tiles_table : Format → ℕ → Table HeadEnd
tiles_table format colour =
    free 20 (λ tile_width.
    field 20 (breaks V8) (check_tiles format tile_width) (λ tile_height. size_fields (tile_count (grid_with format tile_width tile_height)) (end_table colour)))

abbrev matrices_table : Format → ℕ → Table HeadEnd
matrices_table format colour = matrix_fields (comps_of format.chroma) (tiles_table format colour)

abbrev colour_table : Format → Table HeadEnd
colour_table format = colour_fields (λ colour. matrices_table format colour)

-- the values of a header, part by part
same-values : (header : FrameHeader) (sizes : List ℕ) → header_values header sizes ≡ info_values header.info ++ 0 ∷ (colour_values header.colour ++ (matrix_values header.use_matrix (header_comps header) header.matrices ++ header.tile_width ∷ header.tile_height ∷ (size_values header.sizes_present sizes ++ 0 ∷ 0 ∷ [])))
same-values header sizes = simp append_assoc refl

spell-end : (colour : ℕ) → spell 2 (end_table colour) (0 ∷ 0 ∷ []) ≡ bin 8 0 ++ bin (padding (155 + 25 * colour)) 0
unfolding spell
spell-end colour = ap (λ w. bin 8 0 ++ w) (append-nil (bin (padding (155 + 25 * colour)) 0))

spell-tiles : (format : Format) (colour width height : ℕ) (rest : List ℕ)
    → spell 2 (tiles_table format colour) (width ∷ height ∷ rest)
    ≡ fields_word ((width, 20) ∷ (height, 20) ∷ []) ++ spell 2 (size_fields (tile_count (grid_with format width height)) (end_table colour)) rest
unfolding spell
spell-tiles format colour width height rest = simp append_assoc refl

pub spell-header : (header : FrameHeader) (sizes : List ℕ) → 10 ≤ header.info.depth
    → (header.use_matrix ≡ true → length (concat (take (header_comps header) header.matrices)) ≡ 64 * header_comps header)
    → (header.sizes_present ≡ true → length sizes ≡ tile_count (grid_of header))
    → frame_header_word header sizes ≡ prefix_word header sizes ++ alignment_word header
spell-header header sizes low matrices count =
    let format = format_of header.info in
    let colour = colour_flag header.colour in
    let from_sizes : List ℕ = size_values header.sizes_present sizes ++ 0 ∷ 0 ∷ [] in
    let from_tiles : List ℕ = header.tile_width ∷ header.tile_height ∷ from_sizes in
    let from_matrices : List ℕ = matrix_values header.use_matrix (header_comps header) header.matrices ++ from_tiles in
    let from_colour : List ℕ = colour_values header.colour ++ from_matrices in
    let info_word : List ℕ = fields_word (info_list header.info) in
    let tile_word : List ℕ = fields_word (tile_list header) in
    ap (spell 2 header_table) (same-values header sizes)
    ∙ spell-info header.info true (λ f. reserved 8 (colour_table f)) (0 ∷ from_colour) low
    ∙ ap (λ w. info_word ++ w) (spell-reserved (colour_table format) from_colour
    ∙ ap (λ w. bin 8 0 ++ w) (spell-colour header.colour (λ c. matrices_table format c) from_matrices
    ∙ ap (λ w. colour_word header.colour ++ w) (spell-matrices header.use_matrix (header_comps header) header.matrices (tiles_table format colour) from_tiles matrices
    ∙ ap (λ w. header_matrices_word header ++ w) (spell-tiles format colour header.tile_width header.tile_height from_sizes
    ∙ ap (λ w. tile_word ++ w)
    (spell-sizes header.sizes_present (tile_count (grid_of header)) sizes (end_table colour) (0 ∷ 0 ∷ []) count
    ∙ ap (λ w. sizes_word header.sizes_present sizes ++ w) (spell-end colour))))))
    ∙ sym (seven info_word (bin 8 0) (colour_word header.colour) (header_matrices_word header) tile_word (sizes_word header.sizes_present sizes) (bin 8 0) (alignment_word header))
  where
    seven : (a b c d e f g end : List ℕ) → (a ++ (b ++ (c ++ (d ++ (e ++ (f ++ g)))))) ++ end ≡ a ++ (b ++ (c ++ (d ++ (e ++ (f ++ (g ++ end))))))
    seven a b c d e f g end = simp append_assoc

-- the values of the matrices that a header states, from a count of them
stated-count : (used : Bool) (comps : ℕ) (matrices stated : List (List ℕ)) (n : ℕ) → stated ≡ stated_matrices used comps matrices → n ≡ length (concat stated) → n ≡ 64 * length stated
    → (used ≡ true → length stated ≡ comps) → used ≡ true → length (concat (take comps matrices)) ≡ 64 * comps
stated-count false comps matrices stated n is values count each u = absurd (let no : ⊥ = cc (u) in no)
stated-count true comps matrices stated n is values count each u = rw (← is, ← values, count, each refl) refl

-- the bits of a header whose matrices were counted
pub spelled-header : (header : FrameHeader) (sizes : List ℕ) (stated : List (List ℕ)) (n : ℕ) → IsSoundHeader header
    → (header.sizes_present ≡ true → length sizes ≡ tile_count (grid_of header))
    → stated ≡ stated_matrices header.use_matrix (header_comps header) header.matrices → n ≡ length (concat stated) → n ≡ 64 * length stated → (header.use_matrix ≡ true → length stated ≡ header_comps header)
    → frame_header_word header sizes ≡ prefix_word header sizes ++ alignment_word header
spelled-header header sizes stated n sound present is values count each =
    spell-header header sizes sound.info.format.low (stated-count header.use_matrix (header_comps header) header.matrices stated n is values count each) present
