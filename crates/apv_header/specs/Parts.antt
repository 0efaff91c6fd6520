-- The parts of a frame's header after frame_info(): what it is that a part passes, and that it breaks a rule.
use Rattle.std.specs.Prelude.{◌≡◌, ◌<◌, ◌≤◌, ℕ, ◌+◌, ◌*◌, Bool, true, false, Option, Some, None}
use Rattle.std.specs.Prelude.{List, [], ◌∷◌, ◌++◌, take, slice_index_or}
use Rattle.std.specs.List.{concat}
use Rattle.apv_base.specs.declared.rules.HeadEnd.{HeadEnd}
use Rattle.apv_base.specs.declared.rules.HeadEnd.TheVariants.{Rule as breaks}
use Rattle.apv_base.specs.declared.rules.Rule.TheVariants.{V8, V19}
use Rattle.apv_base.specs.declared.format.Format.{Format}
use Rattle.apv_base.specs.declared.format.Colour.{Colour}
use Rattle.apv_base.specs.declared.header.FrameHeader.{FrameHeader}
use Rattle.apv_base.specs.model.Grid.{Grid, tile_count}
use Rattle.apv_base.specs.model.Header.{free, flag, flat, check_matrix_value, check_tiles, header_comps, grid_of}
use Rattle.apv_base.specs.model.Header.{info_values, colour_values, matrix_values, size_values}
use Rattle.apv_base.specs.model.Header.{colour_fields, matrix_fields, size_fields, alignment_fields, header_table}
use Rattle.apv_base.specs.model.Quant.{IsMatrix}
use Rattle.apv_base.specs.model.Table.{Table, field, fields, done, no_check, must_be_zero}
use Rattle.apv_bits.specs.Reader.{Unread}
use Rattle.apv_header.specs.Fields.{WalksBits, BitsBreak, HasFields, FieldsBreak, HasNumber, NumberBreaks}

-- ---- the colour description

-- color_primaries, transfer_characteristics, matrix_coefficients and full_range_flag
abbrev pub description_fields : Table HeadEnd → Table HeadEnd
description_fields next = free 8 (λ primaries. free 8 (λ transfer. free 8 (λ matrix. free 1 (λ full_range. next))))

abbrev pub description_values : Colour → List ℕ
description_values colour = colour.primaries ∷ colour.transfer ∷ colour.matrix ∷ flag colour.full_range ∷ []

abbrev pub HasDescription : Unread → Colour → Unread → Type 0
HasDescription old colour new = HasFields description_fields 25 old (description_values colour) new

abbrev pub DescriptionBreaks : Unread → HeadEnd → Type 0
DescriptionBreaks old end = FieldsBreak description_fields old end

-- color_description_present_flag
abbrev pub colour_flag : Option Colour → ℕ
colour_flag None = 0
colour_flag (Some colour) = 1

-- the bits of the flag and of the description
abbrev pub colour_bits : Option Colour → ℕ
colour_bits None = 1
colour_bits (Some colour) = 26

-- the flag and the description; what follows may depend on the flag
abbrev pub HasColour : Unread → Option Colour → Unread → Type 0
HasColour old colour new =
    (next : ℕ → Table HeadEnd)
    → WalksBits (colour_fields next) old (colour_bits colour) (colour_values colour) (next (colour_flag colour)) new

abbrev pub ColourBreaks : Unread → HeadEnd → Type 0
ColourBreaks old end = (next : ℕ → Table HeadEnd) → BitsBreak (colour_fields next) old end

-- ---- the matrices

-- a value of a matrix
abbrev pub HasMatrixValue : Unread → ℕ → Unread → Type 0
HasMatrixValue old value new = HasNumber 8 check_matrix_value old value new

abbrev pub MatrixValueBreaks : Unread → HeadEnd → Type 0
MatrixValueBreaks old end = NumberBreaks 8 check_matrix_value old end

-- n values of matrices
abbrev pub matrix_value_fields : ℕ → Table HeadEnd → Table HeadEnd
matrix_value_fields count next = fields count 8 (breaks V8) check_matrix_value (λ values. next)

-- the 64 values of a matrix, and more values after them
abbrev pub HasMatrix : Unread → List ℕ → Unread → Type 0
HasMatrix old matrix new =
    (more : ℕ) (next : Table HeadEnd)
    → WalksBits (matrix_value_fields (64 + more) next) old 512 matrix (matrix_value_fields more next) new

abbrev pub MatrixBreaks : Unread → HeadEnd → Type 0
MatrixBreaks old end =
    (more : ℕ) (next : Table HeadEnd) → BitsBreak (matrix_value_fields (64 + more) next) old end

-- the matrices of the first components
abbrev pub HasMatricesOf : ℕ → Unread → List (List ℕ) → Unread → Type 0
HasMatricesOf comps old matrices new =
    HasFields (matrix_value_fields (64 * comps)) (512 * comps) old (concat (take comps matrices)) new

abbrev pub MatricesOfBreak : ℕ → Unread → HeadEnd → Type 0
MatricesOfBreak comps old end = FieldsBreak (matrix_value_fields (64 * comps)) old end

-- use_q_matrix and the matrices
abbrev pub matrix_bits : Bool → ℕ → ℕ
matrix_bits false comps = 1
matrix_bits true comps = 1 + 512 * comps

abbrev pub HasMatrices : ℕ → Unread → Bool × List (List ℕ) → Unread → Type 0
HasMatrices comps old read new =
    HasFields (matrix_fields comps) (matrix_bits read.0 comps) old (matrix_values read.0 comps read.1) new

abbrev pub MatricesBreak : ℕ → Unread → HeadEnd → Type 0
MatricesBreak comps old end = FieldsBreak (matrix_fields comps) old end

-- each of four is a matrix
abbrev pub AreMatrices : List (List ℕ) → Type 0
AreMatrices matrices = (comp : ℕ) → comp < 4 → IsMatrix (slice_index_or matrices comp [])

-- those of the other components are flat
abbrev pub AreFlatFrom : ℕ → List (List ℕ) → Type 0
AreFlatFrom comps matrices = (comp : ℕ) → comp < 4 → comps ≤ comp → slice_index_or matrices comp [] ≡ flat

-- those that aren't stated are flat: of all components without use_q_matrix
abbrev pub AreFlatUnlessStated : ℕ → Bool × List (List ℕ) → Type 0
AreFlatUnlessStated comps read =
    (comp : ℕ) → comp < 4 → (read.0 ≡ true → comps ≤ comp) → slice_index_or read.1 comp [] ≡ flat

-- ---- the tiles

-- tile_width_in_mbs and tile_height_in_mbs
abbrev pub grid_fields : Format → (ℕ → ℕ → Table HeadEnd) → Table HeadEnd
grid_fields format next =
    free 20 (λ tile_width. field 20 (breaks V8) (check_tiles format tile_width) (next tile_width))

-- a width and a height of tiles, and their grid; what follows may depend on them
abbrev pub HasGrid : Format → Unread → ℕ × ℕ × Grid → Unread → Type 0
HasGrid format old tiles new =
    (next : ℕ → ℕ → Table HeadEnd)
    → WalksBits (grid_fields format next) old 40 (tiles.0 ∷ tiles.1 ∷ []) (next tiles.0 tiles.1) new

abbrev pub GridBreaks : Format → Unread → HeadEnd → Type 0
GridBreaks format old end = (next : ℕ → ℕ → Table HeadEnd) → BitsBreak (grid_fields format next) old end

-- n sizes of tiles
abbrev pub tile_size_fields : ℕ → Table HeadEnd → Table HeadEnd
tile_size_fields count next = fields count 32 (breaks V8) no_check (λ sizes. next)

abbrev pub HasTileSizes : ℕ → Unread → List ℕ → Unread → Type 0
HasTileSizes count old sizes new = HasFields (tile_size_fields count) (32 * count) old sizes new

abbrev pub TileSizesBreak : ℕ → Unread → HeadEnd → Type 0
TileSizesBreak count old end = FieldsBreak (tile_size_fields count) old end

-- tile_size_present_in_fh_flag and the sizes
abbrev pub size_bits : Bool → ℕ → ℕ
size_bits false count = 1
size_bits true count = 1 + 32 * count

abbrev pub HasSizes : ℕ → Unread → Bool → List ℕ → Unread → Type 0
HasSizes count old present sizes new =
    HasFields (size_fields count) (size_bits present count) old (size_values present sizes) new

abbrev pub SizesBreak : ℕ → Unread → HeadEnd → Type 0
SizesBreak count old end = FieldsBreak (size_fields count) old end

-- ---- the alignment bits

-- n alignment bits
abbrev pub zero_fields : ℕ → Table HeadEnd → Table HeadEnd
zero_fields n next = field n (breaks V8) (must_be_zero (breaks V19)) (λ zero. next)

abbrev pub HasAlignment : ℕ → Unread → Unread → Type 0
HasAlignment n old new = HasFields (zero_fields n) n old (0 ∷ []) new

abbrev pub AlignmentBreaks : ℕ → Unread → HeadEnd → Type 0
AlignmentBreaks n old end = FieldsBreak (zero_fields n) old end

-- ---- all fields before the alignment bits

-- their bits
abbrev pub prefix_bits : FrameHeader → ℕ
prefix_bits header =
    96 + (8 + (colour_bits header.colour + (matrix_bits header.use_matrix (header_comps header)
    + (40 + (size_bits header.sizes_present (tile_count (grid_of header)) + 8)))))

-- their values
abbrev pub prefix_values : FrameHeader → List ℕ → List ℕ
prefix_values header sizes =
    info_values header.info ++ ((0 ∷ []) ++ (colour_values header.colour
    ++ (matrix_values header.use_matrix (header_comps header) header.matrices
    ++ ((header.tile_width ∷ header.tile_height ∷ []) ++ (size_values header.sizes_present sizes ++ (0 ∷ []))))))

-- the fields of this header and these sizes, and then the alignment bits
abbrev pub HasPrefix : Unread → FrameHeader → List ℕ → Unread → Type 0
HasPrefix old header sizes new =
    WalksBits header_table old (prefix_bits header) (prefix_values header sizes)
    (alignment_fields (colour_flag header.colour) done) new

abbrev pub PrefixBreaks : Unread → HeadEnd → Type 0
PrefixBreaks old end = BitsBreak header_table old end
