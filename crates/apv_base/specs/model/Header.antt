-- The fields of a frame's header: frame_header() of the RFC with frame_info(), quantization_matrix() and tile_info().
use Rattle.std.specs.Prelude.{◌≡◌, ℕ, ◌+◌, ◌-◌, ◌*◌, ◌<◌, ◌≤◌, Bool, true, false, ◌||◌, List, [], ◌∷◌, ◌++◌, length}
use Rattle.std.specs.Prelude.{take, replicate, slice_index_or, ◌^◌, Option, Some, None, IfSome, nat_lt, ◌==◌}
use Rattle.std.specs.Prelude.{if◌then◌else◌}
use Rattle.std.specs.List.{AllByRecursion, concat}
use Rattle.apv_base.specs.declared.rules.Rule.{Rule}
use Rattle.apv_base.specs.declared.rules.Rule.TheVariants.{V8, V9, V10, V11, V12, V13, V14, V15, V19}
use Rattle.apv_base.specs.declared.rules.HeadEnd.{HeadEnd}
use Rattle.apv_base.specs.declared.rules.HeadEnd.TheVariants.{Rule as breaks, Wide}
use Rattle.apv_base.specs.declared.format.Chroma.{Chroma}
use Rattle.apv_base.specs.declared.format.Format.{Format}
use Rattle.apv_base.specs.declared.format.FrameInfo.{FrameInfo}
use Rattle.apv_base.specs.declared.format.Colour.{Colour}
use Rattle.apv_base.specs.declared.header.FrameHeader.{FrameHeader}
use Rattle.apv_base.specs.model.Bits.{padding}
use Rattle.apv_base.specs.model.Format.{idc_of, chroma_of, comps_of, or_grey, is_bad_size, macroblocks, MAX_MACROBLOCKS}
use Rattle.apv_base.specs.model.Format.{IsSoundFormat}
use Rattle.apv_base.specs.model.Grid.{Grid, grid_with, tile_rule, tile_count}
use Rattle.apv_base.specs.model.Profile.{is_known, is_readable}
use Rattle.apv_base.specs.model.Quant.{IsMatrix}
use Rattle.apv_base.specs.model.Table.{Table, done, field, fields, no_check, must_be_zero}

-- ---- the checks

-- profile_idc is known
abbrev pub check_profile : ℕ → ℕ → Option HeadEnd
check_profile profile left = if is_known profile then None else Some (breaks V9)

-- frame_width and frame_height: V11, and then the limit L2
abbrev pub check_size : Format → Option HeadEnd
check_size format =
    if is_bad_size format then Some (breaks V11)
    else (if nat_lt MAX_MACROBLOCKS (macroblocks format) then Some (Wide (macroblocks format)) else None)

-- by the chroma format that a code has
abbrev pub check_chroma_of : ℕ → ℕ → Option Chroma → Option HeadEnd
check_chroma_of width height None = Some (breaks V10)
check_chroma_of width height (Some chroma) =
    check_size (record { width = width; height = height; chroma = chroma; depth = 0 })

-- chroma_format_idc: V10, and then the size
abbrev pub check_chroma : ℕ → ℕ → ℕ → ℕ → Option HeadEnd
check_chroma width height idc left = check_chroma_of width height (chroma_of idc)

-- bit_depth_minus8
abbrev pub check_depth : ℕ → ℕ → ℕ → ℕ → Option HeadEnd
check_depth profile idc value left =
    if nat_lt value 2 || nat_lt 4 value then Some (breaks V12)
    else (if is_readable profile (or_grey (chroma_of idc)) (value + 8) then None else Some (breaks V13))

-- a value of a quantisation matrix is not 0
abbrev pub check_matrix_value : ℕ → ℕ → Option HeadEnd
check_matrix_value value left = if value == 0 then Some (breaks V15) else None

-- a rule that is broken
abbrev pub head_end : Option Rule → Option HeadEnd
head_end None = None
head_end (Some rule) = Some (breaks rule)

-- at the height of the tiles, after their width
abbrev pub check_tiles : Format → ℕ → ℕ → ℕ → Option HeadEnd
check_tiles format tile_width tile_height left = head_end (tile_rule (grid_with format tile_width tile_height))

-- a check that is made where values are judged
abbrev pub where_judged : Bool → (ℕ → ℕ → Option HeadEnd) → ℕ → ℕ → Option HeadEnd
where_judged judged check value left = if judged then check value left else None

-- ---- the fields

-- a field of n bits whose value is free; a flag; a reserved byte
abbrev pub free : ℕ → (ℕ → Table HeadEnd) → Table HeadEnd
free n next = field n (breaks V8) no_check next

-- a reserved field, which must be 0
abbrev pub reserved : ℕ → Table HeadEnd → Table HeadEnd
reserved n next = field n (breaks V8) (must_be_zero (breaks V14)) (λ zero. next)

-- frame_info(): its values are judged, or its reserved bits alone; what follows may depend on the format
abbrev pub info_fields : Bool → (Format → Table HeadEnd) → Table HeadEnd
info_fields judged next =
    field 8 (breaks V8) (where_judged judged check_profile) (λ profile.
    free 8 (λ level.
    free 3 (λ band.
    reserved 5 (
    free 24 (λ width.
    free 24 (λ height.
    field 4 (breaks V8) (where_judged judged (check_chroma width height)) (λ idc.
    field 4 (breaks V8) (where_judged judged (check_depth profile idc)) (λ depth.
    free 8 (λ capture.
    reserved 8 (
    next (record { width = width; height = height; chroma = or_grey (chroma_of idc); depth = depth + 8 })))))))))))

-- frame_info() alone
abbrev pub info_table : Table HeadEnd
info_table = info_fields true (λ format. done)

-- color_description_present_flag and what it announces; what follows may depend on the flag
abbrev pub colour_fields : (ℕ → Table HeadEnd) → Table HeadEnd
colour_fields next = free 1 (λ present.
    if present == 1
    then free 8 (λ primaries. free 8 (λ transfer. free 8 (λ matrix. free 1 (λ full_range. next present))))
    else next present)

-- use_q_matrix and the 64 values of each matrix, row after row
abbrev pub matrix_fields : ℕ → Table HeadEnd → Table HeadEnd
matrix_fields comps next = free 1 (λ present.
    if present == 1 then fields (64 * comps) 8 (breaks V8) check_matrix_value (λ values. next) else next)

-- tile_size_present_in_fh_flag and the size of each tile
abbrev pub size_fields : ℕ → Table HeadEnd → Table HeadEnd
size_fields count next = free 1 (λ present.
    if present == 1 then fields count 32 (breaks V8) no_check (λ sizes. next) else next)

-- Zeros up to a whole byte. The fields before them have 155 bits, 25 more with a colour description, and then the
-- matrices and the sizes of the tiles, which are whole bytes.
abbrev pub alignment_fields : ℕ → Table HeadEnd → Table HeadEnd
alignment_fields colour next =
    field (padding (155 + 25 * colour)) (breaks V8) (must_be_zero (breaks V19)) (λ zero. next)

-- frame_header()
abbrev pub header_table : Table HeadEnd
header_table =
    info_fields true (λ format.
    reserved 8 (
    colour_fields (λ colour.
    matrix_fields (comps_of format.chroma) (
    free 20 (λ tile_width.
    field 20 (breaks V8) (check_tiles format tile_width) (λ tile_height.
    size_fields (tile_count (grid_with format tile_width tile_height)) (
    reserved 8 (
    alignment_fields colour done))))))))

-- ---- the values

-- the values of frame_info()
abbrev pub info_values : FrameInfo → List ℕ
info_values info =
    info.profile ∷ info.level ∷ info.band ∷ 0 ∷ info.width ∷ info.height
    ∷ idc_of info.chroma ∷ (info.depth - 8) ∷ info.capture ∷ 0 ∷ []

-- a flag as a number
abbrev pub flag : Bool → ℕ
flag true = 1
flag false = 0

-- the values of a colour description, after its flag
abbrev pub colour_values : Option Colour → List ℕ
colour_values None = 0 ∷ []
colour_values (Some colour) = 1 ∷ colour.primaries ∷ colour.transfer ∷ colour.matrix ∷ flag colour.full_range ∷ []

-- the values of the matrices, after their flag
abbrev pub matrix_values : Bool → ℕ → List (List ℕ) → List ℕ
matrix_values false comps matrices = 0 ∷ []
matrix_values true comps matrices = 1 ∷ concat (take comps matrices)

-- the sizes of the tiles, after their flag
abbrev pub size_values : Bool → List ℕ → List ℕ
size_values false sizes = 0 ∷ []
size_values true sizes = 1 ∷ sizes

-- the format of a frame
abbrev pub format_of : FrameInfo → Format
format_of info = record { width = info.width; height = info.height; chroma = info.chroma; depth = info.depth }

-- the grid of a frame
abbrev pub grid_of : FrameHeader → Grid
grid_of header = grid_with (format_of header.info) header.tile_width header.tile_height

-- the number of components
abbrev pub header_comps : FrameHeader → ℕ
header_comps header = comps_of header.info.chroma

-- the values of a header with these sizes of tiles
abbrev pub header_values : FrameHeader → List ℕ → List ℕ
header_values header sizes =
    info_values header.info ++ 0 ∷ []
    ++ colour_values header.colour
    ++ matrix_values header.use_matrix (header_comps header) header.matrices
    ++ header.tile_width ∷ header.tile_height ∷ []
    ++ size_values header.sizes_present sizes
    ++ 0 ∷ 0 ∷ []

-- ---- sound headers

-- a frame_info() that breaks no rule
pub record IsSoundInfo (info : FrameInfo) : Type 0 where
  pub format : IsSoundFormat (format_of info)
  pub level : info.level < 256
  pub band : info.band ≤ 7
  pub capture : info.capture < 256
  pub readable : is_readable info.profile info.chroma info.depth ≡ true

-- the numbers of a colour description are bytes
pub record IsSoundColour (colour : Colour) : Type 0 where
  pub primaries : colour.primaries < 256
  pub transfer : colour.transfer < 256
  pub matrix : colour.matrix < 256

-- a matrix without effect, which has 16 everywhere
abbrev pub flat : List ℕ
flat = replicate 64 16

-- a header that breaks no rule; the matrix of a component that has none is flat
pub record IsSoundHeader (header : FrameHeader) : Type 0 where
  pub info : IsSoundInfo header.info
  pub colour : IfSome header.colour IsSoundColour
  pub width : header.tile_width < 2 ^ 20
  pub height : header.tile_height < 2 ^ 20
  pub tiles : tile_rule (grid_of header) ≡ None
  pub four : length header.matrices ≡ 4
  pub each : AllByRecursion IsMatrix header.matrices
  pub matrices : (comp : ℕ) → comp < 4 → (header.use_matrix ≡ true → header_comps header ≤ comp)
      → slice_index_or header.matrices comp [] ≡ flat
