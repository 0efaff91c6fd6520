-- The bits of the parts of a frame's header.
use Rattle.std.specs.Prelude.{◌≡◌, ℕ, ◌+◌, ◌*◌, ◌-◌, ◌^◌, ◌<◌, ◌≤◌}
use Rattle.std.specs.Prelude.{Bool, true, false, Option, Some, None, List, [], ◌∷◌, ◌++◌, length, take}
use Rattle.std.specs.List.{flat_map, concat}
use Rattle.apv_base.specs.declared.format.Colour.{Colour}
use Rattle.apv_base.specs.declared.format.FrameInfo.{FrameInfo}
use Rattle.apv_base.specs.declared.header.FrameHeader.{FrameHeader}
use Rattle.apv_base.specs.model.Bits.{bin, bits, padding}
use Rattle.apv_base.specs.model.Format.{idc_of}
use Rattle.apv_base.specs.model.Header.{flag, header_comps, header_table, header_values}
use Rattle.apv_base.specs.model.Table.{spell}
use Rattle.apv_bits.specs.declared.writer.BitWriter.{BitWriter}
use Rattle.apv_bits.specs.Writer.{bits_after}
use Rattle.apv_header.specs.Parts.{colour_flag}

-- room for n bits less is left
abbrev pub Leaves : BitWriter → BitWriter → ℕ → Type 0
Leaves old new n = length (bits_after new) + n ≡ length (bits_after old)

-- the bits of fields, each of which is a value and its number of bits
abbrev pub fields_word : List (ℕ × ℕ) → List ℕ
fields_word fields = flat_map (λ field. bin field.1 field.0) fields

-- the number of bits of fields
abbrev pub fields_bits : List (ℕ × ℕ) → ℕ
fields_bits [] = 0
fields_bits (field ∷ fields) = field.1 + fields_bits fields

-- each value fits its field of at most 32 bits
abbrev pub AreFields : List (ℕ × ℕ) → Type 0
AreFields [] = Unit {0}
AreFields (field ∷ fields) = (field.1 ≤ 32) × (field.0 < 2 ^ field.1) × AreFields fields

-- frame_info()
abbrev pub info_list : FrameInfo → List (ℕ × ℕ)
info_list info =
    (info.profile, 8) ∷ (info.level, 8) ∷ (info.band, 3) ∷ (0, 5) ∷ (info.width, 24) ∷ (info.height, 24)
    ∷ (idc_of info.chroma, 4) ∷ (info.depth - 8, 4) ∷ (info.capture, 8) ∷ (0, 8) ∷ []

-- a colour description after a color_description_present_flag of 1
abbrev pub colour_list : Colour → List (ℕ × ℕ)
colour_list colour =
    (1, 1) ∷ (colour.primaries, 8) ∷ (colour.transfer, 8) ∷ (colour.matrix, 8)
    ∷ (flag colour.full_range, 1) ∷ []

-- color_description_present_flag and the colour description
abbrev pub colour_word : Option Colour → List ℕ
colour_word None = bin 1 0
colour_word (Some colour) = fields_word (colour_list colour)

-- the matrices that a header states, one for each component
abbrev pub stated_matrices : Bool → ℕ → List (List ℕ) → List (List ℕ)
stated_matrices false comps matrices = []
stated_matrices true comps matrices = take comps matrices

-- use_q_matrix and the matrices
abbrev pub matrices_word : Bool → ℕ → List (List ℕ) → List ℕ
matrices_word used comps matrices = bin 1 (flag used) ++ bits (concat (stated_matrices used comps matrices))

-- the sizes that a header states
abbrev pub sizes_in_header : Bool → List ℕ → List ℕ
sizes_in_header false sizes = []
sizes_in_header true sizes = sizes

-- tile_size_present_in_fh_flag and the sizes of the tiles
abbrev pub sizes_word : Bool → List ℕ → List ℕ
sizes_word present sizes = bin 1 (flag present) ++ flat_map (bin 32) (sizes_in_header present sizes)

-- the matrices of a header, with use_q_matrix
abbrev pub header_matrices_word : FrameHeader → List ℕ
header_matrices_word header = matrices_word header.use_matrix (header_comps header) header.matrices

-- tile_width_in_mbs and tile_height_in_mbs
abbrev pub tile_list : FrameHeader → List (ℕ × ℕ)
tile_list header = (header.tile_width, 20) ∷ (header.tile_height, 20) ∷ []

-- ---- frame_header()

-- the bits before the alignment bits
abbrev pub prefix_word : FrameHeader → List ℕ → List ℕ
prefix_word header sizes =
    fields_word (info_list header.info) ++ (bin 8 0 ++ (colour_word header.colour ++ (header_matrices_word header
    ++ (fields_word (tile_list header) ++ (sizes_word header.sizes_present sizes ++ bin 8 0)))))

-- their number
abbrev pub prefix_len : FrameHeader → List ℕ → ℕ
prefix_len header sizes =
    96 + (8 + (length (colour_word header.colour) + (length (header_matrices_word header)
    + (40 + (length (sizes_word header.sizes_present sizes) + 8)))))

-- the alignment bits
abbrev pub alignment_word : FrameHeader → List ℕ
alignment_word header = bin (padding (155 + 25 * colour_flag header.colour)) 0

-- all bits, as they are spelled
abbrev pub frame_header_word : FrameHeader → List ℕ → List ℕ
frame_header_word header sizes = spell 2 header_table (header_values header sizes)
