-- The parts of frame_info(): what it is that a part passes, and that it breaks a rule.
use Rattle.std.specs.Prelude.{◌≡◌, ◌-◌, ℕ, List, [], ◌∷◌, Bool, true, Option, Result, Ok, Err}
use Rattle.apv_base.specs.declared.format.Chroma.{Chroma}
use Rattle.apv_base.specs.declared.format.Format.{Format}
use Rattle.apv_base.specs.declared.format.FrameInfo.{FrameInfo}
use Rattle.apv_base.specs.declared.rules.HeadEnd.{HeadEnd}
use Rattle.apv_base.specs.declared.rules.HeadEnd.TheVariants.{Rule as breaks}
use Rattle.apv_base.specs.declared.rules.Rule.TheVariants.{V8}
use Rattle.apv_base.specs.model.Format.{idc_of}
use Rattle.apv_base.specs.model.Header.{check_profile, check_size, check_chroma, check_depth, free, reserved}
use Rattle.apv_base.specs.model.Header.{info_fields, info_table, info_values, format_of}
use Rattle.apv_base.specs.model.Table.{Table, field, walk, spell}
use Rattle.apv_bits.specs.Reader.{Unread}
use Rattle.apv_header.specs.Fields.{WalksBits, BitsBreak, HasNumber, NumberBreaks}

-- ---- profile_idc, level_idc and band_idc

abbrev pub HasProfile : Unread → ℕ → Unread → Type 0
HasProfile old profile new = HasNumber 8 check_profile old profile new

abbrev pub ProfileBreaks : Unread → HeadEnd → Type 0
ProfileBreaks old end = NumberBreaks 8 check_profile old end

-- profile_idc, level_idc, band_idc and the reserved bits
abbrev pub profile_fields : (ℕ → Table HeadEnd) → Table HeadEnd
profile_fields next =
    field 8 (breaks V8) check_profile (λ profile. free 8 (λ level. free 3 (λ band. reserved 5 (next profile))))

-- with these three values
abbrev pub HasProfileLevelBand : Unread → ℕ × ℕ × ℕ → Unread → Type 0
HasProfileLevelBand old idc new =
    (next : ℕ → Table HeadEnd)
    → WalksBits (profile_fields next) old 24 (idc.0 ∷ idc.1 ∷ idc.2 ∷ 0 ∷ []) (next idc.0) new

abbrev pub ProfileLevelBandBreaks : Unread → HeadEnd → Type 0
ProfileLevelBandBreaks old end = (next : ℕ → Table HeadEnd) → BitsBreak (profile_fields next) old end

-- ---- frame_width, frame_height and chroma_format_idc

-- the fault of a frame's size, if it has one
abbrev pub size_fault : ℕ → ℕ → Chroma → Option HeadEnd
size_fault width height chroma =
    check_size (record { width = width; height = height; chroma = chroma; depth = 0 })

-- chroma_format_idc in a frame of this width and height
abbrev pub HasChroma : ℕ → ℕ → Unread → Chroma → Unread → Type 0
HasChroma width height old chroma new = HasNumber 4 (check_chroma width height) old (idc_of chroma) new

abbrev pub ChromaBreaks : ℕ → ℕ → Unread → HeadEnd → Type 0
ChromaBreaks width height old end = NumberBreaks 4 (check_chroma width height) old end

-- frame_width, frame_height and chroma_format_idc
abbrev pub frame_size_fields : (ℕ → ℕ → ℕ → Table HeadEnd) → Table HeadEnd
frame_size_fields next =
    free 24 (λ width. free 24 (λ height.
    field 4 (breaks V8) (check_chroma width height) (next width height)))

abbrev pub HasFrameSize : Unread → ℕ × ℕ × Chroma → Unread → Type 0
HasFrameSize old size new =
    (next : ℕ → ℕ → ℕ → Table HeadEnd)
    → WalksBits (frame_size_fields next) old 52 (size.0 ∷ size.1 ∷ idc_of size.2 ∷ [])
    (next size.0 size.1 (idc_of size.2)) new

abbrev pub FrameSizeBreaks : Unread → HeadEnd → Type 0
FrameSizeBreaks old end = (next : ℕ → ℕ → ℕ → Table HeadEnd) → BitsBreak (frame_size_fields next) old end

-- ---- bit_depth_minus8, in a frame of this profile and chroma format

abbrev pub HasDepth : ℕ → Chroma → Unread → ℕ → Unread → Type 0
HasDepth profile chroma old depth new = HasNumber 4 (check_depth profile (idc_of chroma)) old (depth - 8) new

abbrev pub DepthBreaks : ℕ → Chroma → Unread → HeadEnd → Type 0
DepthBreaks profile chroma old end = NumberBreaks 4 (check_depth profile (idc_of chroma)) old end

-- ---- frame_info(), and whatever follows it

abbrev pub HasInfo : Unread → FrameInfo → Unread → Type 0
HasInfo old info new =
    (next : Format → Table HeadEnd)
    → WalksBits (info_fields true next) old 96 (info_values info) (next (format_of info)) new

abbrev pub InfoBreaks : Unread → HeadEnd → Type 0
InfoBreaks old end = (next : Format → Table HeadEnd) → BitsBreak (info_fields true next) old end

-- ---- frame_info() alone

-- its bits
abbrev pub frame_info_word : FrameInfo → List ℕ
frame_info_word info = spell 2 info_table (info_values info)

-- the walk over its fields gives these values
abbrev pub HasFrameInfo : Unread → FrameInfo → Unread → Type 0
HasFrameInfo old info new =
    ◌≡◌ {A = Result (List ℕ × List ℕ) HeadEnd} (walk 2 info_table old.left) (Ok (info_values info, new.left))

-- the walk over its fields ends at this fault
abbrev pub FrameInfoBreaks : Unread → HeadEnd → Type 0
FrameInfoBreaks old end = ◌≡◌ {A = Result (List ℕ × List ℕ) HeadEnd} (walk 2 info_table old.left) (Err end)
