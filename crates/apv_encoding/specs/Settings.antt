-- What an encoder is asked for, as plain values, and what follows from them for each track.
use Rattle.std.specs.Prelude.{◌≡◌, ℕ, ℤ, pos, ◌-◌, ◌≤◌, Bool, false, ◌||◌, not, List, [], ◌∷◌, ◌++◌, map, take}
use Rattle.std.specs.Prelude.{slice_index_or, replicate, Option, Some, None, is_some, nat_lt, if◌then◌else◌}
use Rattle.std.specs.List.{list_any}
use Rattle.apv_base.specs.declared.exits.VideoRule.TheVariants.{Size, Profile, Grid, Qp}
use Rattle.apv_base.specs.declared.format.Chroma.TheVariants.{C400, C422}
use Rattle.apv_base.specs.declared.format.Colour.{Colour}
use Rattle.apv_base.specs.declared.format.Format.{Format}
use Rattle.apv_base.specs.declared.format.FrameInfo.{FrameInfo}
use Rattle.apv_base.specs.declared.header.FrameHeader.{FrameHeader}
use Rattle.apv_base.specs.declared.rules.Limit.TheVariants.{L2}
use Rattle.apv_base.specs.declared.slot.Slot.{Slot}
use Rattle.apv_base.specs.declared.slot.Slot.TheVariants.{Input, Preview, Depth, Alpha}
use Rattle.apv_base.specs.model.Encode.{Qps}
use Rattle.apv_base.specs.model.Format.{comps_of, macroblock_columns, macroblock_rows, macroblocks, MAX_MACROBLOCKS}
use Rattle.apv_base.specs.model.Grid.{default_size, grid_with, tile_columns, tile_rows}
use Rattle.apv_base.specs.model.Header.{flat}
use Rattle.apv_base.specs.model.Nearest.{primary_qps, plain_qps}
use Rattle.apv_base.specs.model.Profile.{is_writable, default_of}
use Rattle.apv_base.specs.model.Quant.{max_qp}
use Rattle.apv_base.specs.model.Video.{VideoFault, bad, over, is_bad_video_size}

-- where the pictures of the primary frames come from: a planar file of this format, or a Y4M file
pub data Source : Type 0 where
  planar : (format : Format) → Source
  y4m : Source

-- the QP of each access unit, or the maximum of its bytes (au_size) with the first and the last QP that are tried
pub data RateControl : Type 0 where
  fixed : (qp : ℕ) → RateControl
  limited : (limit : ℕ) (first last : Option ℕ) → RateControl

pub record EncoderSettings : Type 0 where
  pub source : Source
  pub profile : Option ℕ
  pub level : ℕ
  pub band : ℕ
  pub rate : RateControl
  pub offsets : List ℤ  -- of the QPs of the components 1 to 3
  pub matrices : List (Option (List ℕ))  -- of the components 0 to 3
  pub colour : Option Colour
  pub tile_width : Option ℕ
  pub tile_height : Option ℕ
  pub sizes_present : Bool
  pub preview : Option (ℕ × ℕ)  -- the width and height of the preview frames
  pub depth : Bool
  pub alpha : Bool
  pub au_info : Bool
  pub filler : Option ℕ
  pub output : Bool
  pub recon : Bool

-- a value that is given, or another one
abbrev pub given_or : {A : Type 0} → Option A → A → A
given_or (Some value) other = value
given_or None other = other

abbrev pub first_given : {A : Type 0} → Option A → Option A → Option A
first_given (Some value) other = Some value
first_given None other = other

-- ---- headers

-- profile_idc of the primary frames: what is asked for, or the default of the format
abbrev pub profile_of : EncoderSettings → Format → Option ℕ
profile_of settings format = first_given settings.profile (default_of format.chroma format.depth)

-- tile_width_in_mbs and tile_height_in_mbs of the primary, depth and alpha frames
abbrev pub tile_width_of : EncoderSettings → Format → ℕ
tile_width_of settings format = given_or settings.tile_width (default_size (macroblock_columns format))

abbrev pub tile_height_of : EncoderSettings → Format → ℕ
tile_height_of settings format = given_or settings.tile_height (default_size (macroblock_rows format))

abbrev pub info_of : EncoderSettings → ℕ → Format → FrameInfo
info_of settings profile format = record {
  profile = profile;
  level = settings.level;
  band = settings.band;
  width = format.width;
  height = format.height;
  chroma = format.chroma;
  depth = format.depth;
  capture = 0;
}

-- use_q_matrix: the matrix of a component that exists is given
abbrev pub uses_matrix : EncoderSettings → Format → Bool
uses_matrix settings format = list_any is_some (take (comps_of format.chroma) settings.matrices)

-- the matrices: those that are given, of the components that exist, and flat ones for all others
abbrev pub matrices_of : EncoderSettings → Format → List (List ℕ)
matrices_of settings format =
    let comps = comps_of format.chroma in
    map (λ matrix. given_or matrix flat) (take comps settings.matrices) ++ replicate (4 - comps) flat

abbrev pub primary_header : EncoderSettings → Format → FrameHeader
primary_header settings format = record {
  info = info_of settings (given_or (profile_of settings format) 0) format;
  colour = settings.colour;
  use_matrix = uses_matrix settings format;
  matrices = matrices_of settings format;
  tile_width = tile_width_of settings format;
  tile_height = tile_height_of settings format;
  sizes_present = settings.sizes_present;
}

-- the header of a preview, depth or alpha frame: flat matrices and no colour description
abbrev pub further_header : EncoderSettings → ℕ → Format → ℕ → ℕ → FrameHeader
further_header settings profile format tile_width tile_height = record {
  info = info_of settings profile format;
  colour = None;
  use_matrix = false;
  matrices = replicate 4 flat;
  tile_width = tile_width;
  tile_height = tile_height;
  sizes_present = settings.sizes_present;
}

-- preview frames are 4:2:2 with 10 bits and the default tiles
abbrev pub preview_format : ℕ × ℕ → Format
preview_format size = record { width = size.0; height = size.1; chroma = C422; depth = 10 }

abbrev pub preview_header : EncoderSettings → ℕ × ℕ → FrameHeader
preview_header settings size =
    let format = preview_format size in
    further_header settings 33 format (default_size (macroblock_columns format)) (default_size (macroblock_rows format))

-- depth and alpha frames are 4:0:0 with 10 bits, of the size of the primary frames and with their tiles
abbrev pub grey_format : Format → Format
grey_format format = record { width = format.width; height = format.height; chroma = C400; depth = 10 }

abbrev pub grey_header : EncoderSettings → Format → FrameHeader
grey_header settings format =
    further_header settings 99 (grey_format format) (tile_width_of settings format) (tile_height_of settings format)

-- ---- tracks

-- The pictures of a slot as they are coded: pbu_type and the header of their frames, and the QPs of an access unit's
-- QP.
pub record Track : Type 0 where
  pub slot : Slot
  pub kind : ℕ
  pub header : FrameHeader
  pub qps : ℕ → Qps

-- the offset of the QPs of a component, which is 0 for component 0
abbrev pub offset_of : EncoderSettings → ℕ → ℤ
offset_of settings comp = slice_index_or (pos 0 ∷ settings.offsets) comp (pos 0)

abbrev pub primary_track : EncoderSettings → Format → (ℕ → ℤ) → Track
primary_track settings format tile_offset = record {
  slot = Input;
  kind = 1;
  header = primary_header settings format;
  qps = primary_qps format.depth (offset_of settings) tile_offset;
}

abbrev pub preview_track : EncoderSettings → ℕ × ℕ → Track
preview_track settings size =
    record { slot = Preview; kind = 25; header = preview_header settings size; qps = plain_qps 10 }

abbrev pub grey_track : EncoderSettings → Format → Slot → ℕ → Track
grey_track settings format slot kind =
    record { slot = slot; kind = kind; header = grey_header settings format; qps = plain_qps 10 }

abbrev pub preview_tracks : EncoderSettings → Option (ℕ × ℕ) → List Track
preview_tracks settings None = []
preview_tracks settings (Some size) = preview_track settings size ∷ []

-- a track where it is asked for
abbrev pub where_asked : Bool → Track → List Track
where_asked asked track = if asked then track ∷ [] else []

-- the tracks in the order in which they are read and in which their frames are in an access unit: primary, preview,
-- depth and alpha; tile_offset has the offset of the QPs of each tile of the primary frames
abbrev pub tracks_of : EncoderSettings → Format → (ℕ → ℤ) → List Track
tracks_of settings format tile_offset =
    primary_track settings format tile_offset
    ∷ preview_tracks settings settings.preview
    ++ where_asked settings.depth (grey_track settings format Depth 26)
    ++ where_asked settings.alpha (grey_track settings format Alpha 27)

-- ---- judging the formats

-- the size of frames: their width and height, and then the number of their macroblocks
abbrev pub check_size_of : Format → Option VideoFault
check_size_of format =
    if is_bad_video_size format then Some (bad Size)
    else (if nat_lt MAX_MACROBLOCKS (macroblocks format) then Some (over L2 (macroblocks format)) else None)

abbrev pub is_written : Option ℕ → Format → Bool
is_written None format = false
is_written (Some profile) format = is_writable profile format.chroma format.depth

-- there are more than 20 columns or rows of tiles
abbrev pub has_many_tiles : EncoderSettings → Format → Bool
has_many_tiles settings format =
    let grid = grid_with format (tile_width_of settings format) (tile_height_of settings format) in
    nat_lt 20 (tile_columns grid) || nat_lt 20 (tile_rows grid)

-- a QP that is given is above the maximum of the bit depth
abbrev pub has_large_qp : RateControl → ℕ → Bool
has_large_qp (fixed qp) depth = nat_lt (max_qp depth) qp
has_large_qp (limited limit first last) depth =
    nat_lt (max_qp depth) (given_or first 0) || nat_lt (max_qp depth) (given_or last 0)

-- why the format of the primary frames is refused, in this order: size, macroblocks, profile, tiles, QPs
abbrev pub check_input : EncoderSettings → Format → Option VideoFault
check_input settings format = first_given (check_size_of format) (
    if not (is_written (profile_of settings format) format) then Some (bad Profile)
    else (if has_many_tiles settings format then Some (bad Grid)
    else (if has_large_qp settings.rate format.depth then Some (bad Qp) else None)))

abbrev pub check_preview : Option (ℕ × ℕ) → Option VideoFault
check_preview None = None
check_preview (Some size) = check_size_of (preview_format size)

-- ---- permitted QPs

-- with a limit the QPs from the first to the last one, which are 0 and the maximum of the bit depth where none is given
abbrev pub IsPermittedQp : RateControl → ℕ → ℕ → Type 0
IsPermittedQp (fixed qp) depth q = q ≡ qp
IsPermittedQp (limited limit first last) depth q = (given_or first 0 ≤ q) × (q ≤ given_or last (max_qp depth))
