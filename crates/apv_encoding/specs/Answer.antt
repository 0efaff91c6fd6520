-- What an encoder writes and answers, for its settings and the files that it reads.
use Rattle.std.specs.Prelude.{◌≡◌, ℕ, ℤ, pos, negsuc, ◌+◌, ◌-◌, ◌<◌, ◌≤◌, List, [], ◌∷◌, length, slice_index}
use Rattle.std.specs.Prelude.{slice_index_or, Option, Some, None, if◌then◌else◌, nat_lt, ⊤}
use Rattle.std.specs.List.{flat_map}
use Rattle.apv_base.specs.declared.exits.Exit.{Exit}
use Rattle.apv_base.specs.declared.exits.Exit.TheVariants.{LimitMet, BadPayloads, BadTileQp, TooLarge}
use Rattle.apv_base.specs.declared.format.Format.{Format}
use Rattle.apv_base.specs.declared.header.FrameHeader.{FrameHeader}
use Rattle.apv_base.specs.declared.rules.Limit.TheVariants.{L1}
use Rattle.apv_base.specs.declared.slot.Slot.TheVariants.{Input, Preview}
use Rattle.apv_base.specs.model.CodedFrame.{Levels}
use Rattle.apv_base.specs.model.Encode.{Qps, frame_with}
use Rattle.apv_base.specs.model.Grid.{tile_count}
use Rattle.apv_base.specs.model.Header.{grid_of}
use Rattle.apv_base.specs.model.Payload.{Payload, ArePayloads, HasPartialPayload}
use Rattle.apv_base.specs.model.Picture.{frame_picture}
use Rattle.apv_base.specs.model.Run.{MAX_UNIT, MAX_UNITS, sized}
use Rattle.apv_base.specs.model.Video.{VideoFault, VideoHeaderAt, VideoHeaderBreaks}
use Rattle.apv_encoding.specs.AccessUnit.{Pictures, EncodedUnit, IsUnitOf, HasSizeAt, IsChosen, FitsNowhere}
use Rattle.apv_encoding.specs.Settings.{EncoderSettings, Source, planar, y4m, fixed, limited}
use Rattle.apv_encoding.specs.Settings.{Track, primary_track, tracks_of, primary_header, check_input, check_preview}
use Rattle.apv_encoding.specs.Tracks.{Contents, video_exit, FrameAt, FramesAt, FramesStop}

-- ---- the file of QP offsets

-- the number that a byte is in two's complement
abbrev pub signed_byte : ℕ → ℤ
signed_byte byte = if nat_lt byte 128 then pos byte else negsuc (255 - byte)

-- the byte at a place of the file is wrong: it is missing, is outside -75 to 75, or is after that of the last tile
pub data IsBadOffset (tiles : ℕ) (bytes : List ℕ) (place : ℕ) : Type 0 where
  is_missing : length bytes ≤ place → place < tiles → IsBadOffset tiles bytes place
  is_outside : place < length bytes → 75 < slice_index bytes place → slice_index bytes place < 181
      → IsBadOffset tiles bytes place
  is_late : place < length bytes → tiles ≤ place → IsBadOffset tiles bytes place

-- the first such byte
pub record HasBadOffset (tiles : ℕ) (bytes : List ℕ) (place : ℕ) : Type 0 where
  pub here : IsBadOffset tiles bytes place
  pub first : (other : ℕ) → other < place → IsBadOffset tiles bytes other → ⊥

-- the offset of each tile, which is 0 where no file is given
abbrev pub tile_offsets : Option (List ℕ) → ℕ → ℤ
tile_offsets None tile = pos 0
tile_offsets (Some bytes) tile = signed_byte (slice_index bytes tile)

-- ---- the format of the primary frames

-- the format, and what is left of Input after a header line
pub data FormatAt (file : List ℕ) : Source → Format → List ℕ → Type 0 where
  of_words : (format : Format) → FormatAt file (planar format) format file
  of_header : (format : Format) (after : List ℕ) → VideoHeaderAt file format after → FormatAt file y4m format after

-- why an encoder stops before the first frame, at the format of Input and then at that of Preview
pub data FormatStops (settings : EncoderSettings) (file : List ℕ) : Exit → Type 0 where
  at_header : (fault : VideoFault) → settings.source ≡ y4m → VideoHeaderBreaks file fault
      → FormatStops settings file (video_exit Input 0 fault)
  at_input : (format : Format) (after : List ℕ) (fault : VideoFault) → FormatAt file settings.source format after
      → check_input settings format ≡ Some fault → FormatStops settings file (video_exit Input 0 fault)
  at_preview : (format : Format) (after : List ℕ) (fault : VideoFault) → FormatAt file settings.source format after
      → check_input settings format ≡ None → check_preview settings.preview ≡ Some fault
      → FormatStops settings file (video_exit Preview 0 fault)

-- ---- before the first frame

-- What is read: what the slots of the tracks hold, and the files of payloads and of QP offsets where they are given.
pub record Inputs : Type 0 where
  pub contents : Contents
  pub payloads : Option (List ℕ)
  pub offsets : Option (List ℕ)

-- the payloads that each access unit carries
abbrev pub carried : Option (List ℕ) → List ℕ
carried None = []
carried (Some bytes) = bytes

-- the file of payloads, where it is given, is whole payloads within the limit L1
abbrev pub HasPayloads : Option (List ℕ) → Type 0
HasPayloads None = ⊤
HasPayloads (Some bytes) = (length bytes ≤ MAX_UNIT) × ((payloads : List Payload) × ArePayloads bytes payloads)

-- the file of QP offsets, where it is given, has a good byte for each tile and no other
abbrev pub HasOffsets : ℕ → Option (List ℕ) → Type 0
HasOffsets tiles None = ⊤
HasOffsets tiles (Some bytes) = (place : ℕ) → IsBadOffset tiles bytes place → ⊥

-- the number of tiles of a primary frame
abbrev pub primary_tiles : EncoderSettings → Format → ℕ
primary_tiles settings format = tile_count (grid_of (primary_header settings format))

-- the formats pass: that of the primary frames, which is read from Input, and that of the preview frames
pub record HasFormats (settings : EncoderSettings) (inputs : Inputs) (format : Format) (left : List ℕ) : Type 0 where
  pub payloads : HasPayloads inputs.payloads
  pub format_at : FormatAt (inputs.contents Input) settings.source format left
  pub input : check_input settings format ≡ None
  pub preview : check_preview settings.preview ≡ None

-- why an encoder stops before the first frame, in this order: the file of payloads is too long, or isn't whole
-- payloads; the formats; the file of QP offsets
pub data StopsBefore (settings : EncoderSettings) (inputs : Inputs) : Exit → Type 0 where
  long_payloads : (bytes : List ℕ) → inputs.payloads ≡ Some bytes → MAX_UNIT < length bytes
      → StopsBefore settings inputs (LimitMet L1 (MAX_UNIT + 1))
  partial_payload : (bytes : List ℕ) (byte : ℕ) → inputs.payloads ≡ Some bytes → length bytes ≤ MAX_UNIT
      → HasPartialPayload bytes byte → StopsBefore settings inputs (BadPayloads byte)
  at_formats : (exit : Exit) → HasPayloads inputs.payloads → FormatStops settings (inputs.contents Input) exit
      → StopsBefore settings inputs exit
  bad_offset : (format : Format) (left bytes : List ℕ) (byte : ℕ) → HasFormats settings inputs format left
      → inputs.offsets ≡ Some bytes → HasBadOffset (primary_tiles settings format) bytes byte
      → StopsBefore settings inputs (BadTileQp byte)

-- ---- frame by frame

-- what is left of the slots where the first frame begins
abbrev pub from_first_frame : Contents → List ℕ → Contents
from_first_frame contents left Input = left
from_first_frame contents left slot = contents slot

abbrev pub tracks_for : EncoderSettings → Inputs → Format → List Track
tracks_for settings inputs format = tracks_of settings format (tile_offsets inputs.offsets)

-- the unit is that of the pictures at the QP that is chosen, and keeps the limit L1
pub record IsEncoded (settings : EncoderSettings) (inputs : Inputs) (format : Format) (pictures : Pictures)
    (unit : EncodedUnit) : Type 0 where
  pub unit_of : IsUnitOf settings (tracks_for settings inputs format) (carried inputs.payloads) pictures unit
  pub chosen : IsChosen settings format.depth (tracks_for settings inputs format) (carried inputs.payloads) pictures
      settings.rate unit
  pub small : length unit.bytes ≤ MAX_UNIT

abbrev pub AreEncoded : EncoderSettings → Inputs → Format → List Pictures → List EncodedUnit → Type 0
AreEncoded settings inputs format [] units = units ≡ []
AreEncoded settings inputs format (pictures ∷ frames) [] = ⊥
AreEncoded settings inputs format (pictures ∷ frames) (unit ∷ units) =
    IsEncoded settings inputs format pictures unit × AreEncoded settings inputs format frames units

-- why no further access unit follows n of them: the frames end, or the next frame's access unit is too large
pub data EncodingStops (settings : EncoderSettings) (inputs : Inputs) (format : Format) (n : ℕ) (left : Contents)
    : Exit → Type 0 where
  by_frames : (exit : Exit) → FramesStop settings.source (tracks_for settings inputs format) n left exit
      → EncodingStops settings inputs format n left exit
  too_large : (pictures : Pictures) (after : Contents) (limit smallest : ℕ) (first last : Option ℕ)
      → n < MAX_UNITS → FrameAt settings.source (tracks_for settings inputs format) left pictures after
      → settings.rate ≡ limited limit first last
      → FitsNowhere settings format.depth (tracks_for settings inputs format) (carried inputs.payloads) pictures
      smallest
      → limit < smallest
      → EncodingStops settings inputs format n left
      (TooLarge n smallest limit)
  over_limit : (pictures : Pictures) (after : Contents) (qp size : ℕ)
      → n < MAX_UNITS → FrameAt settings.source (tracks_for settings inputs format) left pictures after
      → settings.rate ≡ fixed qp
      → HasSizeAt settings (tracks_for settings inputs format) (carried inputs.payloads) pictures qp size
      → MAX_UNIT < size → EncodingStops settings inputs format n left (LimitMet L1 size)

-- ---- the outputs and the answer

-- the access units, each after its size
abbrev pub enc_out : EncoderSettings → List EncodedUnit → List ℕ
enc_out settings units = if settings.output then flat_map (λ unit. sized unit.bytes) units else []

-- the levels of the primary frame, which is the first of a unit
abbrev pub primary_levels : EncodedUnit → Levels
primary_levels unit = slice_index_or unit.levels 0 []

abbrev pub reconstruction : FrameHeader → (ℕ → Qps) → EncodedUnit → List ℕ
reconstruction header qps unit =
    frame_picture (frame_with header (qps unit.q) (primary_levels unit)) (primary_levels unit)

-- the pictures that a decoder makes of the primary frames
abbrev pub recon_out : EncoderSettings → Inputs → Format → List EncodedUnit → List ℕ
recon_out settings inputs format units =
    let primary = primary_track settings format (tile_offsets inputs.offsets) in
    if settings.recon then flat_map (reconstruction primary.header primary.qps) units else []

-- what an encoder makes of its inputs: the access units, what is in the outputs Output and Recon, and its answer
pub data Encodes (settings : EncoderSettings) (inputs : Inputs)
    : List EncodedUnit → List ℕ → List ℕ → Exit → Type 0 where
  before : (exit : Exit) → StopsBefore settings inputs exit → Encodes settings inputs [] [] [] exit
  encoded : (format : Format) (begin : List ℕ) (frames : List Pictures) (left : Contents) (units : List EncodedUnit)
      (exit : Exit) → HasFormats settings inputs format begin
      → HasOffsets (primary_tiles settings format) inputs.offsets → length units ≤ MAX_UNITS
      → FramesAt settings.source (tracks_for settings inputs format) (from_first_frame inputs.contents begin)
      frames left
      → AreEncoded settings inputs format frames units
      → EncodingStops settings inputs format (length units) left exit
      → Encodes settings inputs units (enc_out settings units) (recon_out settings inputs format units) exit
