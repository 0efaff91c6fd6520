-- What is done between opening the files of a run and its first frame: the file of payloads is read, then the format of
-- the primary frames, the formats are judged, tracks are made, and the file of QP offsets is read.
use Rattle.std.specs.Prelude.{◌≡◌, ℕ, ℤ, pos, Bool, true, if◌then◌else◌, List, [], ◌∷◌, ◌++◌, map, replicate}
use Rattle.std.specs.Prelude.{Option, Some, None, is_some}
use Rattle.std.specs.Bool.{OnFalse, OnTrue}
use Rattle.std.specs.Io.KnownBytes.{IsAtEnd}
use Rattle.apv_base.specs.declared.exits.Exit.{Exit}
use Rattle.apv_base.specs.declared.exits.Exit.TheVariants as exits
use Rattle.apv_base.specs.declared.format.Format.{Format}
use Rattle.apv_base.specs.declared.header.FrameHeader.{FrameHeader}
use Rattle.apv_base.specs.declared.slot.Slot.{Slot}
use Rattle.apv_base.specs.declared.slot.Slot.TheVariants.{Input, Metadata, TileQp}
use Rattle.apv_base.specs.model.Grid.{tile_count}
use Rattle.apv_base.specs.model.Header.{grid_of}
use Rattle.apv_base.specs.model.Slot.{same_slot}
use Rattle.apv_files.specs.SlotView.{SlotView}
use Rattle.apv_files.specs.Loops.{TookAll, TookFailed}
use Rattle.apv_files.specs.declared.files.Mode.TheVariants.{Reading}
use Rattle.apv_run.specs.Known.{IsKnownAs}
use Rattle.apv_words.specs.declared.encoder.EncSettings.{EncSettings}
use Rattle.apv_workers.specs.Track.{TrackState, new_track}
use Rattle.apv_encoding.specs.Answer.{HasOffsets, HasPayloads, Inputs, StopsBefore, carried}
use Rattle.apv_encoding.specs.Answer.{primary_tiles, signed_byte, tile_offsets}
use Rattle.apv_encoding.specs.Settings.{grey_header, tracks_of}
use Rattle.apv_tracks.specs.Format.{FormatFails, IsPreviewHeader, IsPrimaryHeader, IsWithinHeader, Pass, TookFormat}
use Rattle.apv_tracks.specs.PayloadFile.{PayloadsEnd}
use Rattle.apv_tracks.specs.Plain.{plain_settings}
use Rattle.apv_tracks.specs.States.{AreStatesOf, HaveOwnGrids}
use Rattle.apv_tracks.specs.TileMap.{OffsetsEnd, TookTileMap}
use Rattle.apv_tracks.specs.declared.opening.Formats.{Formats}

-- ---- slots

-- the files that are read before the first frame are open for reading, where they are named
pub record AreInputsReading (settings : EncSettings) (views : Slot → SlotView) : Type 0 where
  pub input : (views Input).mode ≡ Reading
  pub metadata : OnTrue (is_some settings.metadata) ((views Metadata).mode ≡ Reading)
  pub tile_qp : OnTrue (is_some settings.tile_qp) ((views TileQp).mode ≡ Reading)

-- no slot but Input, Metadata and TileQp changed
abbrev pub OnlyAtInputs : (Slot → SlotView) → (Slot → SlotView) → Type 0
OnlyAtInputs old new =
    (slot : Slot) → OnFalse (same_slot slot Input) (OnFalse (same_slot slot Metadata)
    (OnFalse (same_slot slot TileQp) (new slot ≡ old slot)))

-- bytes were taken from a file, where it is named
abbrev pub TookWhereGiven : {T : Type 0} → Option T → SlotView → SlotView → Type 0
TookWhereGiven None old new = new ≡ old
TookWhereGiven (Some _) old new = (bytes : List ℕ) × TookAll old bytes new

-- all that was left of a file was taken, where it is named
abbrev pub TookFile : {T : Type 0} → Option T → SlotView → Option (List ℕ) → SlotView → Type 0
TookFile None old taken new = (taken ≡ None) × (new ≡ old)
TookFile (Some _) old taken new = (bytes : List ℕ) × (taken ≡ Some bytes) × TookAll old bytes new × IsAtEnd new.left

-- ---- the file of payloads

-- the file of payloads is right, where it is named, and these are its bytes
pub record TookList (settings : EncSettings) (old : SlotView) (bytes : List ℕ) (new : SlotView) : Type 0 where
  pub payloads : Option (List ℕ)
  pub took : TookFile settings.metadata old payloads new
  pub whole : HasPayloads payloads
  pub carries : bytes ≡ carried payloads

-- the file of payloads is named, and wasn't read or isn't right
pub record ListEnds (settings : EncSettings) (old new : SlotView) (exit : Exit) : Type 0 where
  pub given : is_some settings.metadata ≡ true
  pub end : PayloadsEnd old new exit

-- ---- formats

-- the format of the primary frames was taken, and the formats pass, with these headers of primary and preview frames
pub record TookFormats (settings : EncSettings) (old : SlotView) (formats : Formats) (new : SlotView) : Type 0 where
  pub format_at : TookFormat settings old formats.format new
  pub passes : Pass settings formats.format
  pub primary : IsPrimaryHeader settings formats.format formats.primary
  pub preview : IsPreviewHeader settings (plain_settings settings).preview formats.preview

-- ---- tracks

-- the offset of the QPs of each component of the primary frames, which is 0 for the first
abbrev pub component_offsets : EncSettings → List ℤ
component_offsets settings = pos 0 ∷ (plain_settings settings).offsets

-- the file of QP offsets was taken, and is set in the track
pub record SetsOffsets (before : TrackState) (old : SlotView) (after : TrackState) (new : SlotView) : Type 0 where
  pub bytes : List ℕ
  pub took : TookTileMap (tile_count (grid_of before.header)) old bytes new
  pub set : after ≡ record before { tile_offsets = map signed_byte bytes }

-- a new track of the primary frames
abbrev pub primary_state : EncSettings → FrameHeader → TrackState
primary_state settings header = new_track header (component_offsets settings)

-- the QPs of the track of the primary frames are set by the file of QP offsets, where it is named
abbrev pub SetsWhereGiven : {T : Type 0} → Option T → TrackState → SlotView → TrackState → SlotView → Type 0
SetsWhereGiven None before old after new = (after ≡ before) × (new ≡ old)
SetsWhereGiven (Some _) before old after new = SetsOffsets before old after new

-- the file of QP offsets is named, and wasn't read or isn't right
pub record MapEnds (settings : EncSettings) (tiles : ℕ) (old new : SlotView) (exit : Exit) : Type 0 where
  pub given : is_some settings.tile_qp ≡ true
  pub end : OffsetsEnd tiles old new exit

-- a new track whose QPs have no offsets
abbrev pub plain_state : FrameHeader → TrackState
plain_state header = new_track header (replicate 4 (pos 0))

-- such a track of a header, where there is one
abbrev pub state_of : Option FrameHeader → List TrackState
state_of None = []
state_of (Some header) = plain_state header ∷ []

-- such a track, where it is asked for
abbrev pub state_where : Bool → FrameHeader → List TrackState
state_where asked header = if asked then plain_state header ∷ [] else []

-- the tracks of all frames: the one of the primary frames, and then those of preview, depth and alpha frames
abbrev pub states_with : EncSettings → Formats → TrackState → List TrackState
states_with settings formats primary =
    let grey = grey_header (plain_settings settings) formats.format in
    primary ∷ state_of formats.preview
    ++ state_where (is_some settings.depth_map) grey ++ state_where (is_some settings.alpha) grey

-- The file of payloads is right, where it is named, and these are its bytes; the formats pass. The tracks are those
-- that the settings ask for, with the offsets of a right file of QP offsets, where it is named. No more than what is
-- left of Input, Metadata and TileQp changed.
pub record OpensTracks (settings : EncSettings) (old : Slot → SlotView) (format : Format) (bytes : List ℕ)
    (tracks : List TrackState) (new : Slot → SlotView) : Type 0 where
  pub payloads : Option (List ℕ)
  pub offsets : Option (List ℕ)
  pub took_payloads : TookFile settings.metadata (old Metadata) payloads (new Metadata)
  pub whole : HasPayloads payloads
  pub carries : bytes ≡ carried payloads
  pub format_at : TookFormat settings (old Input) format (new Input)
  pub passes : Pass settings format
  pub took_offsets : TookFile settings.tile_qp (old TileQp) offsets (new TileQp)
  pub right : HasOffsets (primary_tiles (plain_settings settings) format) offsets
  pub kept : AreStatesOf (tracks_of (plain_settings settings) format (tile_offsets offsets)) tracks
  pub grids : HaveOwnGrids tracks
  pub others : OnlyAtInputs old new

-- ---- why no tracks are made

-- the content of a file that is named, where it is known
abbrev pub IsGivenAs : {T : Type 0} → Option T → Option (List ℕ) → Option (List ℕ) → Type 0
IsGivenAs None known bytes = bytes ≡ None
IsGivenAs (Some _) known bytes = (content : List ℕ) × (bytes ≡ Some content) × IsKnownAs known content

-- what is known to be left of the slots is these inputs
pub record AreInputs (settings : EncSettings) (views : Slot → SlotView) (inputs : Inputs) : Type 0 where
  pub contents : (slot : Slot) → IsKnownAs (views slot).left (inputs.contents slot)
  pub payloads : IsGivenAs settings.metadata (views Metadata).left inputs.payloads
  pub offsets : IsGivenAs settings.tile_qp (views TileQp).left inputs.offsets

-- no more than what is left of Input, Metadata and TileQp changed: no byte of Input after the header was taken
pub record TookBefore (settings : EncSettings) (old new : Slot → SlotView) : Type 0 where
  pub taken : List ℕ
  pub within : IsWithinHeader settings.form taken
  pub input : TookAll (old Input) taken (new Input)
  pub metadata : TookWhereGiven settings.metadata (old Metadata) (new Metadata)
  pub tile_qp : TookWhereGiven settings.tile_qp (old TileQp) (new TileQp)
  pub others : OnlyAtInputs old new

-- an encoder of these inputs stops so before the first frame
pub record IsAnswered (settings : EncSettings) (old : Slot → SlotView) (exit : Exit) (new : Slot → SlotView)
    : Type 0 where
  pub inputs : Inputs
  pub are : AreInputs settings old inputs
  pub stops : StopsBefore (plain_settings settings) inputs exit
  pub took : TookBefore settings old new

-- a read of Metadata failed, which is named, and of Input and TileQp nothing was taken
pub record MetadataFails (settings : EncSettings) (old new : Slot → SlotView) : Type 0 where
  pub given : is_some settings.metadata ≡ true
  pub taken : List ℕ
  pub failed : TookFailed (old Metadata) taken (new Metadata)
  pub input : new Input ≡ old Input
  pub tile_qp : new TileQp ≡ old TileQp
  pub others : OnlyAtInputs old new

-- a read of Input failed, of which bytes of the header were taken, and of TileQp nothing was taken
pub record InputFails (settings : EncSettings) (old new : Slot → SlotView) : Type 0 where
  pub metadata : TookWhereGiven settings.metadata (old Metadata) (new Metadata)
  pub input : FormatFails settings (old Input) (new Input)
  pub tile_qp : new TileQp ≡ old TileQp
  pub others : OnlyAtInputs old new

-- the formats pass, and then a read of TileQp failed, which is named
pub record TileQpFails (settings : EncSettings) (old new : Slot → SlotView) : Type 0 where
  pub format : Format
  pub metadata : TookWhereGiven settings.metadata (old Metadata) (new Metadata)
  pub format_at : TookFormat settings (old Input) format (new Input)
  pub passes : Pass settings format
  pub given : is_some settings.tile_qp ≡ true
  pub taken : List ℕ
  pub failed : TookFailed (old TileQp) taken (new TileQp)
  pub others : OnlyAtInputs old new

-- why no tracks were made: memory ran out, a read failed, or an encoder of the inputs stops before the first frame
pub data TracksEnd (settings : EncSettings) (old new : Slot → SlotView) : Exit → Type 0 where
  by_memory : TookBefore settings old new → TracksEnd settings old new exits.Memory
  by_metadata : MetadataFails settings old new → TracksEnd settings old new (exits.ReadFailed Metadata)
  by_input : InputFails settings old new → TracksEnd settings old new (exits.ReadFailed Input)
  by_tile_qp : TileQpFails settings old new → TracksEnd settings old new (exits.ReadFailed TileQp)
  by_answer : (exit : Exit) → IsAnswered settings old exit new → TracksEnd settings old new exit
