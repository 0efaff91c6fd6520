-- What the loop over the frames of a run leaves in the inputs and the outputs.
use Rattle.std.specs.Prelude.{◌≡◌, ℕ, ◌≤◌, true, false, List, [], ◌∷◌, ◌++◌, length, None}
use Rattle.std.specs.Bool.{OnFalse}
use Rattle.std.specs.Io.KnownBytes.{prepend_known, IsAtEnd}
use Rattle.apv_base.specs.declared.exits.Exit.{Exit}
use Rattle.apv_base.specs.declared.exits.Exit.TheVariants.{Done, Memory, ReadFailed, WriteFailed}
use Rattle.apv_base.specs.declared.format.Format.{Format}
use Rattle.apv_base.specs.declared.options.Form.{Form}
use Rattle.apv_base.specs.declared.slot.Slot.{Slot}
use Rattle.apv_base.specs.declared.slot.Slot.TheVariants.{Input, Output, Recon}
use Rattle.apv_base.specs.model.Run.{MAX_UNITS}
use Rattle.apv_base.specs.model.Slot.{same_slot}
use Rattle.apv_files.specs.SlotView.{SlotView}
use Rattle.apv_files.specs.Loops.{WroteAll}
use Rattle.apv_run.specs.Cause.{is_write_fault}
use Rattle.apv_run.specs.Slots.{IsWrittenPrefix, IsWriteFault, HasWritten}
use Rattle.apv_tracks.specs.Format.{input_shape}
use Rattle.apv_tracks.specs.Kinds.{has_track}
use Rattle.apv_tracks.specs.Pictures.{AreJoined, AreKnownLeft, AreRead, AtTracks, PicturesFail}
use Rattle.apv_tracks.specs.Plain.{plain_settings}
use Rattle.apv_tracks.specs.States.{AreStatesOf}
use Rattle.apv_video.specs.ReadFrame.{IsWithinPicture}
use Rattle.apv_words.specs.declared.encoder.EncSettings.{EncSettings}
use Rattle.apv_workers.specs.Track.{TrackState}
use Rattle.apv_encoding.specs.AccessUnit.{Pictures, EncodedUnit}
use Rattle.apv_encoding.specs.Answer.{Inputs, AreEncoded, EncodingStops, HasPayloads, carried, enc_out, recon_out}
use Rattle.apv_encoding.specs.Answer.{tile_offsets, tracks_for}
use Rattle.apv_encoding.specs.Settings.{EncoderSettings, Track, check_input, check_preview, primary_track}
use Rattle.apv_encoding.specs.Tracks.{Contents, FramesAt}
use Rattle.apv_enc.specs.Report.{IsReported}
use Rattle.apv_enc.specs.declared.end.RunEnd.{RunEnd}

-- the tracks are kept as those of a run with these inputs, which has these payloads, all whole, and their formats pass
pub record AreTracksFor (settings : EncoderSettings) (inputs : Inputs) (format : Format) (payloads : List ℕ)
    (states : List TrackState) : Type 0 where
  pub carries : payloads ≡ carried inputs.payloads
  pub whole : HasPayloads inputs.payloads
  pub kept : AreStatesOf (tracks_for settings inputs format) states
  pub passes : check_input settings format ≡ None
  pub preview_passes : check_preview settings.preview ≡ None

-- ---- frames of the slots of tracks, whatever the other slots hold

-- these bytes of the slots are frames, one after another, whatever follows
abbrev pub AreFrameBytes : EncoderSettings → Inputs → Format → List Pictures → Contents → Type 0
AreFrameBytes settings inputs format frames bytes =
    let tracks = tracks_for settings inputs format in
    (left after : Contents) → AreJoined tracks left bytes after → FramesAt settings.source tracks left frames after

-- no further access unit follows n of them, where this is left of the slots
abbrev pub StopsAt : EncoderSettings → Inputs → Format → ℕ → Contents → Exit → Type 0
StopsAt settings inputs format n rest exit =
    (left : Contents) → AreJoined (tracks_for settings inputs format) left rest (λ slot. [])
    → EncodingStops settings inputs format n left exit

-- ---- the outputs

-- no slot but those of the tracks and the two outputs changed
abbrev pub OnlyAtFiles : EncSettings → (Slot → SlotView) → (Slot → SlotView) → Type 0
OnlyAtFiles settings old new =
    (slot : Slot) → OnFalse (has_track settings slot) (OnFalse (same_slot slot Output)
    (OnFalse (same_slot slot Recon) (new slot ≡ old slot)))

-- both outputs of the units are written
pub record AreWritten (settings : EncoderSettings) (inputs : Inputs) (format : Format) (units : List EncodedUnit)
    (old new : Slot → SlotView) : Type 0 where
  pub output : WroteAll (old Output) (enc_out settings units) (new Output)
  pub recon : WroteAll (old Recon) (recon_out settings inputs format units) (new Recon)

-- a prefix of each output of the units is written
pub record ArePartlyWritten (settings : EncoderSettings) (inputs : Inputs) (format : Format)
    (units : List EncodedUnit) (old new : Slot → SlotView) : Type 0 where
  pub output : IsWrittenPrefix (old Output) (enc_out settings units) (new Output)
  pub recon : IsWrittenPrefix (old Recon) (recon_out settings inputs format units) (new Recon)

-- ---- how the loop ends

-- of the slots of the tracks only what is left changed
abbrev pub OnlyReads : EncoderSettings → Inputs → Format → (Slot → SlotView) → (Slot → SlotView) → Type 0
OnlyReads settings inputs format old new = AreRead (tracks_for settings inputs format) old new

-- the answer of the inputs themselves: no access unit follows, and both outputs are written
pub record IsStopped (settings : EncoderSettings) (inputs : Inputs) (format : Format) (old new : Slot → SlotView)
    (exit : Exit) (units : List EncodedUnit) (rest : Contents) : Type 0 where
  pub stops : StopsAt settings inputs format (length units) rest exit
  pub inputs_read : OnlyReads settings inputs format old new
  pub written : AreWritten settings inputs format units old new
  pub end : exit ≡ Done → AtTracks (tracks_for settings inputs format) (λ slot. IsAtEnd (new slot).left)

-- a read of the slot of a track failed, and both outputs are written
pub record ReadsStop (settings : EncoderSettings) (inputs : Inputs) (format : Format) (old new : Slot → SlotView)
    (units : List EncodedUnit) (slot : Slot) : Type 0 where
  pub track : Track
  pub of_track : slot ≡ track.slot
  pub fails : PicturesFail (tracks_for settings inputs format) track old new
  pub written : AreWritten settings inputs format units old new

-- a write to an output failed, which is wanted; an access unit is written before its picture
pub data WritesStop (settings : EncoderSettings) (inputs : Inputs) (format : Format) (old new : Slot → SlotView)
    (units : List EncodedUnit) : Slot → Type 0 where
  in_output : settings.output ≡ true → IsWriteFault (old Output) (enc_out settings units) (new Output)
      → IsWrittenPrefix (old Recon) (recon_out settings inputs format units) (new Recon)
      → WritesStop settings inputs format old new units Output
  in_recon : settings.recon ≡ true
      → IsWriteFault (old Recon) (recon_out settings inputs format units) (new Recon)
      → WroteAll (old Output) (enc_out settings units) (new Output)
      → WritesStop settings inputs format old new units Recon

-- how the loop ends after these units
abbrev pub Ends : EncoderSettings → Inputs → Format → (Slot → SlotView) → (Slot → SlotView) → Exit
    → List EncodedUnit → Contents → Type 0
Ends settings inputs format old new Memory units rest =
    OnlyReads settings inputs format old new × ArePartlyWritten settings inputs format units old new
Ends settings inputs format old new (ReadFailed slot) units rest =
    ReadsStop settings inputs format old new units slot
Ends settings inputs format old new (WriteFailed slot) units rest =
    OnlyReads settings inputs format old new × WritesStop settings inputs format old new units slot
Ends settings inputs format old new exit units rest =
    IsStopped settings inputs format old new exit units rest

-- ---- one frame at a time

-- After the outputs of units, those of one more unit were being written: its access unit, and none of its picture; or
-- its picture, after the whole access unit.
pub data WritesUnit (settings : EncoderSettings) (inputs : Inputs) (format : Format) (old new : Slot → SlotView)
    (units : List EncodedUnit) (unit : EncodedUnit) : Type 0 where
  to_output : HasWritten (old Output) (enc_out settings units) (new Output)
      → WroteAll (old Recon) (recon_out settings inputs format units) (new Recon)
      → WritesUnit settings inputs format old new units unit
  to_recon : WroteAll (old Output) (enc_out settings (units ++ unit ∷ [])) (new Output)
      → HasWritten (old Recon) (recon_out settings inputs format units) (new Recon)
      → WritesUnit settings inputs format old new units unit

-- Within which frame the loop ended, where the pictures of Input of the units are these bytes. While the frame after
-- them was read, coded or decoded again: the outputs of the units are written, and of that frame no byte of Input after
-- its picture was taken. Or while the outputs of the last unit were written: what is left of Input begins right after
-- its picture. No write fails but then.
pub data EndsWithin (form : Form) (settings : EncoderSettings) (inputs : Inputs) (format : Format)
    (old new : Slot → SlotView) (exit : Exit) (bytes : List ℕ) : List EncodedUnit → Type 0 where
  reading : (units : List EncodedUnit) (taken : List ℕ) → is_write_fault exit ≡ false
      → IsWithinPicture (input_shape form format) taken
      → (old Input).left ≡ prepend_known (bytes ++ taken) (new Input).left
      → AreWritten settings inputs format units old new
      → EndsWithin form settings inputs format old new exit bytes units
  writing : (units : List EncodedUnit) (unit : EncodedUnit)
      → (old Input).left ≡ prepend_known bytes (new Input).left
      → WritesUnit settings inputs format old new units unit
      → EndsWithin form settings inputs format old new exit bytes (units ++ unit ∷ [])

-- Whole frames were taken from the slots of the tracks, which go on with rest, and the access unit of each was made. Of
-- each output of the units a prefix is written, and with the answer of the inputs themselves all. After Done the report is
-- that of the units, where there is a seed.
pub record EncodedFrames (words : EncSettings) (inputs : Inputs) (format : Format) (old : Slot → SlotView)
    (end : RunEnd) (new : Slot → SlotView) : Type 0 where
  pub frames : List Pictures
  pub units : List EncodedUnit
  pub bytes : Contents
  pub rest : Contents
  pub frame_bytes : AreFrameBytes (plain_settings words) inputs format frames bytes
  pub encoded : AreEncoded (plain_settings words) inputs format frames units
  pub count : length units ≤ MAX_UNITS
  pub told : AreKnownLeft (tracks_for (plain_settings words) inputs format) old (λ slot. bytes slot ++ rest slot)
  pub others : OnlyAtFiles words old new
  pub ends : Ends (plain_settings words) inputs format old new end.exit units rest
  pub within : EndsWithin words.form (plain_settings words) inputs format old new end.exit (bytes Input) units
  pub report : end.exit ≡ Done → IsReported words.generate
      (primary_track (plain_settings words) format (tile_offsets inputs.offsets)) units end.report
