-- Frames are read and written one at a time: what a run leaves, whatever ends it.
use Rattle.std.specs.Prelude.{◌≡◌, ℕ, zero, suc, ◌+◌, ◌<◌, ◌≤◌, true, List, ◌++◌, length, take, Option, Some, None, ⊤}
use Rattle.apv_base.specs.declared.exits.Exit.{Exit}
use Rattle.apv_base.specs.declared.format.Format.{Format}
use Rattle.apv_base.specs.declared.slot.Slot.{Slot}
use Rattle.apv_base.specs.declared.slot.Slot.TheVariants.{Input, Output, Recon}
use Rattle.apv_files.specs.SlotView.{SlotView}
use Rattle.apv_run.specs.Known.{IsPrefixOf, BeginsWith}
use Rattle.apv_run.specs.Names.{AreOpen}
use Rattle.apv_words.specs.declared.encoder.EncSettings.{EncSettings}
use Rattle.apv_encoding.specs.AccessUnit.{Pictures, EncodedUnit}
use Rattle.apv_encoding.specs.Answer.{Inputs, HasFormats, enc_out, from_first_frame, recon_out, tracks_for}
use Rattle.apv_run.specs.Cause.{is_write_fault}
use Rattle.apv_encoding.specs.Laws.{Encoding, HasEncoding}
use Rattle.apv_tracks.specs.Plain.{plain_settings}
use Rattle.apv_enc.specs.Run.{AreFiles, AreKnown, name_of}
use Rattle.apv_encoding.specs.Settings.{EncoderSettings}
use Rattle.apv_encoding.specs.Tracks.{Contents, FramesAt}

-- ---- positions in Input

-- the formats pass, that many frames are there, and this is left of Input after them
pub record AreFramesBefore (settings : EncoderSettings) (inputs : Inputs) (count : ℕ) (left : List ℕ) : Type 0 where
  pub format : Format
  pub begin : List ℕ
  pub formats : HasFormats settings inputs format begin
  pub frames : List Pictures
  pub number : length frames ≡ count
  pub after : Contents
  pub frames_at : FramesAt settings.source (tracks_for settings inputs format)
      (from_first_frame inputs.contents begin) frames after
  pub input : after Input ≡ left

-- This is left of Input after so many frames: all of it after none, since the header of a Y4M file is read for the
-- first frame, as a frame line is for its own.
abbrev pub IsLeftAfter : EncoderSettings → Inputs → ℕ → List ℕ → Type 0
IsLeftAfter settings inputs zero left = left ≡ inputs.contents Input
IsLeftAfter settings inputs (suc count) left = AreFramesBefore settings inputs (suc count) left

-- the first bytes end with these
abbrev pub EndsWith : List ℕ → List ℕ → Type 0
EndsWith bytes end = (taken : List ℕ) × (bytes ≡ taken ++ end)

-- What is left of Input begins at the end of that many frames or after it, and no later than the end of the next one,
-- where one follows.
pub record IsWithinFrame (settings : EncoderSettings) (inputs : Inputs) (count : ℕ) (left : List ℕ) : Type 0 where
  pub before : List ℕ
  pub after_frames : IsLeftAfter settings inputs count before
  pub not_before : EndsWith before left
  pub not_after : (after : List ℕ) → IsLeftAfter settings inputs (suc count) after → EndsWith left after

-- the same of what is known to be left
abbrev pub IsReadInto : EncoderSettings → Inputs → ℕ → Option (List ℕ) → Type 0
IsReadInto settings inputs count None = ⊤
IsReadInto settings inputs count (Some left) = IsWithinFrame settings inputs count left

-- what is left of Input, where it is known, begins at the end of that many frames
abbrev pub IsReadUpTo : EncoderSettings → Inputs → ℕ → Option (List ℕ) → Type 0
IsReadUpTo settings inputs count None = ⊤
IsReadUpTo settings inputs count (Some left) = IsLeftAfter settings inputs count left

-- ---- outputs

-- What is written to Output has all of the first units and no more than a prefix of one more.
pub record IsUnitByUnit (settings : EncoderSettings) (units : List EncodedUnit) (count : ℕ)
    (written : Option (List ℕ)) : Type 0 where
  pub whole : BeginsWith written (enc_out settings (take count units))
  pub no_more : IsPrefixOf written (enc_out settings (take (count + 1) units))

-- What is written to Recon has all pictures of the first units and no more than a prefix of one more.
pub record IsPictureByPicture (settings : EncoderSettings) (inputs : Inputs) (format : Format)
    (units : List EncodedUnit) (count : ℕ) (written : Option (List ℕ)) : Type 0 where
  pub whole : BeginsWith written (recon_out settings inputs format (take count units))
  pub no_more : IsPrefixOf written (recon_out settings inputs format (take (count + 1) units))

-- ---- a run

-- Of the units of an encoding, the outputs of the first ones are whole, and of the next one's no more than a prefix is
-- there. What is known to be left of Input begins within the frame of that next unit or at one of its ends; where a write failed,
-- there is such a unit, and it begins at the end of its frame.
pub record IsEncodedByFrame (settings : EncoderSettings) (inputs : Inputs) (units : List EncodedUnit) (exit : Exit)
    (left : Option (List ℕ)) (new : Slot → SlotView) : Type 0 where
  pub count : ℕ
  pub among : count ≤ length units
  pub output : IsUnitByUnit settings units count (new Output).written
  pub recon : (format : Format) (begin : List ℕ) → HasFormats settings inputs format begin
      → IsPictureByPicture settings inputs format units count (new Recon).written
  pub input : IsReadInto settings inputs count left
  pub written : is_write_fault exit ≡ true
      → (count < length units) × IsReadUpTo settings inputs (suc count) left

-- what is known to be left of Input, of which nothing is said where the video is generated
abbrev pub left_by : Option ℕ → Option (List ℕ) → Option (List ℕ)
left_by None left = left
left_by (Some seed) left = None

abbrev pub left_of_input : EncSettings → (Slot → SlotView) → Option (List ℕ)
left_of_input settings new = left_by settings.generate (new Input).left

-- where all files that the settings name are open, and it is known what they hold, frames were read and the outputs
-- were written one at a time
abbrev pub EncodesByFrame : EncSettings → (List ℕ → Option (List ℕ)) → Exit → (Slot → SlotView) → Type 0
EncodesByFrame settings held exit new =
    AreOpen (name_of settings) new → AreKnown settings held
    → (inputs : Inputs) (encoding : Encoding) → AreFiles settings held inputs
    → HasEncoding (plain_settings settings) inputs encoding
    → IsEncodedByFrame (plain_settings settings) inputs encoding.units exit (left_of_input settings new) new
