-- What a run of the encoder leaves in its outputs.
use Rattle.std.specs.Prelude.{◌≡◌, ℕ, true, List, Option, Some, is_some, ◌⊎◌}
use Rattle.std.specs.Bool.{OnTrue}
use Rattle.apv_base.specs.declared.exits.Exit.{Exit}
use Rattle.apv_base.specs.declared.exits.Exit.TheVariants.{Done, Memory}
use Rattle.apv_base.specs.declared.format.Format.{Format}
use Rattle.apv_base.specs.declared.slot.Slot.{Slot}
use Rattle.apv_base.specs.declared.slot.Slot.TheVariants.{Input, Output, Recon}
use Rattle.apv_base.specs.model.Output.{OutputSettings}
use Rattle.apv_files.specs.SlotView.{SlotView}
use Rattle.apv_workers.specs.Track.{TrackState}
use Rattle.apv_run.specs.Cause.{HasCause, HaveNotRisen, is_of_file}
use Rattle.apv_run.specs.Known.{IsKnownAs, IsPrefixOf}
use Rattle.apv_run.specs.Names.{AreNamed}
use Rattle.apv_words.specs.declared.encoder.EncSettings.{EncSettings}
use Rattle.apv_encoding.specs.Answer.{Inputs}
use base.Fml.{GName}
use Rattle.apv_encoding.specs.Generated.{generated_file}
use Rattle.apv_generated.specs.Views.{input_view, with_input}
use Rattle.apv_encoding.specs.DecodedUnit.{DecodesToReconstruction}
use Rattle.apv_tracks.specs.Opening.{OpensTracks, TracksEnd}
use Rattle.apv_enc.specs.declared.end.RunEnd.{RunEnd}
use Rattle.apv_enc.specs.ByFrame.{EncodesByFrame}
use Rattle.apv_enc.specs.Frames.{AreTracksFor, EncodedFrames}
use Rattle.apv_encoding.specs.Laws.{Encoding, HasEncoding}
use Rattle.apv_tracks.specs.Plain.{plain_settings}
use Rattle.apv_enc.specs.Run.{AreFiles, AreKnown, is_own_answer, name_of}
use Rattle.apv_enc.specs.Told.{IsToldReport}
use Rattle.apv_encoding.specs.Settings.{EncoderSettings}

-- the answer is that of an encoder of these inputs, and what is known of the outputs is all that it writes
pub record IsWholeEncoding (settings : EncoderSettings) (inputs : Inputs) (exit : Exit)
    (output recon : Option (List ℕ)) : Type 0 where
  pub encoding : Encoding
  pub made : HasEncoding settings inputs encoding
  pub answer : encoding.exit ≡ exit
  pub whole : IsKnownAs output encoding.output
  pub whole_recon : IsKnownAs recon encoding.recon

-- Of files, which are what is held where that is known, each output is a prefix of the defined one, and with an answer
-- of the files' own the whole. An encoder makes one thing at most of its inputs, and of bytes exactly one.
pub record EncodesFiles (settings : EncSettings) (held : List ℕ → Option (List ℕ)) (exit : Exit)
    (output recon : Option (List ℕ)) : Type 0 where
  pub inputs : Inputs
  pub told : AreFiles settings held inputs
  pub prefix : (encoding : Encoding) → HasEncoding (plain_settings settings) inputs encoding
      → IsPrefixOf output encoding.output × IsPrefixOf recon encoding.recon
  pub answer : OnTrue (is_of_file exit)
      (IsWholeEncoding (plain_settings settings) inputs exit output recon)

-- the files are encoded to the outputs; to an output that the settings don't name nothing is written
abbrev pub EncodesInputs : EncSettings → (List ℕ → Option (List ℕ)) → Exit → (Slot → SlotView) → Type 0
EncodesInputs settings held exit new = EncodesFiles settings held exit (new Output).written (new Recon).written

-- Bytes are all that an encoder of the files writes to Output up to the end of its inputs. A decoder, strict or not,
-- reads them to their end, whatever it selects for a planar file: its frames are those of the levels of all tracks, its
-- primary pictures the reconstructions, which are what is known of Recon where that is written, and its payloads those of
-- the file of payloads, once for each access unit.
pub record IsDecodable (settings : EncSettings) (held : List ℕ → Option (List ℕ)) (bytes : List ℕ)
    (recon : Option (List ℕ)) : Type 0 where
  pub inputs : Inputs
  pub told : AreFiles settings held inputs
  pub encoding : Encoding
  pub made : HasEncoding (plain_settings settings) inputs encoding
  pub end : encoding.exit ≡ Done
  pub whole : encoding.output ≡ bytes
  pub whole_recon : IsKnownAs recon encoding.recon
  pub decodes : (decoder : OutputSettings)
      → DecodesToReconstruction (plain_settings settings) inputs encoding decoder

-- after Done the bytes of Output, where it is named and they are known, can be decoded
abbrev pub WritesDecodable : EncSettings → (List ℕ → Option (List ℕ)) → Exit → (Slot → SlotView) → Type 0
WritesDecodable settings held exit new =
    exit ≡ Done → is_some settings.output ≡ true → (bytes : List ℕ) → (new Output).written ≡ Some bytes
    → IsDecodable settings held bytes (new Recon).written

-- where the files are known and encoded up to the end of Input, and no count rose, the answer is Done or Memory
abbrev pub IsComplete : EncSettings → (List ℕ → Option (List ℕ)) → (Slot → SlotView) → (Slot → SlotView) → Exit
    → Type 0
IsComplete settings held old new exit =
    AreKnown settings held
    → (inputs : Inputs) (encoding : Encoding) → AreFiles settings held inputs
    → HasEncoding (plain_settings settings) inputs encoding → encoding.exit ≡ Done
    → HaveNotRisen old new → (exit ≡ Done) ⊎ (exit ≡ Memory)

-- ---- a run

-- what a run leaves, and what follows its answer
pub record EndsRun (settings : EncSettings) (held : List ℕ → Option (List ℕ)) (end : RunEnd) (old new : Slot → SlotView)
    : Type 0 where
  pub encodes : EncodesInputs settings held end.exit new
  pub decodes : WritesDecodable settings held end.exit new
  pub cause : HasCause is_own_answer (name_of settings) old new end.exit
  pub by_frame : EncodesByFrame settings held end.exit new
  pub named : AreNamed (name_of settings) new
  pub complete : IsComplete settings held old new end.exit
  pub report : end.exit ≡ Done → IsToldReport settings held settings.generate end.report

-- ---- after the files are open

-- how a run goes on after the files are open: no tracks are made, or frames are encoded by those that are
pub data EndsOpened (settings : EncSettings) (old new : Slot → SlotView) (end : RunEnd) : Type 0 where
  before_frames : TracksEnd settings old new end.exit → EndsOpened settings old new end
  among_frames : (format : Format) (payloads : List ℕ) (tracks : List TrackState) (mid : Slot → SlotView)
      → OpensTracks settings old format payloads tracks mid
      → ((inputs : Inputs) → AreTracksFor (plain_settings settings) inputs format payloads tracks
      → EncodedFrames settings inputs format mid end new)
      → EndsOpened settings old new end

-- ---- over a generated video

-- How a run ended over files that borrow these and have a generated video in place of Input: one that was all left at the
-- first, and on which no call failed. The slot Input of these files is as it was.
pub record EndsGenerated (settings : EncSettings) (seed : ℕ) (old new : Slot → SlotView) (end : RunEnd) : Type 0 where
  pub name : GName
  pub left : List ℕ
  pub ends : EndsOpened settings (with_input (input_view name (old Input) (generated_file seed)) old)
      (with_input (input_view name (new Input) left) new) end
