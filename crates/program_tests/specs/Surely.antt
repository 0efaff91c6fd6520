-- What a run over files that never fail by a device answers and leaves.
use Rattle.std.specs.Prelude.{◌≡◌, ℕ, List, Bool, true, false, Option, ◌⊎◌}
use Rattle.apv_base.specs.declared.slot.Slot.{Slot}
use Rattle.apv_base.specs.declared.slot.Slot.TheVariants.{MetaOut, Output, Recon}
use Rattle.apv_base.specs.declared.exits.Exit.{Exit}
use Rattle.apv_base.specs.declared.exits.Exit.TheVariants.{Memory, OpenFailed, ReadFailed, WriteFailed}
use Rattle.apv_files.specs.SlotView.{SlotView}
use Rattle.apv_run.specs.Known.{IsKnownAs}
use Rattle.apv_words.specs.declared.decoder.DecSettings.{DecSettings}
use Rattle.apv_words.specs.declared.encoder.EncSettings.{EncSettings}
use Rattle.apv_encoding.specs.Answer.{Inputs}
use Rattle.apv_tracks.specs.Plain.{plain_settings}
use Rattle.apv_dec.specs.Answer.{IsWholeRun}
use Rattle.apv_dec.specs.Outputs.{output_settings}
use Rattle.apv_dec.specs.Settings.{input_content}
use Rattle.apv_enc.specs.Encoded.{IsWholeEncoding}
use Rattle.apv_enc.specs.Run.{AreFiles}

-- the answer names a slot whose device failed
abbrev pub is_device_fault : Exit → Bool
is_device_fault (OpenFailed slot) = true
is_device_fault (ReadFailed slot) = true
is_device_fault (WriteFailed slot) = true
is_device_fault _ = false

-- the answer names no slot whose device failed
abbrev pub NeverFails : Exit → Type 0
NeverFails exit = is_device_fault exit ≡ false

-- the answer and the outputs are those that are defined for the content of the input, or memory ran out
abbrev pub DecodesSurely : DecSettings → (List ℕ → Option (List ℕ)) → Exit → (Slot → SlotView) → Type 0
DecodesSurely settings held exit new =
    (exit ≡ Memory)
    ⊎ ((file : List ℕ) × IsKnownAs (input_content settings held) file
    × IsWholeRun (output_settings settings) file exit (new Output).written (new MetaOut).written)

-- the answer and the outputs are those that are defined for the files that are read, or memory ran out
abbrev pub EncodesSurely : EncSettings → (List ℕ → Option (List ℕ)) → Exit → (Slot → SlotView) → Type 0
EncodesSurely settings held exit new =
    (exit ≡ Memory)
    ⊎ ((inputs : Inputs) × AreFiles settings held inputs
    × IsWholeEncoding (plain_settings settings) inputs exit (new Output).written (new Recon).written)
