-- What a run of the decoder answers and leaves.
use Rattle.std.specs.Prelude.{◌≡◌, ℕ, List, Bool, true, false, Option, Some, ◌⊎◌}
use Rattle.std.specs.Bool.{OnTrue}
use Rattle.apv_base.specs.declared.slot.Slot.{Slot}
use Rattle.apv_base.specs.declared.slot.Slot.TheVariants.{Output, MetaOut}
use Rattle.apv_base.specs.declared.exits.Exit.{Exit}
use Rattle.apv_base.specs.declared.exits.Exit.TheVariants.{Done, Memory, Broken, LimitMet, NoTag, FormatChange}
use Rattle.apv_base.specs.model.Judge.{DecodedUnit}
use Rattle.apv_base.specs.model.Output.{OutputSettings, DecodesTo, dec_out, dec_payloads}
use Rattle.apv_files.specs.SlotView.{SlotView}
use Rattle.apv_run.specs.Cause.{HasCause, HaveNotRisen, is_of_file}
use Rattle.apv_run.specs.Known.{IsKnownAs, IsPrefixOf}
use Rattle.apv_run.specs.Names.{AreNamed}
use Rattle.apv_words.specs.declared.decoder.DecSettings.{DecSettings}
use Rattle.apv_dec.specs.OneUnit.{ReadsByUnit}
use Rattle.apv_dec.specs.Outputs.{output_settings}
use Rattle.apv_dec.specs.Settings.{input_content, name_of}

-- the answers to a unit that isn't accepted, which end a run before the end of the file
abbrev pub is_own_answer : Exit → Bool
is_own_answer (Broken break) = true
is_own_answer (LimitMet limit count) = true
is_own_answer (NoTag format) = true
is_own_answer (FormatChange first other) = true
is_own_answer _ = false

-- the answer is what stops the decoder after the units of the file, and what is known of the outputs is all that is
-- defined for these units
pub record IsWholeRun (settings : OutputSettings) (file : List ℕ) (exit : Exit) (output metadata : Option (List ℕ))
    : Type 0 where
  pub units : List DecodedUnit
  pub runs : DecodesTo settings file units exit
  pub whole : IsKnownAs output (dec_out settings units)
  pub whole_metadata : IsKnownAs metadata (dec_payloads settings units)

-- Of a file, which is the held content where that is known, each output is a prefix of the defined one, and with the
-- file's own answer the whole. A file of bytes has exactly one run.
pub record DecodesFile (settings : OutputSettings) (held : Option (List ℕ)) (exit : Exit)
    (output metadata : Option (List ℕ)) : Type 0 where
  pub file : List ℕ
  pub told : IsKnownAs held file
  pub prefix : (units : List DecodedUnit) (stop : Exit) → DecodesTo settings file units stop
      → IsPrefixOf output (dec_out settings units) × IsPrefixOf metadata (dec_payloads settings units)
  pub answer : OnTrue (is_of_file exit) (IsWholeRun settings file exit output metadata)

-- the input is decoded to the outputs; of an output that the settings don't name nothing is written
abbrev pub DecodesInput : DecSettings → (List ℕ → Option (List ℕ)) → Exit → (Slot → SlotView) → Type 0
DecodesInput settings held exit new =
    DecodesFile (output_settings settings) (input_content settings held) exit
    (new Output).written (new MetaOut).written

-- where the held content is a file that decodes to its end, and no count rose, the answer is Done or Memory
abbrev pub IsComplete : OutputSettings → Option (List ℕ) → (Slot → SlotView) → (Slot → SlotView) → Exit → Type 0
IsComplete settings held old new exit =
    (file : List ℕ) (units : List DecodedUnit) → held ≡ Some file
    → DecodesTo settings file units Done → HaveNotRisen old new → (exit ≡ Done) ⊎ (exit ≡ Memory)

-- what a run leaves, and what follows its answer
pub record EndsRun (settings : DecSettings) (held : List ℕ → Option (List ℕ)) (exit : Exit) (old new : Slot → SlotView)
    : Type 0 where
  pub decodes : DecodesInput settings held exit new
  pub cause : HasCause is_own_answer (name_of settings) old new exit
  pub by_unit : ReadsByUnit settings held exit new
  pub named : AreNamed (name_of settings) new
