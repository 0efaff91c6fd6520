-- Units are read and written one at a time: what a run leaves, whatever ends it.
use Rattle.std.specs.Prelude.{◌≡◌, ℕ, ◌+◌, ◌<◌, ◌≤◌, true, List, ◌++◌, length, take, Option, Some, None, ⊤}
use Rattle.apv_base.specs.declared.slot.Slot.{Slot}
use Rattle.apv_base.specs.declared.slot.Slot.TheVariants.{Input, Output, MetaOut}
use Rattle.apv_base.specs.declared.exits.Exit.{Exit}
use Rattle.apv_base.specs.model.Judge.{DecodedUnit}
use Rattle.apv_base.specs.model.Output.{OutputSettings, DecodesTo, dec_out, dec_payloads}
use Rattle.apv_base.specs.model.Run.{SizedAt}
use Rattle.apv_files.specs.SlotView.{SlotView}
use Rattle.apv_words.specs.declared.decoder.DecSettings.{DecSettings}
use Rattle.apv_run.specs.Known.{BeginsWith, IsPrefixOf}
use Rattle.apv_run.specs.Names.{AreOpen}
use Rattle.apv_dec.specs.Units.{unit_bytes}
use Rattle.apv_dec.specs.Outputs.{output_settings}
use Rattle.apv_run.specs.Cause.{is_write_fault}
use Rattle.apv_dec.specs.Settings.{input_content, name_of}

-- What is left of a file begins at the end of these bytes or after it, and no later than the end of the sized unit that
-- follows them, where one does.
abbrev pub IsReadInto : List ℕ → List ℕ → Option (List ℕ) → Type 0
IsReadInto file before None = ⊤
IsReadInto file before (Some left) =
    (taken : List ℕ) × (file ≡ before ++ (taken ++ left))
    × ((unit after : List ℕ) → SizedAt (taken ++ left) unit after → length taken ≤ 4 + length unit)

-- what is left of a file begins right after these bytes
abbrev pub IsReadUpTo : List ℕ → List ℕ → Option (List ℕ) → Type 0
IsReadUpTo file before None = ⊤
IsReadUpTo file before (Some left) = file ≡ before ++ left

-- Of the units of a file, the outputs of the first ones are whole, and of the next one's no more than a prefix is there.
-- What is left of the input begins within that next unit or at one of its ends; where a write failed, there is such a
-- unit, and it begins at its end.
pub record IsReadByUnit (settings : OutputSettings) (file : List ℕ) (units : List DecodedUnit) (exit : Exit)
    (new : Slot → SlotView) : Type 0 where
  pub count : ℕ
  pub among : count ≤ length units
  pub output : BeginsWith (new Output).written (dec_out settings (take count units))
  pub payloads : BeginsWith (new MetaOut).written (dec_payloads settings (take count units))
  pub no_more_output : IsPrefixOf (new Output).written (dec_out settings (take (count + 1) units))
  pub no_more_payloads : IsPrefixOf (new MetaOut).written (dec_payloads settings (take (count + 1) units))
  pub input : IsReadInto file (unit_bytes settings (take count units)) (new Input).left
  pub written : is_write_fault exit ≡ true → (count < length units)
      × IsReadUpTo file (unit_bytes settings (take (count + 1) units)) (new Input).left

-- where all files that the settings name are open, the input was read and the outputs were written unit by unit
abbrev pub ReadsByUnit : DecSettings → (List ℕ → Option (List ℕ)) → Exit → (Slot → SlotView) → Type 0
ReadsByUnit settings held exit new =
    AreOpen (name_of settings) new
    → (file : List ℕ) (units : List DecodedUnit) (stop : Exit) → input_content settings held ≡ Some file
    → DecodesTo (output_settings settings) file units stop
    → IsReadByUnit (output_settings settings) file units exit new
