-- What the loop over the units of a file leaves in the input and the outputs.
use Rattle.std.specs.Prelude.{◌≡◌, ℕ, ◌≤◌, true, false, List, [], ◌∷◌, ◌++◌, length}
use Rattle.std.specs.Io.KnownBytes.{prepend_known, IsAtEnd}
use Rattle.apv_base.specs.declared.slot.Slot.{Slot}
use Rattle.apv_base.specs.declared.slot.Slot.TheVariants.{Input, Output, MetaOut}
use Rattle.apv_base.specs.declared.exits.Exit.{Exit}
use Rattle.apv_base.specs.declared.exits.Exit.TheVariants.{Done, Memory, ReadFailed, WriteFailed}
use Rattle.apv_base.specs.model.Judge.{DecodedUnit}
use Rattle.apv_base.specs.model.Output.{OutputSettings, by_content, dec_out, dec_payloads}
use Rattle.apv_base.specs.model.Run.{MAX_UNITS, StopsAfter}
use Rattle.apv_files.specs.SlotView.{SlotView}
use Rattle.apv_files.specs.Loops.{WroteAll}
use Rattle.apv_run.specs.Cause.{is_write_fault}
use Rattle.apv_run.specs.Known.{IsKnownAs}
use Rattle.apv_run.specs.Slots.{OnlyAtThree, OnlyLeftChanged, IsReadFault, IsWrittenPrefix, IsWriteFault, HasWritten}
use Rattle.apv_dec.specs.NextUnit.{IsWithinUnit}
use Rattle.apv_dec.specs.Units.{AreValid, unit_bytes}

-- no slot but the input and the two outputs changed
abbrev pub OnlyAtFiles : (Slot → SlotView) → (Slot → SlotView) → Type 0
OnlyAtFiles = OnlyAtThree Input Output MetaOut

-- both outputs of the units are written
pub record IsWritten (settings : OutputSettings) (units : List DecodedUnit) (old new : Slot → SlotView) : Type 0 where
  pub output : WroteAll (old Output) (dec_out settings units) (new Output)
  pub metadata : WroteAll (old MetaOut) (dec_payloads settings units) (new MetaOut)

-- a prefix of each output of the units is written
pub record IsPartlyWritten (settings : OutputSettings) (units : List DecodedUnit) (old new : Slot → SlotView)
    : Type 0 where
  pub output : IsWrittenPrefix (old Output) (dec_out settings units) (new Output)
  pub metadata : IsWrittenPrefix (old MetaOut) (dec_payloads settings units) (new MetaOut)

-- the file's own answer: no unit follows, and both outputs are written
pub record IsStopped (settings : OutputSettings) (old new : Slot → SlotView) (exit : Exit) (units : List DecodedUnit)
    (rest : List ℕ) : Type 0 where
  pub stops : StopsAfter (by_content settings) units rest exit
  pub input : OnlyLeftChanged (old Input) (new Input)
  pub written : IsWritten settings units old new
  pub end : exit ≡ Done → IsAtEnd (new Input).left

-- a write to an output failed, which is wanted; the payloads of a unit are written before its pictures
pub data WritesStop (settings : OutputSettings) (old new : Slot → SlotView) (units : List DecodedUnit) : Slot → Type 0
  where
    in_metadata : settings.payloads ≡ true → IsWriteFault (old MetaOut) (dec_payloads settings units) (new MetaOut)
        → IsWrittenPrefix (old Output) (dec_out settings units) (new Output) → WritesStop settings old new units MetaOut
    in_pictures : settings.output ≡ true → IsWriteFault (old Output) (dec_out settings units) (new Output)
        → WroteAll (old MetaOut) (dec_payloads settings units) (new MetaOut) → WritesStop settings old new units Output

-- how the loop ends after these units
abbrev pub Ends : OutputSettings → (Slot → SlotView) → (Slot → SlotView) → Exit → List DecodedUnit → List ℕ → Type 0
Ends settings old new Memory units rest =
    OnlyLeftChanged (old Input) (new Input) × IsPartlyWritten settings units old new
Ends settings old new (ReadFailed slot) units rest =
    (slot ≡ Input) × IsReadFault (old Input) (new Input) × IsWritten settings units old new
Ends settings old new (WriteFailed slot) units rest =
    OnlyLeftChanged (old Input) (new Input) × WritesStop settings old new units slot
Ends settings old new exit units rest = IsStopped settings old new exit units rest

-- Within which unit the loop ended. While the unit after these was read or judged: their outputs are written, and of it
-- no more than its bytes was taken. Or while the outputs of the last of these were written: those of the units before it
-- are written, and what is left of the input begins right after it. No write fails but then.
pub data EndsWithin (settings : OutputSettings) (old new : Slot → SlotView) (exit : Exit)
    : List DecodedUnit → Type 0 where
  reading : (units : List DecodedUnit) (taken : List ℕ) → is_write_fault exit ≡ false → IsWithinUnit taken
      → (old Input).left ≡ prepend_known (unit_bytes settings units ++ taken) (new Input).left
      → IsWritten settings units old new → EndsWithin settings old new exit units
  writing : (units : List DecodedUnit) (unit : DecodedUnit)
      → (old Input).left ≡ prepend_known (unit_bytes settings (units ++ unit ∷ [])) (new Input).left
      → HasWritten (old Output) (dec_out settings units) (new Output)
      → HasWritten (old MetaOut) (dec_payloads settings units) (new MetaOut)
      → EndsWithin settings old new exit (units ++ unit ∷ [])

-- Whole valid units were taken from the input, and the file goes on with rest. Of each output of the units a prefix is
-- written, and with the file's own answer all.
pub record DecodedUnits (settings : OutputSettings) (old : Slot → SlotView) (exit : Exit) (new : Slot → SlotView)
    : Type 0 where
  pub units : List DecodedUnit
  pub rest : List ℕ
  pub valid : AreValid settings units
  pub count : length units ≤ MAX_UNITS
  pub told : IsKnownAs (old Input).left (unit_bytes settings units ++ rest)
  pub others : OnlyAtFiles old new
  pub ends : Ends settings old new exit units rest
  pub within : EndsWithin settings old new exit units
