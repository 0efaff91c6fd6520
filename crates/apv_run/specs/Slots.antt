-- What is known of a slot after the calls of a run on it.
use Rattle.std.specs.Prelude.{◌≡◌, ℕ, List, ◌++◌}
use Rattle.std.specs.Bool.{OnFalse}
use Rattle.std.specs.Io.KnownBytes.{append_known}
use Rattle.apv_base.specs.declared.slot.Slot.{Slot}
use Rattle.apv_base.specs.model.Slot.{same_slot}
use Rattle.apv_files.specs.SlotView.{SlotView, Faulted}
use Rattle.apv_files.specs.Loops.{WroteAll, WroteFailed}

-- of a slot only what is left changed
abbrev pub OnlyLeftChanged : SlotView → SlotView → Type 0
OnlyLeftChanged old new = new ≡ record old { left = new.left }

-- the read faults rose, and else only what is left changed
pub record IsReadFault (old new : SlotView) : Type 0 where
  pub fault : Faulted old.read_faults new.read_faults
  pub rest : new ≡ record old { left = new.left; read_faults = new.read_faults }

-- a prefix of these bytes was written
pub record IsWrittenPrefix (old : SlotView) (bytes : List ℕ) (new : SlotView) : Type 0 where
  pub prefix : List ℕ
  pub more : List ℕ
  pub parts : prefix ++ more ≡ bytes
  pub rest : WroteAll old prefix new

-- the write faults rose, and a prefix of these bytes was written
pub record IsWriteFault (old : SlotView) (bytes : List ℕ) (new : SlotView) : Type 0 where
  pub prefix : List ℕ
  pub more : List ℕ
  pub parts : prefix ++ more ≡ bytes
  pub failed : WroteFailed old prefix new

-- these bytes were written, and perhaps more
abbrev pub HasWritten : SlotView → List ℕ → SlotView → Type 0
HasWritten old bytes new = (more : List ℕ) × (new.written ≡ append_known old.written (bytes ++ more))

-- no slot but these three changed
abbrev pub OnlyAtThree : Slot → Slot → Slot → (Slot → SlotView) → (Slot → SlotView) → Type 0
OnlyAtThree a b c old new =
    (slot : Slot) → OnFalse (same_slot slot a) (OnFalse (same_slot slot b) (OnFalse (same_slot slot c) (new slot ≡ old slot)))
