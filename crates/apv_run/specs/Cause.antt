-- What follows each answer of a run over named files.
use Rattle.std.specs.Prelude.{◌≡◌, ◌<◌, Bool, true, false, Some, ⊤, ◌⊎◌}
use Rattle.std.specs.Bool.{IsTrue}
use Rattle.std.specs.Io.KnownBytes.{IsAtEnd}
use Rattle.apv_base.specs.declared.slot.Slot.{Slot}
use Rattle.apv_base.specs.declared.slot.Slot.TheVariants.{Console}
use Rattle.apv_base.specs.declared.exits.Exit.{Exit}
use Rattle.apv_base.specs.declared.exits.Exit.TheVariants.{Done, Memory, Usage, OpenFailed, ReadFailed, WriteFailed}
use Rattle.apv_base.specs.declared.options.UsageKind.{UsageKind}
use Rattle.apv_base.specs.model.Slot.{is_input, is_output, same_slot, slot_number}
use Rattle.apv_files.specs.declared.files.Mode.TheVariants.{Closed}
use Rattle.apv_files.specs.SlotView.{SlotView, Rose}
use Rattle.apv_run.specs.Names.{Names, IsNamed, AtFiles, AreOpen}

-- ---- faults

-- the slot has failed no more often than before
pub record HasNoFault (old new : SlotView) : Type 0 where
  pub opens : new.open_faults ≡ old.open_faults
  pub reads : new.read_faults ≡ old.read_faults
  pub writes : new.write_faults ≡ old.write_faults

-- no slot but the console has
abbrev pub HaveNoFault : (Slot → SlotView) → (Slot → SlotView) → Type 0
HaveNoFault old new = AtFiles (λ slot. HasNoFault (old slot) (new slot))

-- no open, read or write count of the slot rose
pub record HasNotRisen (old new : SlotView) : Type 0 where
  pub opens : Rose old.open_faults new.open_faults → ⊥
  pub reads : Rose old.read_faults new.read_faults → ⊥
  pub writes : Rose old.write_faults new.write_faults → ⊥

-- no count of any slot but the console rose
abbrev pub HaveNotRisen : (Slot → SlotView) → (Slot → SlotView) → Type 0
HaveNotRisen old new = AtFiles (λ slot. HasNotRisen (old slot) (new slot))

-- ---- words

-- no slot but the console changed
abbrev pub IsUntouched : (Slot → SlotView) → (Slot → SlotView) → Type 0
IsUntouched old new = AtFiles (λ slot. new slot ≡ old slot)

-- the words are refused by that fault, or memory ran out
abbrev pub IsUsage : UsageKind → Exit → Type 0
IsUsage kind exit = (exit ≡ Usage kind) ⊎ (exit ≡ Memory)

-- ---- answers

-- the answer is of the files and of nothing else: no fault and no running out of memory
abbrev pub is_of_file : Exit → Bool
is_of_file Memory = false
is_of_file (OpenFailed slot) = false
is_of_file (ReadFailed slot) = false
is_of_file (WriteFailed slot) = false
is_of_file _ = true

-- the answer is that a write failed
abbrev pub is_write_fault : Exit → Bool
is_write_fault (WriteFailed slot) = true
is_write_fault exit = false

-- nothing was written to any output
abbrev pub AreUnwritten : (Slot → SlotView) → Type 0
AreUnwritten views = (slot : Slot) → IsTrue (is_output slot) → IsAtEnd (views slot).written

-- A slot couldn't be opened: its device failed at its name. Files are opened in the order of the slots: no later one is
-- open, and nothing was written.
pub record IsNotOpen (names : Names) (slot : Slot) (old new : Slot → SlotView) : Type 0 where
  pub file : same_slot slot Console ≡ false
  pub name : names slot ≡ Some (new slot).name
  pub closed : (new slot).mode ≡ Closed
  pub rose : Rose (old slot).open_faults (new slot).open_faults
  pub later : AtFiles (λ other. slot_number slot < slot_number other → (new other).mode ≡ Closed)
  pub unwritten : AreUnwritten new

-- a read of an input failed, where all files are open
pub record IsUnread (names : Names) (slot : Slot) (old new : Slot → SlotView) : Type 0 where
  pub are_open : AreOpen names new
  pub named : IsNamed names slot
  pub input : is_input slot ≡ true
  pub rose : Rose (old slot).read_faults (new slot).read_faults

-- a write to an output failed, where all files are open
pub record IsNotWritten (names : Names) (slot : Slot) (old new : Slot → SlotView) : Type 0 where
  pub are_open : AreOpen names new
  pub named : IsNamed names slot
  pub output : is_output slot ≡ true
  pub rose : Rose (old slot).write_faults (new slot).write_faults

-- all files are open, and no call on them failed
pub record AreSound (names : Names) (old new : Slot → SlotView) : Type 0 where
  pub are_open : AreOpen names new
  pub quiet : HaveNoFault old new

-- each input that has a name is at its end
abbrev pub AreAtEnd : Names → (Slot → SlotView) → Type 0
AreAtEnd names new = (slot : Slot) → is_input slot ≡ true → IsNamed names slot → IsAtEnd (new slot).left

-- What follows each answer of a run. A program has answers of its own, which it gives where all files are open and no
-- call on them failed.
abbrev pub HasCause : (Exit → Bool) → Names → (Slot → SlotView) → (Slot → SlotView) → Exit → Type 0
HasCause is_own names old new Done = AreSound names old new × AreAtEnd names new
HasCause is_own names old new Memory = ⊤
HasCause is_own names old new (OpenFailed slot) = IsNotOpen names slot old new
HasCause is_own names old new (ReadFailed slot) = IsUnread names slot old new
HasCause is_own names old new (WriteFailed slot) = IsNotWritten names slot old new
HasCause is_own names old new exit = (is_own exit ≡ true) × AreSound names old new
