-- What opening the files of a run leaves.
use Rattle.std.specs.Prelude.{◌≡◌, ℕ, ◌<◌, ◌≤◌, List, Bool, true, false, Option, Some, None, Result, Ok, Err, ⊤}
use Rattle.apv_base.specs.declared.exits.Exit.{Exit}
use Rattle.apv_base.specs.declared.exits.Exit.TheVariants.{Memory, OpenFailed}
use Rattle.apv_base.specs.declared.slot.Slot.{Slot}
use Rattle.apv_base.specs.declared.slot.Slot.TheVariants.{Console}
use Rattle.apv_base.specs.model.Slot.{is_input, slot_number}
use Rattle.apv_files.specs.declared.files.Failed.{Failed}
use Rattle.apv_files.specs.declared.files.Mode.TheVariants.{Reading}
use Rattle.apv_files.specs.SlotView.{SlotView, AfterFailedOpen, AllClosed, Created}
use Rattle.apv_run.specs.Names.{Names, AreNamed, AreOpen}
use Rattle.apv_run.specs.Cause.{AreUnwritten, IsNotOpen}
use Rattle.apv_run.specs.Exits.{open_exit}

-- ---- one slot

-- a file of that name is open: an input is read from its start, an output was created; without a name nothing was done
abbrev pub IsOpened : Bool → Option (List ℕ) → (List ℕ → Option (List ℕ)) → SlotView → SlotView → Type 0
IsOpened is_read None held old new = new ≡ old
IsOpened true (Some name) held old new = new ≡ record old { mode = Reading; name = name; left = held name }
IsOpened false (Some name) held old new = Created old name new

-- a file is opened where the slot has a name, and nothing fails without one
abbrev pub Opens : {T : Type 0} → Slot → Option (List ℕ) → (List ℕ → Option (List ℕ)) → SlotView → Result T Failed
    → SlotView → Type 0
Opens slot named held old (Ok _) new = IsOpened (is_input slot) named held old new
Opens slot named held old (Err failed) new =
    (name : List ℕ) × (named ≡ Some name) × AfterFailedOpen old name failed new

-- as above, where a failed call is an answer: that the slot couldn't be opened, where its device failed, and out of
-- memory, where memory ran out and the slot is as before
abbrev pub OpensOrExits : {T : Type 0} → Slot → Option (List ℕ) → (List ℕ → Option (List ℕ)) → SlotView → Result T Exit
    → SlotView → Type 0
OpensOrExits slot named held old (Ok _) new = IsOpened (is_input slot) named held old new
OpensOrExits slot named held old (Err exit) new =
    (failed : Failed) × (exit ≡ open_exit slot failed)
    × ((name : List ℕ) × (named ≡ Some name) × AfterFailedOpen old name failed new)

-- ---- one slot after another

-- the slots below a number were opened, and the others are as before
pub record OpenedBelow (number : ℕ) (names : Names) (held : List ℕ → Option (List ℕ)) (old new : Slot → SlotView)
    : Type 0 where
  pub opened : (slot : Slot) → slot_number slot < number
      → IsOpened (is_input slot) (names slot) held (old slot) (new slot)
  pub others : (slot : Slot) → number ≤ slot_number slot → new slot ≡ old slot

-- All slots but the console were opened: each input that has a name is reading, and what is left of it is what its file
-- holds, each output that has one was created, and all else stays.
abbrev pub Opened : Names → (List ℕ → Option (List ℕ)) → (Slot → SlotView) → (Slot → SlotView) → Type 0
Opened = OpenedBelow (slot_number Console)

-- The slot is the next to be opened: all were closed and unwritten at the start, those below it were opened, and what
-- files hold is as at the start.
pub record IsNext (names : Names) (held now_held : List ℕ → Option (List ℕ)) (start now : Slot → SlotView)
    (slot : Slot) (name : Option (List ℕ)) : Type 0 where
  pub closed : AllClosed start
  pub unwritten : AreUnwritten start
  pub named : names slot ≡ name
  pub same : (file : List ℕ) → now_held file ≡ held file
  pub below : OpenedBelow (slot_number slot) names held start now

-- memory ran out, or a slot couldn't be opened
abbrev pub IsOpenEnd : Names → (Slot → SlotView) → (Slot → SlotView) → Exit → Type 0
IsOpenEnd names old new Memory = ⊤
IsOpenEnd names old new (OpenFailed slot) = IsNotOpen names slot old new
IsOpenEnd names old new _ = ⊥

-- opening stopped before all files were open
pub record IsRefused (names : Names) (old new : Slot → SlotView) (exit : Exit) : Type 0 where
  pub cause : IsOpenEnd names old new exit
  pub unwritten : AreUnwritten new
  pub named : AreNamed names new
  pub not_open : AreOpen names new → ⊥

-- the slots below a number were opened, or opening stopped
abbrev pub AfterOpening : {T : Type 0} → ℕ → Names → (List ℕ → Option (List ℕ)) → (Slot → SlotView) → Result T Exit
    → (Slot → SlotView) → Type 0
AfterOpening number names held old (Ok _) new = OpenedBelow number names held old new
AfterOpening number names held old (Err exit) new = IsRefused names old new exit
