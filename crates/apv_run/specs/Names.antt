-- The names that settings give to slots, and which slots are open.
use Rattle.std.specs.Prelude.{◌≡◌, ℕ, List, true, Option, Some, None, is_some, ◌⊎◌, if◌then◌else◌}
use Rattle.std.specs.Bool.{OnFalse}
use Rattle.apv_base.specs.declared.slot.Slot.{Slot}
use Rattle.apv_base.specs.declared.slot.Slot.TheVariants.{Console}
use Rattle.apv_base.specs.model.Slot.{is_input, same_slot}
use Rattle.apv_files.specs.declared.files.Mode.{Mode}
use Rattle.apv_files.specs.declared.files.Mode.TheVariants.{Closed, Reading, Writing}
use Rattle.apv_files.specs.SlotView.{SlotView}

-- the name of the file of each slot, where it has one
abbrev pub Names : Type 0
Names = Slot → Option (List ℕ)

-- the slot has a name
abbrev pub IsNamed : Names → Slot → Type 0
IsNamed names slot = is_some (names slot) ≡ true

-- it is true of each slot but the console
abbrev pub AtFiles : (Slot → Type 0) → Type 0
AtFiles claim = (slot : Slot) → OnFalse (same_slot slot Console) (claim slot)

-- what the file of a slot is open for
abbrev pub mode_of : Slot → Mode
mode_of slot = if is_input slot then Reading else Writing

-- the slot is open for that by its name, or closed where it has none
abbrev pub IsOpenAs : Mode → Option (List ℕ) → SlotView → Type 0
IsOpenAs mode (Some name) view = (view.mode ≡ mode) × (view.name ≡ name)
IsOpenAs mode None view = view.mode ≡ Closed

-- each slot but the console is open for reading or for writing by its name, or closed where it has none
abbrev pub AreOpen : Names → (Slot → SlotView) → Type 0
AreOpen names new = AtFiles (λ slot. IsOpenAs (mode_of slot) (names slot) (new slot))

-- each slot but the console that isn't closed has its name
abbrev pub AreNamed : Names → (Slot → SlotView) → Type 0
AreNamed names new = AtFiles (λ slot. ((new slot).mode ≡ Closed) ⊎ (names slot ≡ Some (new slot).name))
