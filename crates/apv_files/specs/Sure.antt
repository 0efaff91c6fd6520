-- What is known of files in memory that never fail.
use Rattle.std.specs.Prelude.{ℕ, List, [], Option, Some}
use Rattle.std.specs.Option.{unwrap_or}
use Rattle.apv_base.specs.declared.slot.Slot.{Slot}
use Rattle.apv_files.specs.Held.{content_of}
use Rattle.apv_files.specs.SlotView.{SlotView, NeverFailed}
use Rattle.apv_files.specs.MemorySlots.{memory_slots_view}
use Rattle.apv_files.specs.declared.sure.SureFiles.{SureFiles}

-- the content of the file of a name: one that isn't held is empty
abbrev pub sure_held : SureFiles → List ℕ → Option (List ℕ)
sure_held files name = Some (unwrap_or (content_of files.files name) [])

-- what is known of a slot
abbrev pub sure_view : SureFiles → Slot → SlotView
sure_view files slot = memory_slots_view files.slots slot

-- no call on any slot has failed by the device
pub never_failed : (files : SureFiles) (slot : Slot) → NeverFailed (sure_view files slot)
never_failed files slot = files.never_failed slot
