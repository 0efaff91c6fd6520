-- What is known of files in memory, slot by slot.
use Rattle.apv_base.specs.model.Slot.{slot_number}
use Rattle.apv_base.specs.declared.slot.Slot.{Slot}
use Rattle.apv_files.specs.SlotView.{SlotView}
use Rattle.apv_files.specs.MemorySlot.{view_in}
use Rattle.apv_files.specs.declared.memory_slots.MemorySlots.{MemorySlots}

-- what is known of a slot
abbrev pub memory_slots_view : MemorySlots → Slot → SlotView
memory_slots_view slots slot = view_in slots.slots (slot_number slot)
