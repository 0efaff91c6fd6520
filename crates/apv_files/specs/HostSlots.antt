-- What is known of real files, slot by slot.
use Rattle.apv_base.specs.model.Slot.{slot_number}
use Rattle.apv_base.specs.declared.slot.Slot.{Slot}
use Rattle.apv_files.specs.SlotView.{SlotView}
use Rattle.apv_files.specs.SlotStatus.{status_in}
use Rattle.apv_files.specs.declared.host_slots.HostSlots.{HostSlots}

-- what is known of a slot
abbrev pub host_slots_view : HostSlots → Slot → SlotView
host_slots_view slots slot = status_in slots.statuses (slot_number slot)
