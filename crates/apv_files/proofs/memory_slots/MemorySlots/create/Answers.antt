use Rattle.apv_base.specs.model.Slot.{slot_number}
use Rattle.apv_files.specs.MemorySlot.{view_of}
use Rattle.apv_files.proofs.ViewLists.{view_by-set_other}
use Rattle.apv_files.proofs.memory_slots.MemorySlots.create.Goals as goal

pub returns-clause-elsewhere : goal.returns-clause-elsewhere
returns-clause-elsewhere c other =
    view_by-set_other view_of c.args.self.now.slots c.index_of.result (slot_number c.args.slot) (slot_number other) _ c.index_of.ensures.number
