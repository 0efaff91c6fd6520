use Rattle.apv_base.specs.model.Slot.{slot_number}
use Rattle.apv_files.specs.SlotStatus.{status_view}
use Rattle.apv_files.proofs.ViewLists.{view_by-set_other}
use Rattle.apv_files.proofs.host_slots.HostSlots.open.Goals as goal

pub returns-clause-elsewhere : goal.returns-clause-elsewhere
returns-clause-elsewhere c other =
    view_by-set_other status_view c.args.self.now.statuses c.index_of.result (slot_number c.args.slot) (slot_number other) _ c.index_of.ensures.number
