use Rattle.std.proofs.Common.{rules, ◌<◌, length, ap}
use Rattle.apv_base.specs.declared.slot.Slot.TheVariants.{Console}
use Rattle.apv_base.specs.model.Slot.{slot_number}
use Rattle.apv_files.specs.SlotView.{WriteFailed}
use Rattle.apv_files.specs.SlotStatus.{status_view}
use Rattle.apv_files.specs.declared.files.Mode.TheVariants.{Writing}
use Rattle.apv_files.proofs.ViewLists.{view_by-call, view_by-same_mode, view_by-set_other}
use Rattle.apv_files.specs.declared.status.SlotStatus.{SlotStatus}
use Rattle.apv_files.proofs.host_slots.HostSlots.count_write_fault.Goals as goal

pub invariant_of-self : goal.invariant_of-self
invariant_of-self c =
    let small : c.index_of.result < length c.args.self.now.statuses = search rules in
    record { console = view_by-same_mode status_view c.args.self.now.statuses c.index_of.result (slot_number Console) c.index-self-index_of.result c.count_write_fault.new.self Writing small (ap (λ (s : SlotStatus). s.mode) c.count_write_fault.ensures.rest) c.args.self.now.console }

pub returns-clause-here : goal.returns-clause-here
returns-clause-here c =
    let small : c.index_of.result < length c.args.self.now.statuses = search rules in
    view_by-call status_view c.args.self.now.statuses c.index_of.result (slot_number c.args.slot) c.index-self-index_of.result c.count_write_fault.new.self (λ old new. WriteFailed old new) c.index_of.ensures.number small (search rules)

pub returns-clause-elsewhere : goal.returns-clause-elsewhere
returns-clause-elsewhere c other =
    view_by-set_other status_view c.args.self.now.statuses c.index_of.result (slot_number c.args.slot) (slot_number other) _ c.index_of.ensures.number
