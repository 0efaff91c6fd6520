use Rattle.std.proofs.Common.{rules, ◌<◌, length}
use Rattle.apv_base.specs.declared.slot.Slot.TheVariants.{Console}
use Rattle.apv_base.specs.model.Slot.{slot_number}
use Rattle.apv_files.specs.MemorySlot.{view_of}
use Rattle.apv_files.specs.SlotView.{WriteFailed}
use Rattle.apv_files.specs.declared.files.Mode.TheVariants.{Writing}
use Rattle.apv_files.proofs.ViewLists.{view_by-call, view_by-same_mode, view_by-set_other}
use Rattle.apv_files.proofs.memory_slots.MemorySlots.fail_write.Goals as goal

pub invariant_of-self : goal.invariant_of-self
invariant_of-self c =
    let small : c.index_of.result < length c.args.self.now.slots = search rules in
    record { console = view_by-same_mode view_of c.args.self.now.slots c.index_of.result (slot_number Console) c.index-self-index_of.result _ Writing small c.fail_write.ensures.mode c.args.self.now.console }

pub returns-clause-here : goal.returns-clause-here
returns-clause-here c =
    let small : c.index_of.result < length c.args.self.now.slots = search rules in
    view_by-call view_of c.args.self.now.slots c.index_of.result (slot_number c.args.slot) c.index-self-index_of.result _ (λ old new. WriteFailed old new) c.index_of.ensures.number small c.fail_write.ensures.here

pub returns-clause-elsewhere : goal.returns-clause-elsewhere
returns-clause-elsewhere c other =
    view_by-set_other view_of c.args.self.now.slots c.index_of.result (slot_number c.args.slot) (slot_number other) _ c.index_of.ensures.number
