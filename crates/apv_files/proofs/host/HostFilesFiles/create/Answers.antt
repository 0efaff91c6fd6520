use Rattle.std.proofs.Common.{rules}
use Rattle.apv_base.specs.model.Slot.{slot_number}
use Rattle.apv_files.proofs.Untold.{created-untold, status_in-untold}
use Rattle.apv_files.proofs.host.HostFilesFiles.create.Goals as goal

pub returns-clause-here : goal.returns-clause-here
returns-clause-here g c =
    created-untold _ _ c.args.name.now (status_in-untold c.args.self.now.slots.statuses (slot_number c.args.slot)) (search rules)
