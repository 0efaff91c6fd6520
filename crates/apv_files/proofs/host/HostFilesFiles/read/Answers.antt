use Rattle.apv_base.specs.model.Slot.{slot_number}
use Rattle.apv_files.proofs.Untold.{took-untold, status_in-untold}
use Rattle.apv_files.proofs.host.HostFilesFiles.read.Goals as goal

pub returns-clause-here : goal.returns-clause-here
returns-clause-here g c =
    took-untold _ c.in-Ok.count c.read_stream.new.buf (status_in-untold c.args.self.now.slots.statuses (slot_number c.args.slot)) c.in-Ok.ensures
