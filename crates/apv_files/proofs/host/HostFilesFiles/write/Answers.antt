use Rattle.apv_base.specs.model.Slot.{slot_number}
use Rattle.apv_files.proofs.Untold.{put-untold, status_in-untold}
use Rattle.apv_files.proofs.host.HostFilesFiles.write.Goals as goal

pub returns-clause-here : goal.returns-clause-here
returns-clause-here g c =
    put-untold _ c.in-Ok.count c.args.piece.now (status_in-untold c.args.self.now.slots.statuses (slot_number c.args.slot)) c.in-Ok.ensures.fits c.in-Ok.ensures.some
