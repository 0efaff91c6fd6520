use Rattle.apv_base.specs.declared.slot.Slot.TheVariants.{Recon}
use Rattle.bench.proofs.video.pictures.file_of.Goals as goal

pub create-requires-clause-closed : goal.create-requires-clause-closed
create-requires-clause-closed c = c.new-files.ensures.closed Recon
