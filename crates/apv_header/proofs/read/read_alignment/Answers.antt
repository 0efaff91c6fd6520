use Rattle.std.proofs.Common.{refl, length}
use Rattle.apv_base.specs.model.Bits.{padding}
use Rattle.apv_header.proofs.FieldLemmas.{zero-walks}
use Rattle.apv_header.proofs.PartLemmas.{aligned-reads, aligned-breaks, padding-fits}
use Rattle.apv_header.proofs.read.read_alignment.Goals as goal

pub returns-in-Ok-clause-ok : goal.returns-in-Ok-clause-ok
returns-in-Ok-clause-ok c next = zero-walks _ next (aligned-reads (padding c.args.reader.now.place) c.args.reader.now c.align.new.self c.in-Ok.ensures.ok) refl

pub returns-in-Err-clause-err : goal.returns-in-Err-clause-err
returns-in-Err-clause-err c next =
    aligned-breaks (padding c.args.reader.now.place) c.args.reader.now next (padding-fits (length c.args.reader.now.left) c.args.reader.now.place c.requires) (c.in-Err.ensures.not_zero.0 refl)
