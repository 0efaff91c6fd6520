use Rattle.std.proofs.Common.{length, refl, rules}
use Rattle.apv_base.specs.declared.slot.Slot.TheVariants.{Input}
use Rattle.apv_video.specs.Line.{TookNoLine}
use Rattle.apv_video.proofs.HeaderLemmas.{header-no-line}
use Rattle.apv_video.proofs.open.open_video.Goals as goal

pub returns-in-Ok-None-clause-here : goal.returns-in-Ok-None-clause-here
returns-in-Ok-None-clause-here g c =
    let old = g.F.Files.slot_view c.args.files.now Input in
    let new = g.F.Files.slot_view c.read_line.new.files Input in
    let none : TookNoLine old (length c.read_line.new.line) new = rw c.in-Ok-None.field-0-is at c.in-Ok-None.ensures.here in
    rw c.bad_header.ensures (header-no-line old new (length c.read_line.new.line) (search rules) none, refl, refl)
