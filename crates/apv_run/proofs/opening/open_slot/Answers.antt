use Rattle.apv_run.proofs.OpenLemmas.{next-refused, next-opened}
use Rattle.apv_run.proofs.opening.open_slot.Goals as goal

pub returns-in-Ok-clause-opens : goal.returns-in-Ok-clause-opens
returns-in-Ok-clause-opens g c names held start next =
    next-opened names held (g.F.Files.held c.args.files.now) start (g.F.Files.slot_view c.args.files.now) (g.F.Files.slot_view c.open_named.new.files) c.args.slot c.args.name.now c.requires.file next
    c.in-Ok.ensures.elsewhere c.in-Ok.ensures.here

pub returns-in-Err-clause-opens : goal.returns-in-Err-clause-opens
returns-in-Err-clause-opens g c names held start next =
    rw c.open_exit.ensures (next-refused names held (g.F.Files.held c.args.files.now) start (g.F.Files.slot_view c.args.files.now) (g.F.Files.slot_view c.open_named.new.files) c.args.slot c.args.name.now c.requires.file next
    c.in-Err.ensures.elsewhere c.in-Err.failed c.in-Err.ensures.here.0 c.in-Err.ensures.here.1 c.in-Err.ensures.here.2)

pub returns-in-Err-clause-here : goal.returns-in-Err-clause-here
returns-in-Err-clause-here g c = (c.in-Err.failed, c.open_exit.ensures, c.in-Err.ensures.here)
