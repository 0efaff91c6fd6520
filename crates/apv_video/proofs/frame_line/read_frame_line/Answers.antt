use Rattle.std.proofs.Common.{length, rules}
use Rattle.apv_video.specs.Line.{TookLine, TookNoLine}
use Rattle.apv_video.proofs.FrameLineLemmas.{lacks-first, lacks-feed, line-taken, line-failed}
use Rattle.apv_video.proofs.frame_line.read_frame_line.Goals as goal

pub returns-then-first-ne70-clause-here : goal.returns-then-first-ne70-clause-here
returns-then-first-ne70-clause-here g c = lacks-first (g.F.Files.slot_view c.args.files.now c.args.slot) c.args.first (search rules)

pub returns-in-Ok-Some-clause-here : goal.returns-in-Ok-Some-clause-here
returns-in-Ok-Some-clause-here g c =
    let old = g.F.Files.slot_view c.args.files.now c.args.slot in
    let new = g.F.Files.slot_view c.read_line.new.files c.args.slot in
    let took : TookLine old c.in-Ok-Some.count c.read_line.new.line new = rw c.in-Ok-Some.field-0-is at c.in-Ok-Some.ensures.here in
    line-taken old new c.args.first c.in-Ok-Some.count c.split_at.result.0.now c.read_line.new.line c.is_frame_line.result (search rules) c.split_at.ensures.front (search rules) took c.is_frame_line.ensures.right c.is_frame_line.ensures.wrong

pub returns-in-Ok-None-clause-here : goal.returns-in-Ok-None-clause-here
returns-in-Ok-None-clause-here g c =
    let old = g.F.Files.slot_view c.args.files.now c.args.slot in
    let new = g.F.Files.slot_view c.read_line.new.files c.args.slot in
    let none : TookNoLine old (length c.read_line.new.line) new = rw c.in-Ok-None.field-0-is at c.in-Ok-None.ensures.here in
    lacks-feed old new c.args.first (length c.read_line.new.line) (search rules) (search rules) none

pub returns-in-Err-clause-here : goal.returns-in-Err-clause-here
returns-in-Err-clause-here g c =
    let old = g.F.Files.slot_view c.args.files.now c.args.slot in
    let new = g.F.Files.slot_view c.read_line.new.files c.args.slot in
    line-failed old new c.args.first c.read_line.new.line c.in-Err.failed (search rules) c.in-Err.ensures.here
