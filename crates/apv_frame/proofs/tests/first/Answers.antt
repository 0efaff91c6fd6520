use Rattle.std.proofs.Common.{◌∙◌, sym}
use Rattle.apv_base.proofs.UnitLemmas.{frame-sound}
use Rattle.apv_frame.proofs.tests.first.Goals as goal

pub decode_frame-requires-clause-body : goal.decode_frame-requires-clause-body
decode_frame-requires-clause-body g c κs within =
    let sound = c.in-Some.ensures.steps.sound in
    frame-sound c.in-Some.pbu.kind c.in-Some.pbu.body.now sound.0 (sym c.is_frame.ensures ∙ c.if-is_frame.true) sound.1
