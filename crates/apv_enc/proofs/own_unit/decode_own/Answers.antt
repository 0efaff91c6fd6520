use Rattle.std.proofs.Common.{subst}
use Rattle.apv_frame.specs.Unit.{IsFramesFault}
use Rattle.apv_workers.specs.Decode.{break_of}
use Rattle.apv_enc.proofs.OwnUnitLemmas.{structure-of, sound-structure, sound-content, own-frames}
use Rattle.apv_enc.proofs.own_unit.decode_own.Goals as goal

pub unreachable-requires : goal.unreachable-requires
unreachable-requires g c =
    let own = c.requires.valid in
    sound-structure c.args.number c.args.unit.now own.0 c.in_default.field-0 (own.1, own.2) c.in_default.ensures

pub unreachable-requires-in-Err-Broken : goal.unreachable-requires-in-Err-Broken
unreachable-requires-in-Err-Broken g c =
    let own = c.requires.valid in
    let fault = c.in-Err-Broken.ensures.err own.0.pbus (structure-of c.args.unit.now own.0 (own.1, own.2)) in
    sound-content c.args.number c.args.unit.now own.0 c.in-Err-Broken.field-0-0 (break_of c.in-Err-Broken.field-0-1) (own.1, own.2)
    (subst (IsFramesFault own.0.pbus) c.in-Err-Broken.field-0-is fault)

pub returns-in-Ok-decode : goal.returns-in-Ok-decode
returns-in-Ok-decode g c decoded same valid =
    own-frames c.args.unit.now c.decode.new.self decoded (same, valid) (c.in-Ok-decode.ensures.ok decoded.pbus (structure-of c.args.unit.now decoded (same, valid)))
