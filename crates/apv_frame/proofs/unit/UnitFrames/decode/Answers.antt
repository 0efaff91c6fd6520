use Rattle.std.proofs.Common.{◌∙◌, [], List, sym, subst}
use Rattle.apv_base.specs.model.Pbu.{Pbu}
use Rattle.apv_base.proofs.UnitLemmas.{frame-sound}
use Rattle.apv_unit.specs.Pbus.{PbusLeft}
use Rattle.apv_unit.proofs.PbusWalk.{Midway, midway-start, midway-next, midway-end}
use Rattle.apv_frame.specs.Unit.{HasFrames, IsFramesFault}
use Rattle.apv_frame.proofs.UnitLemmas.{start-decoded, other-passed, frame-passed, frame-faults}
use Rattle.apv_frame.proofs.unit.UnitFrames.decode.Goals as goal

pub loop-pbu-init : goal.loop-pbu-init
loop-pbu-init g c = (
  tt,
  tt,
  λ pbus structure.
      let at = midway-start pbus c.of-pbu-items.result c.of-pbu-items.ensures.number (c.of-pbu-items.ensures.pbus pbus structure) in
      start-decoded pbus c.into_iter-pbu-iterator.result c.clear.new.self (subst (λ (now : PbusLeft). Midway pbus [] now) (sym c.into_iter-pbu-iterator.ensures.into_iter_gives) at) c.clear.ensures,
)

pub push-requires-clause-body : goal.push-requires-clause-body
push-requires-clause-body g c κs within =
    let sound = c.in-Some.ensures.steps.sound in
    frame-sound c.in-Some.pbu.kind c.in-Some.pbu.body.now sound.0 (sym c.is_frame.ensures ∙ c.if-is_frame.true) sound.1

pub loop-pbu-preserved-in-Ok : goal.loop-pbu-preserved-in-Ok
loop-pbu-preserved-in-Ok g c = (
  tt,
  tt,
  λ pbus structure.
      let now = c.loop-pbu.invariant.2 pbus structure in
      let step = midway-next pbus now.passed c.loop-pbu.pbu-iterator c.next.new.self c.in-Some.pbu now.midway c.in-Some.ensures.steps in
      frame-passed pbus c.loop-pbu.pbu-iterator c.next.new.self c.in-Some.pbu c.loop-pbu.self c.push.new.self now step (sym c.is_frame.ensures ∙ c.if-is_frame.true) c.in-Ok.ensures.ok,
)

pub returns-in-Err-clause-err : goal.returns-in-Err-clause-err
returns-in-Err-clause-err g c pbus structure =
    let now = c.loop-pbu.invariant.2 pbus structure in
    let step = midway-next pbus now.passed c.loop-pbu.pbu-iterator c.next.new.self c.in-Some.pbu now.midway c.in-Some.ensures.steps in
    subst (IsFramesFault pbus) (sym c.fault_of.ensures) (frame-faults pbus c.loop-pbu.pbu-iterator c.next.new.self c.in-Some.pbu c.loop-pbu.self c.in-Err.fault now step (sym c.is_frame.ensures ∙ c.if-is_frame.true) c.in-Err.ensures.err)

pub loop-pbu-preserved : goal.loop-pbu-preserved
loop-pbu-preserved g c = (
  tt,
  tt,
  λ pbus structure.
      let now = c.loop-pbu.invariant.2 pbus structure in
      let step = midway-next pbus now.passed c.loop-pbu.pbu-iterator c.next.new.self c.in-Some.pbu now.midway c.in-Some.ensures.steps in
      other-passed pbus c.loop-pbu.pbu-iterator c.next.new.self c.in-Some.pbu c.loop-pbu.self now step (sym c.is_frame.ensures ∙ c.if-is_frame.false),
)

pub returns-clause-ok : goal.returns-clause-ok
returns-clause-ok g c pbus structure =
    let now = c.loop-pbu.invariant.2 pbus structure in
    subst (λ (ps : List Pbu). HasFrames ps c.loop-pbu.self) (sym (midway-end pbus now.passed c.loop-pbu.pbu-iterator now.midway c.in-None.ensures.steps.0)) now.frames
