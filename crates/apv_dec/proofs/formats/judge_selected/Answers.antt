use Rattle.std.proofs.Common.{◌∙◌, ◌+◌, [], refl, sym, ap, subst, arith, Option}
use Rattle.apv_base.specs.declared.format.Format.{Format}
use Rattle.apv_base.specs.model.Grid.{Grid}
use Rattle.apv_unit.specs.Pbus.{PbusLeft}
use Rattle.apv_unit.proofs.PbusWalk.{Midway, midway-start}
use Rattle.apv_dec.specs.Outputs.{output_settings}
use Rattle.apv_dec.proofs.FrameLemmas.{frame-within}
use Rattle.apv_dec.proofs.FormatLemmas.{AgreeSoFar, start-agrees, other-agrees, frame-skipped, frame-agrees, frame-differs, all-agree}
use Rattle.apv_dec.proofs.formats.judge_selected.Goals as goal
use Rattle.apv_dec.proofs.formats.judge_selected.Goals.{then-is_selected+in-Ok, else-is_selected}

pub loop-pbu-init : goal.loop-pbu-init
loop-pbu-init c = (
  tt,
  tt,
  λ unit judged.
      let at = midway-start unit.pbus c.of-pbu-items.result c.of-pbu-items.ensures.number (c.of-pbu-items.ensures.pbus unit.pbus judged.rules.structure) in
      start-agrees (output_settings c.args.settings.now) unit c.args.frames.now _ c.args.first (subst (λ (now : PbusLeft). Midway unit.pbus [] now) (sym c.into_iter-pbu-iterator.ensures.into_iter_gives) at) judged.content judged.held,
)

pub offset_bounds-frames-index : goal.offset_bounds-frames-index
offset_bounds-frames-index c =
    let within = frame-within c.args.settings.now.strict c.args.unit.now c.args.frames.now c.loop-pbu.pbu-iterator c.next.new.self c.loop-pbu.index c.in-Some.pbu c.requires.small c.requires.judged
    (λ unit judged. let so = c.loop-pbu.invariant.2 unit judged in (so.before, so.at)) c.in-Some.ensures.steps (sym c.is_frame.ensures ∙ c.if-is_frame.true) in
    omega (arith, within.0, within.1)

pub bounds-frames-index : goal.bounds-frames-index
bounds-frames-index c =
    let within = frame-within c.args.settings.now.strict c.args.unit.now c.args.frames.now c.loop-pbu.pbu-iterator c.next.new.self c.loop-pbu.index c.in-Some.pbu c.requires.small c.requires.judged
    (λ unit judged. let so = c.loop-pbu.invariant.2 unit judged in (so.before, so.at)) c.in-Some.ensures.steps (sym c.is_frame.ensures ∙ c.if-is_frame.true) in
    within.0

pub returns-in-Err : goal.returns-in-Err
returns-in-Err c before judged are e is =
    frame-differs (output_settings c.args.settings.now) judged c.args.frames.now c.loop-pbu.pbu-iterator c.next.new.self c.loop-pbu.index c.args.first c.loop-pbu.first c.in-Some.pbu (c.loop-pbu.invariant.2 judged is) c.in-Some.ensures.steps
    (sym c.is_frame.ensures ∙ c.if-is_frame.true) (sym c.if-is_selected.true ∙ c.is_selected.ensures) c.index-frames-index.result c.format.result c.in-Err.exit (λ buffer item. c.index-frames-index.is ∙ item _)
    (c.format.ensures ∙ ap (λ (grid : Grid). grid.format) c.grid.ensures) c.in-Err.ensures before are e

pub overflow_add-index : goal.overflow_add-index
overflow_add-index c =
    let within = frame-within c.args.settings.now.strict c.args.unit.now c.args.frames.now c.loop-pbu.pbu-iterator c.next.new.self c.loop-pbu.index c.in-Some.pbu c.requires.small c.requires.judged
    (λ unit judged. let so = c.loop-pbu.invariant.2 unit judged in (so.before, so.at)) c.in-Some.ensures.steps (sym c.is_frame.ensures ∙ c.if-is_frame.true) in
    omega (arith, within.0, within.1)

pub loop-pbu-preserved-then-is_frame : goal.loop-pbu-preserved-then-is_frame
loop-pbu-preserved-then-is_frame c = (
  tt,
  tt,
  λ unit judged. elim c.if-is_selected.branch [
    | then-is_selected+in-Ok w ↦ subst
        (λ (first : Option Format). AgreeSoFar (output_settings c.args.settings.now) unit c.args.frames.now c.next.new.self (c.loop-pbu.index + 1) c.args.first first) (sym w.first-is)
        (frame-agrees (output_settings c.args.settings.now) unit c.args.frames.now c.loop-pbu.pbu-iterator c.next.new.self c.loop-pbu.index (c.loop-pbu.index + 1) c.args.first c.loop-pbu.first _ c.in-Some.pbu (c.loop-pbu.invariant.2 unit judged) c.in-Some.ensures.steps
        (sym c.is_frame.ensures ∙ c.if-is_frame.true) (sym w.if-is_selected.true ∙ c.is_selected.ensures) w.index-frames-index.result w.format.result (λ buffer item. w.index-frames-index.is ∙ item _)
        (w.format.ensures ∙ ap (λ (grid : Grid). grid.format) w.grid.ensures) refl w.in-Ok.ensures)
    | else-is_selected w ↦ subst
        (λ (first : Option Format). AgreeSoFar (output_settings c.args.settings.now) unit c.args.frames.now c.next.new.self (c.loop-pbu.index + 1) c.args.first first) (sym w.first-is)
        (frame-skipped (output_settings c.args.settings.now) unit c.args.frames.now c.loop-pbu.pbu-iterator c.next.new.self c.loop-pbu.index (c.loop-pbu.index + 1) c.args.first c.loop-pbu.first c.in-Some.pbu (c.loop-pbu.invariant.2 unit judged) c.in-Some.ensures.steps
        (sym c.is_frame.ensures ∙ c.if-is_frame.true) (sym w.if-is_selected.false ∙ c.is_selected.ensures) refl)
  ],
)

pub loop-pbu-preserved : goal.loop-pbu-preserved
loop-pbu-preserved c = (
  tt,
  tt,
  λ unit judged.
      other-agrees (output_settings c.args.settings.now) unit c.args.frames.now c.loop-pbu.pbu-iterator c.next.new.self c.loop-pbu.index c.args.first c.loop-pbu.first c.in-Some.pbu (c.loop-pbu.invariant.2 unit judged) c.in-Some.ensures.steps (sym c.is_frame.ensures ∙ c.if-is_frame.false),
)

pub returns : goal.returns
returns c before judged are e is =
    all-agree (output_settings c.args.settings.now) judged c.args.frames.now c.loop-pbu.pbu-iterator c.loop-pbu.index c.args.first c.loop-pbu.first c.in-None.ensures.steps.0 (c.loop-pbu.invariant.2 judged is) before are e
