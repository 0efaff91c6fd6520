use Rattle.std.proofs.Common.{rules, arith, ◌∙◌, ◌+◌, [], refl, sym, subst}
use Rattle.apv_base.specs.declared.slot.Slot.TheVariants.{Output}
use Rattle.apv_files.proofs.Many.{only-at-trans}
use Rattle.apv_unit.specs.Pbus.{PbusLeft}
use Rattle.apv_unit.proofs.PbusWalk.{Midway, midway-start}
use Rattle.apv_dec.specs.Outputs.{output_settings}
use Rattle.apv_dec.proofs.FrameLemmas.{frame-within}
use Rattle.apv_dec.proofs.PictureLemmas.{start-written, other-written, frame-done, frame-failed, all-written}
use Rattle.apv_dec.proofs.pictures.write_selected.Goals as goal

pub loop-pbu-init : goal.loop-pbu-init
loop-pbu-init g c = (
  tt,
  tt,
  λ unit judged.
      let at = midway-start unit.pbus c.of-pbu-items.result c.of-pbu-items.ensures.number (c.of-pbu-items.ensures.pbus unit.pbus judged.rules.structure) in
      start-written (output_settings c.args.settings.now) unit c.args.frames.now _ (g.F.Files.slot_view c.args.files.now Output) (subst (λ (now : PbusLeft). Midway unit.pbus [] now) (sym c.into_iter-pbu-iterator.ensures.into_iter_gives) at) judged.content judged.held,
  search rules,
  λ file. refl,
)

pub offset_bounds-frames-index : goal.offset_bounds-frames-index
offset_bounds-frames-index g c =
    let within = frame-within c.args.settings.now.strict c.args.unit.now c.args.frames.now c.loop-pbu.pbu-iterator c.next.new.self c.loop-pbu.index c.in-Some.pbu c.requires.small c.requires.judged
    (λ unit judged. let so = c.loop-pbu.invariant.2 unit judged in (so.before, so.at)) c.in-Some.ensures.steps (sym c.is_frame.ensures ∙ c.if-is_frame.true) in
    omega (arith, within.0, within.1)

pub bounds-frames-index : goal.bounds-frames-index
bounds-frames-index g c =
    let within = frame-within c.args.settings.now.strict c.args.unit.now c.args.frames.now c.loop-pbu.pbu-iterator c.next.new.self c.loop-pbu.index c.in-Some.pbu c.requires.small c.requires.judged
    (λ unit judged. let so = c.loop-pbu.invariant.2 unit judged in (so.before, so.at)) c.in-Some.ensures.steps (sym c.is_frame.ensures ∙ c.if-is_frame.true) in
    within.0

pub overflow_add-index : goal.overflow_add-index
overflow_add-index g c =
    let within = frame-within c.args.settings.now.strict c.args.unit.now c.args.frames.now c.loop-pbu.pbu-iterator c.next.new.self c.loop-pbu.index c.in-Some.pbu c.requires.small c.requires.judged
    (λ unit judged. let so = c.loop-pbu.invariant.2 unit judged in (so.before, so.at)) c.in-Some.ensures.steps (sym c.is_frame.ensures ∙ c.if-is_frame.true) in
    omega (arith, within.0, within.1)

pub returns-in-Err-clause-here : goal.returns-in-Err-clause-here
returns-in-Err-clause-here g c unit judged =
    frame-failed (Unit {0}) (Unit {0}) (output_settings c.args.settings.now) unit c.args.frames.now c.loop-pbu.pbu-iterator c.next.new.self c.loop-pbu.index _ (g.F.Files.slot_view c.loop-pbu.files Output) _ c.in-Some.pbu (c.loop-pbu.invariant.2 unit judged) c.in-Some.ensures.steps
    (sym c.is_frame.ensures ∙ c.if-is_frame.true) c.is_selected-selected.result c.index-frames-index.result c.in-Err.failed c.is_selected-selected.ensures
    (λ buffer item. c.index-frames-index.is ∙ item _) c.in-Err.ensures.here

pub loop-pbu-preserved-then-is_frame : goal.loop-pbu-preserved-then-is_frame
loop-pbu-preserved-then-is_frame g c = (
  tt,
  tt,
  λ unit judged.
      frame-done (output_settings c.args.settings.now) unit c.args.frames.now c.loop-pbu.pbu-iterator c.next.new.self c.loop-pbu.index (c.loop-pbu.index + 1) _ (g.F.Files.slot_view c.loop-pbu.files Output) _ c.in-Some.pbu (c.loop-pbu.invariant.2 unit judged) c.in-Some.ensures.steps
      (sym c.is_frame.ensures ∙ c.if-is_frame.true) c.is_selected-selected.result c.index-frames-index.result c.is_selected-selected.ensures
      (λ buffer item. c.index-frames-index.is ∙ item _) refl c.in-Ok.ensures.here,
  only-at-trans Output _ _ _ c.loop-pbu.invariant.3 c.in-Ok.ensures.elsewhere,
  λ file. c.in-Ok.ensures.held file ∙ c.loop-pbu.invariant.4 file,
)

pub loop-pbu-preserved : goal.loop-pbu-preserved
loop-pbu-preserved g c = (
  tt,
  tt,
  λ unit judged.
      other-written (output_settings c.args.settings.now) unit c.args.frames.now c.loop-pbu.pbu-iterator c.next.new.self c.loop-pbu.index _ _ c.in-Some.pbu (c.loop-pbu.invariant.2 unit judged) c.in-Some.ensures.steps (sym c.is_frame.ensures ∙ c.if-is_frame.false),
  c.loop-pbu.invariant.3,
  c.loop-pbu.invariant.4,
)

pub returns-clause-here : goal.returns-clause-here
returns-clause-here g c unit judged =
    all-written (output_settings c.args.settings.now) unit c.args.frames.now c.loop-pbu.pbu-iterator c.loop-pbu.index (g.F.Files.slot_view c.args.files.now Output) (g.F.Files.slot_view c.loop-pbu.files Output) c.in-None.ensures.steps.0 (c.loop-pbu.invariant.2 unit judged)
