use Rattle.std.proofs.Common.{get_or, sym, ap, ◌∙◌, subst, Ok}
use Rattle.apv_base.specs.declared.exits.Exit.{Exit}
use Rattle.apv_base.specs.declared.slot.Slot.TheVariants.{Input}
use Rattle.apv_tracks.specs.PictureSteps.{FurtherEnd}
use Rattle.apv_tracks.specs.declared.kinds.TrackKind.{TrackKind}
use Rattle.apv_tracks.proofs.FurtherEndLemmas.{all-tried, tried-byte, tried-end, tried-failed}
use Rattle.apv_tracks.proofs.TrackPlaceLemmas.{any-default}
use Rattle.apv_tracks.proofs.pictures.further_end.Goals as goal

abbrev none : TrackKind
none = record { slot = Input; pbu_type = 0 }

pub returns-in-Ok-clause-here : goal.returns-in-Ok-clause-here
returns-in-Ok-clause-here g c =
    let kind : TrackKind = get_or c.args.kinds.now c.loop-kind.kind-index none in
    subst (λ (exit : Exit). FurtherEnd c.args.kinds.now c.args.number (g.F.Files.slot_view c.args.files.now) (g.F.Files.slot_view c.fill.new.files) exit) (sym c.bad_frame.ensures)
    (tried-byte c.args.kinds.now c.loop-kind.kind-index (g.F.Files.slot_view c.args.files.now) (g.F.Files.slot_view c.loop-kind.files) (g.F.Files.slot_view c.fill.new.files) kind c.fill.new.buf c.fill.result
    (record { before = c.loop-kind.invariant.before; lt = c.loop-kind-test.true; is = any-default c.args.kinds.now c.loop-kind.kind-index none kind c.loop-kind-test.true; one = c.fill.auto.buf; fills = c.fill.ensures.here; elsewhere = c.fill.ensures.elsewhere })
    c.args.number c.in-Ok.field-0 c.in-Ok.is c.in-Ok.field-0-test.1)

pub returns-in-Err-clause-here : goal.returns-in-Err-clause-here
returns-in-Err-clause-here g c =
    let kind : TrackKind = get_or c.args.kinds.now c.loop-kind.kind-index none in
    subst (λ (exit : Exit). FurtherEnd c.args.kinds.now c.args.number (g.F.Files.slot_view c.args.files.now) (g.F.Files.slot_view c.fill.new.files) exit) (sym c.read_exit.ensures)
    (tried-failed c.args.kinds.now c.loop-kind.kind-index (g.F.Files.slot_view c.args.files.now) (g.F.Files.slot_view c.loop-kind.files) (g.F.Files.slot_view c.fill.new.files) kind c.fill.new.buf c.fill.result
    (record { before = c.loop-kind.invariant.before; lt = c.loop-kind-test.true; is = any-default c.args.kinds.now c.loop-kind.kind-index none kind c.loop-kind-test.true; one = c.fill.auto.buf; fills = c.fill.ensures.here; elsewhere = c.fill.ensures.elsewhere })
    c.args.number c.in-Err.failed c.in-Err.is)

pub loop-kind-preserved : goal.loop-kind-preserved
loop-kind-preserved g c =
    let kind : TrackKind = get_or c.args.kinds.now c.loop-kind.kind-index none in
    record {
      before = tried-end c.args.kinds.now c.loop-kind.kind-index (g.F.Files.slot_view c.args.files.now) (g.F.Files.slot_view c.loop-kind.files) (g.F.Files.slot_view c.fill.new.files) kind c.fill.new.buf c.fill.result
          (record { before = c.loop-kind.invariant.before; lt = c.loop-kind-test.true; is = any-default c.args.kinds.now c.loop-kind.kind-index none kind c.loop-kind-test.true; one = c.fill.auto.buf; fills = c.fill.ensures.here; elsewhere = c.fill.ensures.elsewhere })
          (c.in-Ok-eq0.is ∙ ap Ok c.in-Ok-eq0.field-0-test);
      held = λ file. c.fill.ensures.held file ∙ c.loop-kind.invariant.held file;
    }

pub returns-clause-here : goal.returns-clause-here
returns-clause-here g c = all-tried c.args.kinds.now c.loop-kind.kind-index c.args.number (g.F.Files.slot_view c.args.files.now) (g.F.Files.slot_view c.loop-kind.files) c.loop-kind-test.false c.loop-kind.invariant.before
