use Rattle.std.proofs.Common.{◌-◌, List, length, take, drop, refl, sym, ap, ◌∙◌, subst, arith, Ok, true, false}
use Rattle.std.proofs.lemmas.List.{take_rest}
use Rattle.apv_base.specs.declared.exits.Exit.{Exit}
use Rattle.apv_base.specs.declared.slot.Slot.TheVariants.{Input}
use Rattle.apv_tracks.specs.declared.kinds.TrackKind.{TrackKind}
use Rattle.apv_tracks.proofs.RunPictureLemmas.{RunEnds, end-of, further-reading, none-read, others-further, others-none, step-input, step-missing, step-more, step-of, step-others, step-reading, step-same, step-unread, whole-frame, within-of}
use Rattle.apv_tracks.proofs.TrackPlaceLemmas.{same-none}
use Rattle.apv_tracks.proofs.pictures.read_pictures.Goals as goal

abbrev none : TrackKind
none = record { slot = Input; pbu_type = 0 }

pub loop-index-init : goal.loop-index-init
loop-index-init g c = record {
  so_far = none-read c.args.settings.now c.args.number c.args.tracks.now (g.F.Files.slot_view c.args.files.now);
  same = same-none c.args.tracks.now;
  reading = c.requires.reading;
  others = others-none c.args.settings.now (g.F.Files.slot_view c.args.files.now);
  held = λ file. refl;
}

pub loop-index-preserved : goal.loop-index-preserved
loop-index-preserved g c =
    let s = step-of c.args.settings.now c.args.number c.loop-index.index c.args.tracks.now c.loop-index.tracks (g.F.Files.slot_view c.args.files.now) (g.F.Files.slot_view c.loop-index.files) (g.F.Files.slot_view c.read_picture.new.files)
    c.deref.result.now none c.is_y4m-y4m.result c.index-tracks-index.result c.read_picture.new.track c.read_picture.result (c.deref.ensures.0 ∙ c.track_kinds-kinds.ensures) c.is_y4m-y4m.ensures c.requires.count c.requires.grids
    (omega (arith, c.loop-index-test.true, c.loop-index.auto.tracks, c.loop-index.auto.index-end)) c.loop-index.invariant.so_far c.loop-index.invariant.same c.read_picture.ensures.track c.read_picture.ensures.here c.read_picture.ensures.elsewhere in
    let is = c.in-Ok-true.is ∙ ap Ok c.in-Ok-true.field-0-test in
    record {
      so_far = step-more s is;
      same = step-same s;
      reading = step-reading s true is c.loop-index.invariant.reading;
      others = step-others s c.loop-index.invariant.others;
      held = λ file. c.read_picture.ensures.held file ∙ c.loop-index.invariant.held file;
    }

pub returns-clause-ok : goal.returns-clause-ok
returns-clause-ok g c = λ format tile_offset are. whole-frame c.args.settings.now c.args.number c.loop-index.index c.args.tracks.now (g.F.Files.slot_view c.args.files.now) (g.F.Files.slot_view c.loop-index.files) c.loop-index.tracks
    (omega (arith, c.loop-index-test.false, c.requires.count)) (omega (arith, c.loop-index-test.false, c.loop-index.auto.tracks, c.loop-index.auto.index-end)) c.loop-index.invariant.same c.loop-index.invariant.so_far format tile_offset are

-- ---- Input has ended

pub further_end-requires : goal.further_end-requires
further_end-requires g c =
    let s = step-of c.args.settings.now c.args.number c.loop-index.index c.args.tracks.now c.loop-index.tracks (g.F.Files.slot_view c.args.files.now) (g.F.Files.slot_view c.loop-index.files) (g.F.Files.slot_view c.read_picture.new.files)
    c.deref.result.now none c.is_y4m-y4m.result c.index-tracks-index.result c.read_picture.new.track c.read_picture.result (c.deref.ensures.0 ∙ c.track_kinds-kinds.ensures) c.is_y4m-y4m.ensures c.requires.count c.requires.grids
    (omega (arith, c.loop-index-test.true, c.loop-index.auto.tracks, c.loop-index.auto.index-end)) c.loop-index.invariant.so_far c.loop-index.invariant.same c.read_picture.ensures.track c.read_picture.ensures.here c.read_picture.ensures.elsewhere in
    let rest : List TrackKind = take (length c.deref-then-index-eq0.result.now - 1) (drop 1 c.deref-then-index-eq0.result.now) in
    let rest_is = take_rest c.deref-then-index-eq0.result.now 1 ∙ ap (drop 1) (c.deref-then-index-eq0.ensures.0 ∙ c.track_kinds-kinds.ensures) in
    further-reading c.args.settings.now rest (g.F.Files.slot_view c.read_picture.new.files) rest_is
    (step-reading s false (c.in-Ok-false.is ∙ ap Ok c.in-Ok-false.field-0-test) c.loop-index.invariant.reading)

pub returns-then-index-eq0 : goal.returns-then-index-eq0
returns-then-index-eq0 g c =
    let s = step-of c.args.settings.now c.args.number c.loop-index.index c.args.tracks.now c.loop-index.tracks (g.F.Files.slot_view c.args.files.now) (g.F.Files.slot_view c.loop-index.files) (g.F.Files.slot_view c.read_picture.new.files)
    c.deref.result.now none c.is_y4m-y4m.result c.index-tracks-index.result c.read_picture.new.track c.read_picture.result (c.deref.ensures.0 ∙ c.track_kinds-kinds.ensures) c.is_y4m-y4m.ensures c.requires.count c.requires.grids
    (omega (arith, c.loop-index-test.true, c.loop-index.auto.tracks, c.loop-index.auto.index-end)) c.loop-index.invariant.so_far c.loop-index.invariant.same c.read_picture.ensures.track c.read_picture.ensures.here c.read_picture.ensures.elsewhere in
    let rest : List TrackKind = take (length c.deref-then-index-eq0.result.now - 1) (drop 1 c.deref-then-index-eq0.result.now) in
    let rest_is = take_rest c.deref-then-index-eq0.result.now 1 ∙ ap (drop 1) (c.deref-then-index-eq0.ensures.0 ∙ c.track_kinds-kinds.ensures) in
    let ends : RunEnds c.args.settings.now c.args.number c.args.tracks.now (g.F.Files.slot_view c.args.files.now) (g.F.Files.slot_view c.further_end.new.files) c.further_end.result =
    step-input s (c.in-Ok-false.is ∙ ap Ok c.in-Ok-false.field-0-test) c.if-index-eq0.true rest (g.F.Files.slot_view c.further_end.new.files) c.further_end.result rest_is c.further_end.ensures.here in
    record {
      ok = tt;
      err = end-of c.args.settings.now c.args.number c.args.tracks.now (g.F.Files.slot_view c.args.files.now) (g.F.Files.slot_view c.further_end.new.files) c.further_end.result ends;
      within = within-of c.args.settings.now c.args.number c.args.tracks.now (g.F.Files.slot_view c.args.files.now) (g.F.Files.slot_view c.further_end.new.files) c.further_end.result ends;
      tracks = step-same s;
      others = others-further c.args.settings.now rest c.args.number (g.F.Files.slot_view c.args.files.now) (g.F.Files.slot_view c.read_picture.new.files) (g.F.Files.slot_view c.further_end.new.files) c.further_end.result rest_is
          (step-others s c.loop-index.invariant.others) c.further_end.ensures.here;
      held = λ file. c.further_end.ensures.held file ∙ c.read_picture.ensures.held file ∙ c.loop-index.invariant.held file;
    }

-- ---- a picture is missing

pub returns-in-Ok-false : goal.returns-in-Ok-false
returns-in-Ok-false g c =
    let s = step-of c.args.settings.now c.args.number c.loop-index.index c.args.tracks.now c.loop-index.tracks (g.F.Files.slot_view c.args.files.now) (g.F.Files.slot_view c.loop-index.files) (g.F.Files.slot_view c.read_picture.new.files)
    c.deref.result.now none c.is_y4m-y4m.result c.index-tracks-index.result c.read_picture.new.track c.read_picture.result (c.deref.ensures.0 ∙ c.track_kinds-kinds.ensures) c.is_y4m-y4m.ensures c.requires.count c.requires.grids
    (omega (arith, c.loop-index-test.true, c.loop-index.auto.tracks, c.loop-index.auto.index-end)) c.loop-index.invariant.so_far c.loop-index.invariant.same c.read_picture.ensures.track c.read_picture.ensures.here c.read_picture.ensures.elsewhere in
    let ends : RunEnds c.args.settings.now c.args.number c.args.tracks.now (g.F.Files.slot_view c.args.files.now) (g.F.Files.slot_view c.read_picture.new.files) c.bad_frame.result =
    subst (λ (exit : Exit). RunEnds c.args.settings.now c.args.number c.args.tracks.now (g.F.Files.slot_view c.args.files.now) (g.F.Files.slot_view c.read_picture.new.files) exit) (sym c.bad_frame.ensures)
    (step-missing s (c.in-Ok-false.is ∙ ap Ok c.in-Ok-false.field-0-test) (omega (arith, c.if-index-eq0.false))) in
    record {
      ok = tt;
      err = end-of c.args.settings.now c.args.number c.args.tracks.now (g.F.Files.slot_view c.args.files.now) (g.F.Files.slot_view c.read_picture.new.files) c.bad_frame.result ends;
      within = within-of c.args.settings.now c.args.number c.args.tracks.now (g.F.Files.slot_view c.args.files.now) (g.F.Files.slot_view c.read_picture.new.files) c.bad_frame.result ends;
      tracks = step-same s;
      others = step-others s c.loop-index.invariant.others;
      held = λ file. c.read_picture.ensures.held file ∙ c.loop-index.invariant.held file;
    }

-- ---- no picture was read

pub returns-in-Err : goal.returns-in-Err
returns-in-Err g c =
    let s = step-of c.args.settings.now c.args.number c.loop-index.index c.args.tracks.now c.loop-index.tracks (g.F.Files.slot_view c.args.files.now) (g.F.Files.slot_view c.loop-index.files) (g.F.Files.slot_view c.read_picture.new.files)
    c.deref.result.now none c.is_y4m-y4m.result c.index-tracks-index.result c.read_picture.new.track c.read_picture.result (c.deref.ensures.0 ∙ c.track_kinds-kinds.ensures) c.is_y4m-y4m.ensures c.requires.count c.requires.grids
    (omega (arith, c.loop-index-test.true, c.loop-index.auto.tracks, c.loop-index.auto.index-end)) c.loop-index.invariant.so_far c.loop-index.invariant.same c.read_picture.ensures.track c.read_picture.ensures.here c.read_picture.ensures.elsewhere in
    let ends : RunEnds c.args.settings.now c.args.number c.args.tracks.now (g.F.Files.slot_view c.args.files.now) (g.F.Files.slot_view c.read_picture.new.files) c.video_end_exit.result =
    subst (λ (exit : Exit). RunEnds c.args.settings.now c.args.number c.args.tracks.now (g.F.Files.slot_view c.args.files.now) (g.F.Files.slot_view c.read_picture.new.files) exit) (sym c.video_end_exit.ensures) (step-unread s c.in-Err.end c.in-Err.is) in
    record {
      ok = tt;
      err = end-of c.args.settings.now c.args.number c.args.tracks.now (g.F.Files.slot_view c.args.files.now) (g.F.Files.slot_view c.read_picture.new.files) c.video_end_exit.result ends;
      within = within-of c.args.settings.now c.args.number c.args.tracks.now (g.F.Files.slot_view c.args.files.now) (g.F.Files.slot_view c.read_picture.new.files) c.video_end_exit.result ends;
      tracks = step-same s;
      others = step-others s c.loop-index.invariant.others;
      held = λ file. c.read_picture.ensures.held file ∙ c.loop-index.invariant.held file;
    }
