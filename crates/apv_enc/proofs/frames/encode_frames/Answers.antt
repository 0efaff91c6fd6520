use Rattle.std.proofs.Common.{◌≡◌, ◌∙◌, ◌≤◌, ℕ, List, refl, sym, ap, subst, arith, is_some, length, Bool, Err, None}
use Rattle.std.specs.Bool.{OnTrue}
use Rattle.apv_base.specs.declared.exits.Exit.TheVariants.{Memory}
use Rattle.apv_base.specs.declared.slot.Slot.TheVariants.{Output, Recon}
use Rattle.apv_base.specs.model.Grid.{Grid}
use Rattle.apv_base.specs.model.Header.{grid_of}
use Rattle.apv_base.specs.model.Run.{MAX_UNIT}
use Rattle.apv_files.specs.Loops.{WritesAll}
use Rattle.apv_files.specs.declared.files.Mode.TheVariants.{Writing}
use Rattle.apv_encoding.specs.Answer.{primary_levels, tile_offsets}
use Rattle.apv_encoding.specs.DecodedUnit.{decoded_frame}
use Rattle.apv_encoding.specs.Settings.{primary_track}
use Rattle.apv_enc.proofs.ReportLemmas.{check-bytes, check-few, check-next, check-reported, report-few}
use Rattle.apv_tracks.specs.Plain.{plain_settings}
use Rattle.apv_enc.specs.Added.{HasFirstFrame, IsAddedTo}
use Rattle.apv_enc.specs.Coding.{unit_of_states}
use Rattle.apv_enc.specs.declared.unit.UnitFault.TheVariants.{Memory as LacksMemory}
use Rattle.apv_enc.specs.Steps.{HasReconGrid}
use Rattle.apv_enc.proofs.LoopLemmas.{frame-coded, frame-written, unit-written, none-so-far, memory-first, not-read, not-coded, output-failed, recon-failed}
use Rattle.apv_enc.proofs.RoundLemmas.{start-check, output-mode, recon-mode, read-next, next-count, next-qps, next-frames, next-ready, made-next, next-first, next-recon, written-next, round-done}
use Rattle.apv_enc.proofs.SlotsLemmas.{still-reading}
use Rattle.apv_enc.proofs.StatesLemmas.{coded-grids, read-grids, states-count}
use Rattle.apv_enc.proofs.StepLemmas.{first-header, still-writing, out-is, recon-is}
use Rattle.apv_enc.proofs.frames.encode_frames.Goals as goal

pub returns-in_default-clause-views : goal.returns-in_default-clause-views
returns-in_default-clause-views g c inputs format is = rw c.of.ensures (memory-first c.args.settings.now inputs format (g.F.Files.slot_view c.args.files.now) None)

pub loop-exit-init : goal.loop-exit-init
loop-exit-init g c = record {
  number = omega arith;
  own = c.requires.grids;
  named = c.in-Ok.ensures.named;
  goes = λ inputs format is. record {
    so_far = none-so-far c.args.settings.now inputs format (g.F.Files.slot_view c.args.files.now);
    tracks = is;
    recon = subst (λ (grid : Grid). HasReconGrid c.in-Ok.recon grid) (c.grid-grid.ensures ∙ ap grid_of (first-header (plain_settings c.args.settings.now) inputs format c.args.payloads.now c.args.tracks.now c.index-tracks-0.result is)) c.in-Ok.ensures.grid;
  };
  checked = λ inputs format is. start-check c.args.settings.now inputs format (g.F.Files.slot_view c.args.files.now) c.check_of-check.result c.check_of-check.ensures;
  held = λ file. refl;
}

pub read_pictures-requires-clause-reading : goal.read_pictures-requires-clause-reading
read_pictures-requires-clause-reading g c =
    let w = c.requires.tracks in
    still-reading c.args.settings.now w.1 (tile_offsets w.0.offsets) (g.F.Files.slot_view c.args.files.now) (g.F.Files.slot_view c.loop-exit.files) (c.loop-exit.invariant.goes w.0 w.1 w.2).so_far.read c.requires.reading

pub read_pictures-requires-clause-count : goal.read_pictures-requires-clause-count
read_pictures-requires-clause-count g c =
    let w = c.requires.tracks in
    states-count c.args.settings.now w.1 (tile_offsets w.0.offsets) c.loop-exit.tracks (c.loop-exit.invariant.goes w.0 w.1 w.2).tracks.kept

pub read_pictures-requires-clause-grids : goal.read_pictures-requires-clause-grids
read_pictures-requires-clause-grids g c = c.loop-exit.invariant.own

pub returns-in-Err-clause-views : goal.returns-in-Err-clause-views
returns-in-Err-clause-views g c inputs format is =
    let go = c.loop-exit.invariant.goes inputs format is in
    not-read c.args.settings.now inputs format (g.F.Files.slot_view c.args.files.now) (g.F.Files.slot_view c.loop-exit.files) (g.F.Files.slot_view c.read_pictures.new.files) c.loop-exit.number c.in-Err.exit c.report_of-report.result go.so_far c.loop-exit.invariant.number c.in-Err.ensures.others
    (c.in-Err.ensures.within format (tile_offsets inputs.offsets) go.tracks.kept) (c.in-Err.ensures.err format (tile_offsets inputs.offsets) go.tracks.kept)
    (check-reported c.args.settings.now.generate (primary_track (plain_settings c.args.settings.now) format (tile_offsets inputs.offsets)) go.so_far.units c.loop-exit.check c.report_of-report.result
    (c.loop-exit.invariant.checked inputs format is) c.report_of-report.ensures)

pub returns-in-Err-clause-held : goal.returns-in-Err-clause-held
returns-in-Err-clause-held g c file = c.in-Err.ensures.held file ∙ c.loop-exit.invariant.held file

pub encode_unit-requires-clause-tracks : goal.encode_unit-requires-clause-tracks
encode_unit-requires-clause-tracks g c κs within =
    let w = c.requires.tracks in
    let read = read-next c.args.settings.now w.0 w.1 c.args.payloads.now (g.F.Files.slot_view c.args.files.now) (g.F.Files.slot_view c.loop-exit.files) (g.F.Files.slot_view c.read_pictures.new.files) c.loop-exit.tracks c.read_pictures.new.tracks c.loop-exit.recon c.loop-exit.number (c.loop-exit.invariant.goes w.0 w.1 w.2)
    c.in-Ok-read_pictures.ensures.tracks c.in-Ok-read_pictures.ensures.ok c.in-Ok-read_pictures.ensures.others in
    next-count c.args.settings.now w.0 w.1 c.args.payloads.now (g.F.Files.slot_view c.args.files.now) (g.F.Files.slot_view c.loop-exit.files) (g.F.Files.slot_view c.read_pictures.new.files) c.read_pictures.new.tracks c.loop-exit.recon c.loop-exit.number read

pub encode_unit-requires-clause-qps : goal.encode_unit-requires-clause-qps
encode_unit-requires-clause-qps g c κs within =
    let w = c.requires.tracks in
    let read = read-next c.args.settings.now w.0 w.1 c.args.payloads.now (g.F.Files.slot_view c.args.files.now) (g.F.Files.slot_view c.loop-exit.files) (g.F.Files.slot_view c.read_pictures.new.files) c.loop-exit.tracks c.read_pictures.new.tracks c.loop-exit.recon c.loop-exit.number (c.loop-exit.invariant.goes w.0 w.1 w.2)
    c.in-Ok-read_pictures.ensures.tracks c.in-Ok-read_pictures.ensures.ok c.in-Ok-read_pictures.ensures.others in
    next-qps c.args.settings.now w.0 w.1 c.args.payloads.now (g.F.Files.slot_view c.args.files.now) (g.F.Files.slot_view c.loop-exit.files) (g.F.Files.slot_view c.read_pictures.new.files) c.read_pictures.new.tracks c.loop-exit.recon c.loop-exit.number read

pub encode_unit-requires-clause-frames : goal.encode_unit-requires-clause-frames
encode_unit-requires-clause-frames g c κs within =
    let w = c.requires.tracks in
    let read = read-next c.args.settings.now w.0 w.1 c.args.payloads.now (g.F.Files.slot_view c.args.files.now) (g.F.Files.slot_view c.loop-exit.files) (g.F.Files.slot_view c.read_pictures.new.files) c.loop-exit.tracks c.read_pictures.new.tracks c.loop-exit.recon c.loop-exit.number (c.loop-exit.invariant.goes w.0 w.1 w.2)
    c.in-Ok-read_pictures.ensures.tracks c.in-Ok-read_pictures.ensures.ok c.in-Ok-read_pictures.ensures.others in
    next-frames c.args.settings.now w.0 w.1 c.args.payloads.now (g.F.Files.slot_view c.args.files.now) (g.F.Files.slot_view c.loop-exit.files) (g.F.Files.slot_view c.read_pictures.new.files) c.read_pictures.new.tracks c.loop-exit.recon c.loop-exit.number (read-grids c.loop-exit.tracks c.read_pictures.new.tracks c.in-Ok-read_pictures.ensures.tracks c.loop-exit.invariant.own) read

pub returns-in-Err-encode_unit-clause-views : goal.returns-in-Err-encode_unit-clause-views
returns-in-Err-encode_unit-clause-views g c inputs format is =
    let read = read-next c.args.settings.now inputs format c.args.payloads.now (g.F.Files.slot_view c.args.files.now) (g.F.Files.slot_view c.loop-exit.files) (g.F.Files.slot_view c.read_pictures.new.files) c.loop-exit.tracks c.read_pictures.new.tracks c.loop-exit.recon c.loop-exit.number (c.loop-exit.invariant.goes inputs format is)
    c.in-Ok-read_pictures.ensures.tracks c.in-Ok-read_pictures.ensures.ok c.in-Ok-read_pictures.ensures.others in
    let ready = next-ready c.args.settings.now inputs format c.args.payloads.now (g.F.Files.slot_view c.args.files.now) (g.F.Files.slot_view c.loop-exit.files) (g.F.Files.slot_view c.read_pictures.new.files) c.read_pictures.new.tracks c.loop-exit.recon c.loop-exit.number read in
    rw c.of-in-Err-encode_unit.ensures (not-coded c.args.settings.now inputs format (g.F.Files.slot_view c.args.files.now) (g.F.Files.slot_view c.loop-exit.files) (g.F.Files.slot_view c.read_pictures.new.files) c.loop-exit.number c.read_pictures.new.tracks c.args.payloads.now c.in-Err-encode_unit.fault c.unit_exit.result None read.read read.tracks.carries c.unit_exit.ensures
    (c.in-Err-encode_unit.ensures.err format (tile_offsets inputs.offsets) read.read.took.pictures ready))

pub returns-in-Err-encode_unit-clause-held : goal.returns-in-Err-encode_unit-clause-held
returns-in-Err-encode_unit-clause-held g c file = c.in-Ok-read_pictures.ensures.held file ∙ c.loop-exit.invariant.held file

pub write_unit-requires-clause-writing : goal.write_unit-requires-clause-writing
write_unit-requires-clause-writing g c =
    let w = c.requires.tracks in
    let so_far = (c.loop-exit.invariant.goes w.0 w.1 w.2).so_far in
    still-writing (is_some c.args.settings.now.output) (g.F.Files.slot_view c.args.files.now Output) (g.F.Files.slot_view c.read_pictures.new.files Output)
    (output-mode c.args.settings.now w.0 w.1 c.args.payloads.now (g.F.Files.slot_view c.args.files.now) (g.F.Files.slot_view c.loop-exit.files) (g.F.Files.slot_view c.read_pictures.new.files) c.loop-exit.number so_far c.in-Ok-read_pictures.ensures.others) c.requires.output

pub write_unit-requires-clause-small : goal.write_unit-requires-clause-small
write_unit-requires-clause-small g c =
    let w = c.requires.tracks in
    let read = read-next c.args.settings.now w.0 w.1 c.args.payloads.now (g.F.Files.slot_view c.args.files.now) (g.F.Files.slot_view c.loop-exit.files) (g.F.Files.slot_view c.read_pictures.new.files) c.loop-exit.tracks c.read_pictures.new.tracks c.loop-exit.recon c.loop-exit.number (c.loop-exit.invariant.goes w.0 w.1 w.2)
    c.in-Ok-read_pictures.ensures.tracks c.in-Ok-read_pictures.ensures.ok c.in-Ok-read_pictures.ensures.others in
    let made = made-next c.args.settings.now w.0 w.1 c.args.payloads.now (g.F.Files.slot_view c.args.files.now) (g.F.Files.slot_view c.loop-exit.files) (g.F.Files.slot_view c.read_pictures.new.files) c.read_pictures.new.tracks c.encode_unit.new.tracks c.loop-exit.recon c.loop-exit.number c.in-Ok-encode_unit.chosen c.encode_unit.new.unit.items read
    c.in-Ok-encode_unit.ensures.coded c.in-Ok-encode_unit.ensures.at_qp c.in-Ok-encode_unit.ensures.ok in
    subst (λ (xs : List ℕ). length xs ≤ MAX_UNIT) (sym c.deref-in-loop-exit.ensures.value) made.small

pub returns-in-Err-write_unit-clause-views : goal.returns-in-Err-write_unit-clause-views
returns-in-Err-write_unit-clause-views g c inputs format is =
    let read = read-next c.args.settings.now inputs format c.args.payloads.now (g.F.Files.slot_view c.args.files.now) (g.F.Files.slot_view c.loop-exit.files) (g.F.Files.slot_view c.read_pictures.new.files) c.loop-exit.tracks c.read_pictures.new.tracks c.loop-exit.recon c.loop-exit.number (c.loop-exit.invariant.goes inputs format is)
    c.in-Ok-read_pictures.ensures.tracks c.in-Ok-read_pictures.ensures.ok c.in-Ok-read_pictures.ensures.others in
    let made = made-next c.args.settings.now inputs format c.args.payloads.now (g.F.Files.slot_view c.args.files.now) (g.F.Files.slot_view c.loop-exit.files) (g.F.Files.slot_view c.read_pictures.new.files) c.read_pictures.new.tracks c.encode_unit.new.tracks c.loop-exit.recon c.loop-exit.number c.in-Ok-encode_unit.chosen c.encode_unit.new.unit.items read
    c.in-Ok-encode_unit.ensures.coded c.in-Ok-encode_unit.ensures.at_qp c.in-Ok-encode_unit.ensures.ok in
    let chosen = c.in-Ok-encode_unit.chosen in
    rw c.of-in-Err-write_unit.ensures (output-failed c.args.settings.now inputs format (Unit {0}) (g.F.Files.slot_view c.args.files.now) (g.F.Files.slot_view c.read_pictures.new.files) (g.F.Files.slot_view c.write_unit.new.files) c.loop-exit.number (unit_of_states chosen.qp c.encode_unit.new.tracks c.encode_unit.new.unit.items) c.in-Err-write_unit.failed c.write_exit.result None c.write_exit.ensures made.coded c.in-Err-write_unit.ensures.elsewhere
    (subst (λ (xs : List ℕ). WritesAll {T = Unit {0}} (g.F.Files.slot_view c.read_pictures.new.files Output) xs (Err c.in-Err-write_unit.failed) (g.F.Files.slot_view c.write_unit.new.files Output))
    (out-is (plain_settings c.args.settings.now) chosen.qp c.encode_unit.new.tracks c.deref-in-loop-exit.result.now c.encode_unit.new.unit.items c.deref-in-loop-exit.ensures.value) c.in-Err-write_unit.ensures.here))

pub returns-in-Err-write_unit-clause-held : goal.returns-in-Err-write_unit-clause-held
returns-in-Err-write_unit-clause-held g c file = c.in-Err-write_unit.ensures.held file ∙ (c.in-Ok-read_pictures.ensures.held file ∙ c.loop-exit.invariant.held file)

pub write_recon-requires-clause-writing : goal.write_recon-requires-clause-writing
write_recon-requires-clause-writing g c κs within =
    let w = c.requires.tracks in
    let so_far = (c.loop-exit.invariant.goes w.0 w.1 w.2).so_far in
    subst (λ (b : Bool). OnTrue b ((g.F.Files.slot_view c.write_unit.new.files Recon).mode ≡ Writing)) (sym c.loop-exit.invariant.named)
    (still-writing (is_some c.args.settings.now.recon) (g.F.Files.slot_view c.args.files.now Recon) (g.F.Files.slot_view c.write_unit.new.files Recon)
    (recon-mode c.args.settings.now w.0 w.1 c.args.payloads.now (g.F.Files.slot_view c.args.files.now) (g.F.Files.slot_view c.loop-exit.files) (g.F.Files.slot_view c.read_pictures.new.files) (g.F.Files.slot_view c.write_unit.new.files) c.loop-exit.number so_far
    c.in-Ok-read_pictures.ensures.others c.in-Ok-write_unit.ensures.elsewhere)
    c.requires.recon)

pub write_recon-requires-clause-grid : goal.write_recon-requires-clause-grid
write_recon-requires-clause-grid g c κs within =
    let w = c.requires.tracks in
    let read = read-next c.args.settings.now w.0 w.1 c.args.payloads.now (g.F.Files.slot_view c.args.files.now) (g.F.Files.slot_view c.loop-exit.files) (g.F.Files.slot_view c.read_pictures.new.files) c.loop-exit.tracks c.read_pictures.new.tracks c.loop-exit.recon c.loop-exit.number (c.loop-exit.invariant.goes w.0 w.1 w.2)
    c.in-Ok-read_pictures.ensures.tracks c.in-Ok-read_pictures.ensures.ok c.in-Ok-read_pictures.ensures.others in
    let made = made-next c.args.settings.now w.0 w.1 c.args.payloads.now (g.F.Files.slot_view c.args.files.now) (g.F.Files.slot_view c.loop-exit.files) (g.F.Files.slot_view c.read_pictures.new.files) c.read_pictures.new.tracks c.encode_unit.new.tracks c.loop-exit.recon c.loop-exit.number c.in-Ok-encode_unit.chosen c.encode_unit.new.unit.items read
    c.in-Ok-encode_unit.ensures.coded c.in-Ok-encode_unit.ensures.at_qp c.in-Ok-encode_unit.ensures.ok in
    next-recon c.args.settings.now w.0 w.1 c.args.payloads.now (g.F.Files.slot_view c.args.files.now) (g.F.Files.slot_view c.read_pictures.new.files) c.in-Ok-encode_unit.chosen c.encode_unit.new.tracks c.index-tracks-0-in-loop-exit.result c.loop-exit.recon c.encode_unit.new.unit.items c.loop-exit.number made

pub returns-in-Err-write_recon-clause-views : goal.returns-in-Err-write_recon-clause-views
returns-in-Err-write_recon-clause-views g c inputs format is =
    let read = read-next c.args.settings.now inputs format c.args.payloads.now (g.F.Files.slot_view c.args.files.now) (g.F.Files.slot_view c.loop-exit.files) (g.F.Files.slot_view c.read_pictures.new.files) c.loop-exit.tracks c.read_pictures.new.tracks c.loop-exit.recon c.loop-exit.number (c.loop-exit.invariant.goes inputs format is)
    c.in-Ok-read_pictures.ensures.tracks c.in-Ok-read_pictures.ensures.ok c.in-Ok-read_pictures.ensures.others in
    let made = made-next c.args.settings.now inputs format c.args.payloads.now (g.F.Files.slot_view c.args.files.now) (g.F.Files.slot_view c.loop-exit.files) (g.F.Files.slot_view c.read_pictures.new.files) c.read_pictures.new.tracks c.encode_unit.new.tracks c.loop-exit.recon c.loop-exit.number c.in-Ok-encode_unit.chosen c.encode_unit.new.unit.items read
    c.in-Ok-encode_unit.ensures.coded c.in-Ok-encode_unit.ensures.at_qp c.in-Ok-encode_unit.ensures.ok in
    let written = written-next c.args.settings.now inputs format c.args.payloads.now (g.F.Files.slot_view c.args.files.now) (g.F.Files.slot_view c.read_pictures.new.files) (g.F.Files.slot_view c.write_unit.new.files) c.in-Ok-encode_unit.chosen c.encode_unit.new.tracks c.loop-exit.recon c.encode_unit.new.unit.items c.deref-in-loop-exit.result.now c.loop-exit.number made
    c.deref-in-loop-exit.ensures.value c.in-Ok-write_unit.ensures.elsewhere c.in-Ok-write_unit.ensures.here in
    let chosen = c.in-Ok-encode_unit.chosen in
    rw c.of-in-Err-write_recon.ensures (recon-failed c.args.settings.now inputs format (Unit {0}) (g.F.Files.slot_view c.args.files.now) (g.F.Files.slot_view c.write_unit.new.files) (g.F.Files.slot_view c.write_recon.new.files) c.loop-exit.number (unit_of_states chosen.qp c.encode_unit.new.tracks c.encode_unit.new.unit.items) c.in-Err-write_recon.failed c.write_exit-in-Err-write_recon.result None c.write_exit-in-Err-write_recon.ensures written c.in-Err-write_recon.ensures.elsewhere
    (subst (λ (xs : List ℕ). WritesAll {T = Unit {0}} (g.F.Files.slot_view c.write_unit.new.files Recon) xs (Err c.in-Err-write_recon.failed) (g.F.Files.slot_view c.write_recon.new.files Recon))
    (recon-is (plain_settings c.args.settings.now) inputs format c.args.payloads.now (is_some c.loop-exit.recon) c.encode_unit.new.tracks c.index-tracks-0-in-loop-exit.result chosen.qp c.encode_unit.new.unit.items made.tracks made.at_qp c.loop-exit.invariant.named) c.in-Err-write_recon.ensures.here))

pub returns-in-Err-write_recon-clause-held : goal.returns-in-Err-write_recon-clause-held
returns-in-Err-write_recon-clause-held g c file = c.in-Err-write_recon.ensures.held file ∙ (c.in-Ok-write_unit.ensures.held file ∙ (c.in-Ok-read_pictures.ensures.held file ∙ c.loop-exit.invariant.held file))

pub overflow_add-number : goal.overflow_add-number
overflow_add-number g c =
    let w = c.requires.tracks in
    let took = c.in-Ok-read_pictures.ensures.ok w.1 (tile_offsets w.0.offsets) (c.loop-exit.invariant.goes w.0 w.1 w.2).tracks.kept in
    omega (arith, took.few)

pub loop-exit-smaller : goal.loop-exit-smaller
loop-exit-smaller g c =
    let w = c.requires.tracks in
    let took = c.in-Ok-read_pictures.ensures.ok w.1 (tile_offsets w.0.offsets) (c.loop-exit.invariant.goes w.0 w.1 w.2).tracks.kept in
    omega (arith, took.few)

pub loop-exit-preserved : goal.loop-exit-preserved
unfolding round-done written-next made-next read-next frame-written unit-written frame-coded
loop-exit-preserved g c =
    let w = c.requires.tracks in
    let took = c.in-Ok-read_pictures.ensures.ok w.1 (tile_offsets w.0.offsets) (c.loop-exit.invariant.goes w.0 w.1 w.2).tracks.kept in
    record {
      number = omega (arith, took.few);
      own = coded-grids c.read_pictures.new.tracks c.encode_unit.new.tracks c.in-Ok-encode_unit.ensures.coded (read-grids c.loop-exit.tracks c.read_pictures.new.tracks c.in-Ok-read_pictures.ensures.tracks c.loop-exit.invariant.own);
      named = c.in-Ok-write_recon.ensures.named ∙ c.loop-exit.invariant.named;
      goes = λ inputs format is.
          let read = read-next c.args.settings.now inputs format c.args.payloads.now (g.F.Files.slot_view c.args.files.now) (g.F.Files.slot_view c.loop-exit.files) (g.F.Files.slot_view c.read_pictures.new.files) c.loop-exit.tracks c.read_pictures.new.tracks c.loop-exit.recon c.loop-exit.number (c.loop-exit.invariant.goes inputs format is)
          c.in-Ok-read_pictures.ensures.tracks c.in-Ok-read_pictures.ensures.ok c.in-Ok-read_pictures.ensures.others in
          let made = made-next c.args.settings.now inputs format c.args.payloads.now (g.F.Files.slot_view c.args.files.now) (g.F.Files.slot_view c.loop-exit.files) (g.F.Files.slot_view c.read_pictures.new.files) c.read_pictures.new.tracks c.encode_unit.new.tracks c.loop-exit.recon c.loop-exit.number c.in-Ok-encode_unit.chosen c.encode_unit.new.unit.items read
          c.in-Ok-encode_unit.ensures.coded c.in-Ok-encode_unit.ensures.at_qp c.in-Ok-encode_unit.ensures.ok in
          let written = written-next c.args.settings.now inputs format c.args.payloads.now (g.F.Files.slot_view c.args.files.now) (g.F.Files.slot_view c.read_pictures.new.files) (g.F.Files.slot_view c.write_unit.new.files) c.in-Ok-encode_unit.chosen c.encode_unit.new.tracks c.loop-exit.recon c.encode_unit.new.unit.items c.deref-in-loop-exit.result.now c.loop-exit.number made
          c.deref-in-loop-exit.ensures.value c.in-Ok-write_unit.ensures.elsewhere c.in-Ok-write_unit.ensures.here in
          round-done c.args.settings.now inputs format c.args.payloads.now (g.F.Files.slot_view c.args.files.now) (g.F.Files.slot_view c.read_pictures.new.files) (g.F.Files.slot_view c.write_unit.new.files) (g.F.Files.slot_view c.write_recon.new.files) c.in-Ok-encode_unit.chosen c.encode_unit.new.tracks c.index-tracks-0-in-loop-exit.result (is_some c.loop-exit.recon) c.loop-exit.recon c.write_recon.new.recon c.encode_unit.new.unit.items c.loop-exit.number made written
          c.loop-exit.invariant.named c.in-Ok-write_recon.ensures.elsewhere c.in-Ok-write_recon.ensures.here c.in-Ok-write_recon.ensures.grid;
      checked = λ inputs format is.
          let e = plain_settings c.args.settings.now in
          let go = c.loop-exit.invariant.goes inputs format is in
          let read = read-next c.args.settings.now inputs format c.args.payloads.now (g.F.Files.slot_view c.args.files.now) (g.F.Files.slot_view c.loop-exit.files) (g.F.Files.slot_view c.read_pictures.new.files) c.loop-exit.tracks c.read_pictures.new.tracks c.loop-exit.recon c.loop-exit.number go
          c.in-Ok-read_pictures.ensures.tracks c.in-Ok-read_pictures.ensures.ok c.in-Ok-read_pictures.ensures.others in
          let made = made-next c.args.settings.now inputs format c.args.payloads.now (g.F.Files.slot_view c.args.files.now) (g.F.Files.slot_view c.loop-exit.files) (g.F.Files.slot_view c.read_pictures.new.files) c.read_pictures.new.tracks c.encode_unit.new.tracks c.loop-exit.recon c.loop-exit.number c.in-Ok-encode_unit.chosen c.encode_unit.new.unit.items read
          c.in-Ok-encode_unit.ensures.coded c.in-Ok-encode_unit.ensures.at_qp c.in-Ok-encode_unit.ensures.ok in
          let chosen = c.in-Ok-encode_unit.chosen in
          let unit = unit_of_states chosen.qp c.encode_unit.new.tracks c.encode_unit.new.unit.items in
          let has = next-first c.args.settings.now inputs format c.args.payloads.now (g.F.Files.slot_view c.args.files.now) c.valid_unit.ensures c.requires.bounds (g.F.Files.slot_view c.read_pictures.new.files) chosen c.encode_unit.new.tracks c.loop-exit.recon c.encode_unit.new.unit.items c.loop-exit.number made in
          check-next c.args.settings.now.generate (primary_track e format (tile_offsets inputs.offsets)) go.so_far.units unit c.loop-exit.check c.add_unit.new.check chosen refl made.size has
          (c.loop-exit.invariant.checked inputs format is) (subst (λ (xs : List ℕ). IsAddedTo c.loop-exit.check chosen xs c.add_unit.new.check) c.deref.ensures.value c.in-Ok-add_unit.ensures);
      held = λ file. c.in-Ok-write_recon.ensures.held file ∙ (c.in-Ok-write_unit.ensures.held file ∙ (c.in-Ok-read_pictures.ensures.held file ∙ c.loop-exit.invariant.held file));
    }

pub add_unit-requires-clause-few : goal.add_unit-requires-clause-few
add_unit-requires-clause-few g c κs within =
    let w = c.requires.tracks in
    let e = plain_settings c.args.settings.now in
    let go = c.loop-exit.invariant.goes w.0 w.1 w.2 in
    let took = c.in-Ok-read_pictures.ensures.ok w.1 (tile_offsets w.0.offsets) go.tracks.kept in
    check-few c.args.settings.now.generate (primary_track e w.1 (tile_offsets w.0.offsets)) go.so_far.units c.loop-exit.check (c.loop-exit.invariant.checked w.0 w.1 w.2) (omega (arith, took.few, go.so_far.count))

pub add_unit-requires-clause-bytes : goal.add_unit-requires-clause-bytes
add_unit-requires-clause-bytes g c κs within =
    let w = c.requires.tracks in
    let e = plain_settings c.args.settings.now in
    let go = c.loop-exit.invariant.goes w.0 w.1 w.2 in
    check-bytes c.args.settings.now.generate (primary_track e w.1 (tile_offsets w.0.offsets)) go.so_far.units c.loop-exit.check (c.loop-exit.invariant.checked w.0 w.1 w.2) (report-few e w.0 w.1 go.so_far.frames go.so_far.units go.so_far.encoded)

pub add_unit-requires-clause-size : goal.add_unit-requires-clause-size
add_unit-requires-clause-size g c =
    let w = c.requires.tracks in
    let read = read-next c.args.settings.now w.0 w.1 c.args.payloads.now (g.F.Files.slot_view c.args.files.now) (g.F.Files.slot_view c.loop-exit.files) (g.F.Files.slot_view c.read_pictures.new.files) c.loop-exit.tracks c.read_pictures.new.tracks c.loop-exit.recon c.loop-exit.number (c.loop-exit.invariant.goes w.0 w.1 w.2)
    c.in-Ok-read_pictures.ensures.tracks c.in-Ok-read_pictures.ensures.ok c.in-Ok-read_pictures.ensures.others in
    let made = made-next c.args.settings.now w.0 w.1 c.args.payloads.now (g.F.Files.slot_view c.args.files.now) (g.F.Files.slot_view c.loop-exit.files) (g.F.Files.slot_view c.read_pictures.new.files) c.read_pictures.new.tracks c.encode_unit.new.tracks c.loop-exit.recon c.loop-exit.number c.in-Ok-encode_unit.chosen c.encode_unit.new.unit.items read
    c.in-Ok-encode_unit.ensures.coded c.in-Ok-encode_unit.ensures.at_qp c.in-Ok-encode_unit.ensures.ok in
    omega (arith, made.small, made.size)

pub add_unit-requires-clause-small : goal.add_unit-requires-clause-small
add_unit-requires-clause-small g c κs within =
    let w = c.requires.tracks in
    let read = read-next c.args.settings.now w.0 w.1 c.args.payloads.now (g.F.Files.slot_view c.args.files.now) (g.F.Files.slot_view c.loop-exit.files) (g.F.Files.slot_view c.read_pictures.new.files) c.loop-exit.tracks c.read_pictures.new.tracks c.loop-exit.recon c.loop-exit.number (c.loop-exit.invariant.goes w.0 w.1 w.2)
    c.in-Ok-read_pictures.ensures.tracks c.in-Ok-read_pictures.ensures.ok c.in-Ok-read_pictures.ensures.others in
    let made = made-next c.args.settings.now w.0 w.1 c.args.payloads.now (g.F.Files.slot_view c.args.files.now) (g.F.Files.slot_view c.loop-exit.files) (g.F.Files.slot_view c.read_pictures.new.files) c.read_pictures.new.tracks c.encode_unit.new.tracks c.loop-exit.recon c.loop-exit.number c.in-Ok-encode_unit.chosen c.encode_unit.new.unit.items read
    c.in-Ok-encode_unit.ensures.coded c.in-Ok-encode_unit.ensures.at_qp c.in-Ok-encode_unit.ensures.ok in
    subst (λ (xs : List ℕ). length xs ≤ MAX_UNIT) (sym c.deref.ensures.value) made.small

pub add_unit-requires-clause-first : goal.add_unit-requires-clause-first
add_unit-requires-clause-first g c κs within =
    let w = c.requires.tracks in
    let read = read-next c.args.settings.now w.0 w.1 c.args.payloads.now (g.F.Files.slot_view c.args.files.now) (g.F.Files.slot_view c.loop-exit.files) (g.F.Files.slot_view c.read_pictures.new.files) c.loop-exit.tracks c.read_pictures.new.tracks c.loop-exit.recon c.loop-exit.number (c.loop-exit.invariant.goes w.0 w.1 w.2)
    c.in-Ok-read_pictures.ensures.tracks c.in-Ok-read_pictures.ensures.ok c.in-Ok-read_pictures.ensures.others in
    let made = made-next c.args.settings.now w.0 w.1 c.args.payloads.now (g.F.Files.slot_view c.args.files.now) (g.F.Files.slot_view c.loop-exit.files) (g.F.Files.slot_view c.read_pictures.new.files) c.read_pictures.new.tracks c.encode_unit.new.tracks c.loop-exit.recon c.loop-exit.number c.in-Ok-encode_unit.chosen c.encode_unit.new.unit.items read
    c.in-Ok-encode_unit.ensures.coded c.in-Ok-encode_unit.ensures.at_qp c.in-Ok-encode_unit.ensures.ok in
    let chosen = c.in-Ok-encode_unit.chosen in
    let first = decoded_frame (primary_track (plain_settings c.args.settings.now) w.1 (tile_offsets w.0.offsets)) chosen.qp (primary_levels (unit_of_states chosen.qp c.encode_unit.new.tracks c.encode_unit.new.unit.items)) in
    let has = next-first c.args.settings.now w.0 w.1 c.args.payloads.now (g.F.Files.slot_view c.args.files.now) c.valid_unit.ensures c.requires.bounds (g.F.Files.slot_view c.read_pictures.new.files) chosen c.encode_unit.new.tracks c.loop-exit.recon c.encode_unit.new.unit.items c.loop-exit.number made in
    (first, subst (λ (xs : List ℕ). HasFirstFrame xs first) (sym c.deref.ensures.value) has)

pub returns-in_default-add_unit-clause-views : goal.returns-in_default-add_unit-clause-views
returns-in_default-add_unit-clause-views g c inputs format is =
    let read = read-next c.args.settings.now inputs format c.args.payloads.now (g.F.Files.slot_view c.args.files.now) (g.F.Files.slot_view c.loop-exit.files) (g.F.Files.slot_view c.read_pictures.new.files) c.loop-exit.tracks c.read_pictures.new.tracks c.loop-exit.recon c.loop-exit.number (c.loop-exit.invariant.goes inputs format is)
    c.in-Ok-read_pictures.ensures.tracks c.in-Ok-read_pictures.ensures.ok c.in-Ok-read_pictures.ensures.others in
    rw c.of-in_default-add_unit.ensures (not-coded c.args.settings.now inputs format (g.F.Files.slot_view c.args.files.now) (g.F.Files.slot_view c.loop-exit.files) (g.F.Files.slot_view c.read_pictures.new.files) c.loop-exit.number c.read_pictures.new.tracks c.args.payloads.now LacksMemory Memory None read.read read.tracks.carries refl tt)

pub returns-in_default-add_unit-clause-held : goal.returns-in_default-add_unit-clause-held
returns-in_default-add_unit-clause-held g c file = c.in-Ok-read_pictures.ensures.held file ∙ c.loop-exit.invariant.held file
