use Rattle.std.proofs.Common.{arith, ◌≡◌, ◌∙◌, ◌+◌, ◌++◌, ◌∷◌, [], length, refl, sym, length-append}
use Rattle.apv_dec.specs.Outputs.{output_settings}
use Rattle.apv_dec.proofs.FormatLemmas.{header-tag}
use Rattle.apv_dec.proofs.JudgeLemmas.{judged-as}
use Rattle.apv_dec.proofs.ProgressLemmas.{format-none, progress-none, unit-taken, read-valid, wrote-payloads, wrote-pictures, stopped-done, stopped-judged, stopped-formats, not-read, metadata-failed, pictures-failed}
use Rattle.apv_dec.proofs.decode.decode.Goals as goal

pub loop-frames-init : goal.loop-frames-init
loop-frames-init g c =
    let s = output_settings c.args.settings.now in
    record { number = omega arith; state = record { units = []; count = refl; has = format-none s; progress = progress-none s (g.F.Files.slot_view c.args.files.now) }; held = λ file. refl }

pub returns-in-Ok-false-clause-views : goal.returns-in-Ok-false-clause-views
returns-in-Ok-false-clause-views g c =
    let i = c.loop-frames.invariant.state in
    stopped-done (output_settings c.args.settings.now) _ (g.F.Files.slot_view c.loop-frames.files) _ c.loop-frames.number c.in-Ok-false.field-0 i.units c.next_unit.new.unit.items i.progress i.count c.loop-frames.invariant.number
    c.in-Ok-false.field-0-test c.in-Ok-false.ensures.here c.in-Ok-false.ensures.elsewhere

pub returns-in-Err-clause-views : goal.returns-in-Err-clause-views
returns-in-Err-clause-views g c =
    let i = c.loop-frames.invariant.state in
    not-read (output_settings c.args.settings.now) _ (g.F.Files.slot_view c.loop-frames.files) _ c.loop-frames.number c.in-Err.end c.no_unit_exit.result i.units c.next_unit.new.unit.items c.no_unit_exit.ensures
    i.progress i.count c.loop-frames.invariant.number c.in-Err.ensures.here c.in-Err.ensures.elsewhere

pub returns-in-Err-judge_unit-clause-views : goal.returns-in-Err-judge_unit-clause-views
returns-in-Err-judge_unit-clause-views g c =
    let s = output_settings c.args.settings.now in
    let i = c.loop-frames.invariant.state in
    let t = unit-taken s (g.F.Files.slot_view c.args.files.now) (g.F.Files.slot_view c.loop-frames.files) (g.F.Files.slot_view c.next_unit.new.files) c.loop-frames.number c.in-Ok-true.field-0 i.units c.next_unit.new.unit.items i.progress i.count
    c.in-Ok-true.field-0-test c.in-Ok-true.ensures.here c.in-Ok-true.ensures.elsewhere in
    stopped-judged s _ (g.F.Files.slot_view c.loop-frames.files) _ c.loop-frames.number c.in-Err-judge_unit.exit i.units c.next_unit.new.unit.items c.deref.result.now t i.count c.deref.ensures.value c.in-Err-judge_unit.ensures.err

pub returns-in-Err-judge_formats-clause-views : goal.returns-in-Err-judge_formats-clause-views
returns-in-Err-judge_formats-clause-views g c =
    let s = output_settings c.args.settings.now in
    let i = c.loop-frames.invariant.state in
    let bytes = c.next_unit.new.unit.items in
    let buffers = c.judge_unit.new.frames in
    let t = unit-taken s (g.F.Files.slot_view c.args.files.now) (g.F.Files.slot_view c.loop-frames.files) (g.F.Files.slot_view c.next_unit.new.files) c.loop-frames.number c.in-Ok-true.field-0 i.units bytes i.progress i.count
    c.in-Ok-true.field-0-test c.in-Ok-true.ensures.here c.in-Ok-true.ensures.elsewhere in
    let judged = c.in-Ok.ensures.ok in
    stopped-formats s (g.F.Files.slot_view c.args.files.now) (g.F.Files.slot_view c.loop-frames.files) _ c.in-Err-judge_formats.exit i.units bytes c.deref.result.now buffers judged.0 t c.deref.ensures.value judged.1
    (c.in-Err-judge_formats.ensures i.units judged.0 i.has.agree i.has.first
    (judged-as s.strict c.deref.result.now c.deref-in-loop-frames.result.now buffers c.frames-in-loop-frames-2.result.now judged.0 (c.deref-in-loop-frames.ensures.value ∙ sym c.deref.ensures.value) c.frames-in-loop-frames-2.ensures judged.1))

pub returns-in-Err-write_metadata-clause-views : goal.returns-in-Err-write_metadata-clause-views
returns-in-Err-write_metadata-clause-views g c =
    let s = output_settings c.args.settings.now in
    let i = c.loop-frames.invariant.state in
    let bytes = c.next_unit.new.unit.items in
    let buffers = c.judge_unit.new.frames in
    let v = read-valid s (g.F.Files.slot_view c.args.files.now) (g.F.Files.slot_view c.loop-frames.files) (g.F.Files.slot_view c.next_unit.new.files) c.loop-frames.number c.in-Ok-true.field-0 c.loop-frames.format c.in-Ok-judge_formats.next bytes c.deref.result.now c.deref-in-loop-frames.result.now buffers c.frames-in-loop-frames-2.result.now
    i c.in-Ok-true.field-0-test c.in-Ok-true.ensures.here c.in-Ok-true.ensures.elsewhere c.deref.ensures.value c.in-Ok.ensures.ok c.deref-in-loop-frames.ensures.value c.frames-in-loop-frames-2.ensures c.in-Ok-judge_formats.ensures in
    metadata-failed s (Unit {0}) _ (g.F.Files.slot_view c.next_unit.new.files) _ i.units bytes buffers c.loop-frames.format c.in-Ok-judge_formats.next c.in-Err-write_metadata.failed c.write_exit.result c.write_exit.ensures i.has v c.in-Err-write_metadata.ensures.elsewhere
    (c.in-Err-write_metadata.ensures.here v.unit (judged-as s.strict bytes c.deref-in-loop-frames-2.result.now buffers buffers v.unit c.deref-in-loop-frames-2.ensures.value refl v.is).rules.structure)

pub write_pictures-requires-clause-tag : goal.write_pictures-requires-clause-tag
write_pictures-requires-clause-tag g c =
    let s = output_settings c.args.settings.now in
    let i = c.loop-frames.invariant.state in
    let bytes = c.next_unit.new.unit.items in
    let buffers = c.judge_unit.new.frames in
    let v = read-valid s (g.F.Files.slot_view c.args.files.now) (g.F.Files.slot_view c.loop-frames.files) (g.F.Files.slot_view c.next_unit.new.files) c.loop-frames.number c.in-Ok-true.field-0 c.loop-frames.format c.in-Ok-judge_formats.next bytes c.deref.result.now c.deref-in-loop-frames.result.now buffers c.frames-in-loop-frames-2.result.now
    i c.in-Ok-true.field-0-test c.in-Ok-true.ensures.here c.in-Ok-true.ensures.elsewhere c.deref.ensures.value c.in-Ok.ensures.ok c.deref-in-loop-frames.ensures.value c.frames-in-loop-frames-2.ensures c.in-Ok-judge_formats.ensures in
    header-tag s (i.units ++ v.unit ∷ []) c.loop-frames.format c.in-Ok-judge_formats.next c.new_format-header.result v.has.agree v.has.first c.new_format-header.ensures

pub returns-in-Err-write_pictures-clause-views : goal.returns-in-Err-write_pictures-clause-views
returns-in-Err-write_pictures-clause-views g c =
    let s = output_settings c.args.settings.now in
    let i = c.loop-frames.invariant.state in
    let bytes = c.next_unit.new.unit.items in
    let buffers = c.judge_unit.new.frames in
    let v = read-valid s (g.F.Files.slot_view c.args.files.now) (g.F.Files.slot_view c.loop-frames.files) (g.F.Files.slot_view c.next_unit.new.files) c.loop-frames.number c.in-Ok-true.field-0 c.loop-frames.format c.in-Ok-judge_formats.next bytes c.deref.result.now c.deref-in-loop-frames.result.now buffers c.frames-in-loop-frames-2.result.now
    i c.in-Ok-true.field-0-test c.in-Ok-true.ensures.here c.in-Ok-true.ensures.elsewhere c.deref.ensures.value c.in-Ok.ensures.ok c.deref-in-loop-frames.ensures.value c.frames-in-loop-frames-2.ensures c.in-Ok-judge_formats.ensures in
    let w = wrote-payloads s (g.F.Files.slot_view c.args.files.now) (g.F.Files.slot_view c.next_unit.new.files) (g.F.Files.slot_view c.write_metadata.new.files) i.units bytes buffers c.in-Ok-judge_formats.next v c.in-Ok-write_metadata.ensures.elsewhere
    (c.in-Ok-write_metadata.ensures.here v.unit (judged-as s.strict bytes c.deref-in-loop-frames-2.result.now buffers buffers v.unit c.deref-in-loop-frames-2.ensures.value refl v.is).rules.structure) in
    pictures-failed s (Unit {0}) _ (g.F.Files.slot_view c.write_metadata.new.files) _ i.units v.unit c.loop-frames.format c.in-Ok-judge_formats.next c.new_format-header.result c.in-Err-write_pictures.failed c.write_exit-in-Err-write_pictures.result c.write_exit-in-Err-write_pictures.ensures
    i.has v.has c.new_format-header.ensures w c.in-Err-write_pictures.ensures.elsewhere
    (c.in-Err-write_pictures.ensures.here v.unit (judged-as s.strict bytes c.deref-in-loop-frames-3.result.now buffers c.frames-in-loop-frames-3.result.now v.unit c.deref-in-loop-frames-3.ensures.value c.frames-in-loop-frames-3.ensures v.is))

pub loop-frames-preserved : goal.loop-frames-preserved
loop-frames-preserved g c =
    let s = output_settings c.args.settings.now in
    let i = c.loop-frames.invariant.state in
    let bytes = c.next_unit.new.unit.items in
    let buffers = c.judge_unit.new.frames in
    let v = read-valid s (g.F.Files.slot_view c.args.files.now) (g.F.Files.slot_view c.loop-frames.files) (g.F.Files.slot_view c.next_unit.new.files) c.loop-frames.number c.in-Ok-true.field-0 c.loop-frames.format c.in-Ok-judge_formats.next bytes c.deref.result.now c.deref-in-loop-frames.result.now buffers c.frames-in-loop-frames-2.result.now
    i c.in-Ok-true.field-0-test c.in-Ok-true.ensures.here c.in-Ok-true.ensures.elsewhere c.deref.ensures.value c.in-Ok.ensures.ok c.deref-in-loop-frames.ensures.value c.frames-in-loop-frames-2.ensures c.in-Ok-judge_formats.ensures in
    let w = wrote-payloads s (g.F.Files.slot_view c.args.files.now) (g.F.Files.slot_view c.next_unit.new.files) (g.F.Files.slot_view c.write_metadata.new.files) i.units bytes buffers c.in-Ok-judge_formats.next v c.in-Ok-write_metadata.ensures.elsewhere
    (c.in-Ok-write_metadata.ensures.here v.unit (judged-as s.strict bytes c.deref-in-loop-frames-2.result.now buffers buffers v.unit c.deref-in-loop-frames-2.ensures.value refl v.is).rules.structure) in
    let more : length (i.units ++ v.unit ∷ []) ≡ c.loop-frames.number + 1 = omega (arith, length-append i.units (v.unit ∷ []), i.count) in
    record {
      number = omega (arith, more, v.with.count);
      state = record {
        units = i.units ++ v.unit ∷ [];
        count = more;
        has = v.has;
        progress = wrote-pictures s (g.F.Files.slot_view c.args.files.now) (g.F.Files.slot_view c.write_metadata.new.files) _ i.units v.unit c.loop-frames.format c.in-Ok-judge_formats.next c.new_format-header.result i.has v.has c.new_format-header.ensures w c.in-Ok-write_pictures.ensures.elsewhere
            (c.in-Ok-write_pictures.ensures.here v.unit (judged-as s.strict bytes c.deref-in-loop-frames-3.result.now buffers c.frames-in-loop-frames-3.result.now v.unit c.deref-in-loop-frames-3.ensures.value c.frames-in-loop-frames-3.ensures v.is));
      };
      held = λ file. c.in-Ok-write_pictures.ensures.held file ∙ (c.in-Ok-write_metadata.ensures.held file ∙ (c.in-Ok-true.ensures.held file ∙ c.loop-frames.invariant.held file));
    }
