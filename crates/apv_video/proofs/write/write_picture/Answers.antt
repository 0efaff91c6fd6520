use Rattle.std.proofs.Common.{◌≡◌, ◌<◌, ◌∙◌, arith, rules}
use Rattle.apv_base.specs.model.Format.{comps_of}
use Rattle.apv_files.proofs.Many.{only-at-trans}
use Rattle.apv_grid.specs.Buffer.{samples_of}
use Rattle.apv_video.specs.Samples.{component_text}
use Rattle.apv_video.proofs.WriteLemmas.{picture-all, picture-fails, picture-more, puts-err}
use Rattle.apv_video.proofs.write.write_picture.Goals as goal

pub returns-in_err-write_component-clause-here : goal.returns-in_err-write_component-clause-here
returns-in_err-write_component-clause-here g c =
    let frame = c.args.frame.now in
    let less : c.loop-comp.comp < comps_of frame.grid.format.chroma = search rules in
    puts-err (Unit {0}) _ c.in_err-write_component.field-0.0 _ _ _ c.from_residual.ensures.1
    (picture-fails (Unit {0}) (Unit {0}) frame.grid.format (samples_of frame) c.loop-comp.comp _ (g.F.Files.slot_view c.loop-comp.files c.args.slot) _ c.in_err-write_component.field-0.0 less c.loop-comp.invariant.here c.in_err-write_component.ensures.here)

pub loop-comp-preserved : goal.loop-comp-preserved
loop-comp-preserved g c =
    let frame = c.args.frame.now in
    record {
      samples_size = c.in_ok-write_component.ensures.samples ∙ c.loop-comp.invariant.samples_size;
      bytes_size = c.in_ok-write_component.ensures.bytes ∙ c.loop-comp.invariant.bytes_size;
      here = picture-more (component_text frame.grid.format (samples_of frame)) c.loop-comp.comp _ (g.F.Files.slot_view c.loop-comp.files c.args.slot) _ c.loop-comp.invariant.here c.in_ok-write_component.ensures.here;
      elsewhere = only-at-trans c.args.slot _ _ _ c.loop-comp.invariant.elsewhere c.in_ok-write_component.ensures.elsewhere;
      held = λ file. c.in_ok-write_component.ensures.held file ∙ c.loop-comp.invariant.held file;
    }

pub returns-clause-here : goal.returns-clause-here
returns-clause-here g c =
    let frame = c.args.frame.now in
    let count : c.comps-comp-end.result ≡ comps_of frame.grid.format.chroma = cc in
    let end : c.loop-comp.comp ≡ comps_of frame.grid.format.chroma = omega (arith, c.loop-comp.auto.comp-end) in
    rw (picture-all frame.grid.format (samples_of frame) c.loop-comp.comp end) c.loop-comp.invariant.here
