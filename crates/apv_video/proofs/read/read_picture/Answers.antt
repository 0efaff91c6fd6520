use Rattle.std.proofs.Common.{◌≡◌, ℕ, ◌*◌, ◌<◌, ◌≤◌, ◌-◌, ◌+◌, length, length-take, take, ap, subst, ◌∙◌, refl, arith, rules}
use Rattle.apv_base.specs.model.Format.{comps_of}
use Rattle.apv_base.specs.model.Picture.{joined}
use Rattle.apv_files.proofs.Many.{only-at-trans}
use Rattle.apv_grid.specs.Buffer.{samples_of}
use Rattle.apv_video.specs.Samples.{sample_count, component_text}
use Rattle.apv_video.specs.Reads.{AreBelow, IsHighest}
use Rattle.apv_video.proofs.ReadLemmas.{stops-in, stops-err, picture-read, picture-end, text-none, highest-of-component, keeps-as, component-as, some-components, some-samples, components-within}
use Rattle.apv_video.proofs.read.read_picture.Goals as goal

pub returns-in_err-high-clause-here : goal.returns-in_err-high-clause-here
returns-in_err-high-clause-here g c =
    let format = c.args.frame.now.grid.format in
    let comp = c.loop-comp.comp in
    let before = samples_of c.loop-comp.frame in
    let old = g.F.Files.slot_view c.args.files.now c.args.slot in
    let mid = g.F.Files.slot_view c.loop-comp.files c.args.slot in
    let new = g.F.Files.slot_view c.read_component.new.files c.args.slot in
    let held = take c.loop-comp.held c.loop-comp.bytes in
    let same = ap (λ b. b.format) c.loop-comp.invariant.grid in
    let less : comp < comps_of format.chroma = search rules in
    let some : 0 < sample_count format comp = some-samples format comp c.requires.sound in
    let fits : length held ≤ 2 * sample_count format comp = omega (arith, length-take c.loop-comp.held c.loop-comp.bytes, c.loop-comp.invariant.one) in
    let room : length (joined comp (component_text format before)) + 2 * sample_count format comp ≤ _ = components-within format before comp less in
    stops-err old new c.args.head.now _ _ _ _ _ c.from_residual.result c.in_err-high.field-0.0 c.from_residual.ensures.1
    (stops-in old mid new c.args.head.now held (joined comp (component_text format before)) _ (2 * sample_count format comp) _ c.in_err-high.field-0.0 c.loop-comp.invariant.read c.in_err-high.ensures.here (ap (λ f. 2 * sample_count f comp - length held) same) fits room) refl refl

pub loop-comp-preserved : goal.loop-comp-preserved
loop-comp-preserved g c =
    let format = c.args.frame.now.grid.format in
    let comp = c.loop-comp.comp in
    let before = samples_of c.loop-comp.frame in
    let now = samples_of c.read_component.new.frame in
    let old = g.F.Files.slot_view c.args.files.now c.args.slot in
    let mid = g.F.Files.slot_view c.loop-comp.files c.args.slot in
    let new = g.F.Files.slot_view c.read_component.new.files c.args.slot in
    let same = ap (λ b. b.format) c.loop-comp.invariant.grid in
    let kept = keeps-as _ format comp before now same c.in_ok-high.ensures.kept in
    let here = component-as mid new _ _ format comp now c.in_ok-high.high same c.in_ok-high.ensures.here in
    record {
      samples_size = c.in_ok-high.ensures.samples ∙ c.loop-comp.invariant.samples_size;
      bytes_size = c.in_ok-high.ensures.bytes ∙ c.loop-comp.invariant.bytes_size;
      one = omega arith;
      later = λ some. refl;
      grid = c.in_ok-high.ensures.grid ∙ c.loop-comp.invariant.grid;
      read = text-none old new c.args.head.now _ _ refl (picture-read old mid new c.args.head.now _ format comp before now c.loop-comp.invariant.read here.read kept);
      highest = highest-of-component format comp c.loop-comp.highest c.in_ok-high.high c.max-highest.result before now kept c.loop-comp.invariant.highest here.highest c.max-highest.ensures;
      elsewhere = only-at-trans c.args.slot _ _ _ c.loop-comp.invariant.elsewhere c.in_ok-high.ensures.elsewhere;
      held = λ file. c.in_ok-high.ensures.held file ∙ c.loop-comp.invariant.held file;
    }

pub returns-clause-here : goal.returns-clause-here
returns-clause-here g c =
    let format = c.args.frame.now.grid.format in
    let now = samples_of c.loop-comp.frame in
    let old = g.F.Files.slot_view c.args.files.now c.args.slot in
    let new = g.F.Files.slot_view c.loop-comp.files c.args.slot in
    let count : c.comps-comp-end.result ≡ comps_of format.chroma = cc in
    let end : c.loop-comp.comp ≡ comps_of format.chroma = omega (arith, c.loop-comp.auto.comp-end) in
    let none : c.loop-comp.held ≡ 0 = c.loop-comp.invariant.later (omega (arith, some-components format)) in
    record {
      read = picture-end old new c.args.head.now format now c.loop-comp.comp c.loop-comp.held c.loop-comp.bytes end none c.loop-comp.invariant.read;
      highest = subst (λ (n : ℕ). IsHighest (AreBelow format now n) c.loop-comp.highest) end c.loop-comp.invariant.highest;
    }
