use Rattle.std.proofs.Common.{◌≡◌, ℕ, ◌*◌, sym, ap, ◌∙◌, arith, rules}
use Rattle.std.specs.List.{flat_map, range_with_len}
use Rattle.std.proofs.lemmas.Grind.{common_steps}
use Rattle.apv_files.proofs.Many.{only-at-trans}
use Rattle.apv_grid.specs.Buffer.{samples_of}
use Rattle.apv_video.specs.Samples.{sample_count, bytes_at}
use Rattle.apv_video.proofs.WriteLemmas.{component-all, component-more, component-fails, spelled-pieces, puts-err}
use Rattle.apv_video.proofs.write.write_component.Goals as goal

pub returns-in_err-put_all-clause-here : goal.returns-in_err-put_all-clause-here
returns-in_err-put_all-clause-here g c =
    let frame = c.args.frame.now in
    let samples = samples_of frame in
    let all : c.height.result * c.width.result ≡ sample_count frame.grid.format c.args.comp = ap (λ (h : ℕ). h * c.width.result) c.height.ensures ∙ ap (λ (w : ℕ). frame.grid.format.height * w) c.width.ensures in
    let is : c.samples_to_bytes.new.bytes ≡ flat_map (bytes_at frame.grid.format samples c.args.comp) (range_with_len c.loop-first.first c.min-n.result) =
    spelled-pieces frame.grid.format samples c.args.comp c.loop-first.first _ c.min-n.result _ _ c.samples_to_bytes.ensures c.read_samples.ensures (search rules) in
    puts-err (Unit {0}) _ c.in_err-put_all.field-0.0 _ _ _ c.from_residual.ensures.1
    (component-fails (Unit {0}) (Unit {0}) frame.grid.format samples c.args.comp c.loop-first.first c.min-n.result _ (g.F.Files.slot_view c.loop-first.files c.args.slot) _ c.samples_to_bytes.new.bytes c.in_err-put_all.field-0.0 (omega arith) c.loop-first.invariant.here c.in_err-put_all.ensures.here is)

pub loop-first-preserved : goal.loop-first-preserved
loop-first-preserved g c =
    let frame = c.args.frame.now in
    let samples = samples_of frame in
    let is : c.samples_to_bytes.new.bytes ≡ flat_map (bytes_at frame.grid.format samples c.args.comp) (range_with_len c.loop-first.first c.min-n.result) =
    spelled-pieces frame.grid.format samples c.args.comp c.loop-first.first _ c.min-n.result _ _ c.samples_to_bytes.ensures c.read_samples.ensures (search rules) in
    record {
      inside = omega arith;
      samples_size = first_of (search rules, grind (arith, common_steps));
      bytes_size = first_of (search rules, grind (arith, common_steps));
      here = component-more frame.grid.format samples c.args.comp c.loop-first.first c.min-n.result _ (g.F.Files.slot_view c.loop-first.files c.args.slot) _ c.samples_to_bytes.new.bytes c.loop-first.invariant.here c.in_ok-put_all.ensures.here is;
      elsewhere = only-at-trans c.args.slot _ _ _ c.loop-first.invariant.elsewhere c.in_ok-put_all.ensures.elsewhere;
      held = λ file. c.in_ok-put_all.ensures.held file ∙ c.loop-first.invariant.held file;
    }

pub returns-clause-here : goal.returns-clause-here
returns-clause-here g c =
    let frame = c.args.frame.now in
    let samples = samples_of frame in
    let all : c.height.result * c.width.result ≡ sample_count frame.grid.format c.args.comp = ap (λ (h : ℕ). h * c.width.result) c.height.ensures ∙ ap (λ (w : ℕ). frame.grid.format.height * w) c.width.ensures in
    let end : c.loop-first.first ≡ sample_count frame.grid.format c.args.comp = omega (arith, c.loop-first.invariant.inside) in
    rw (component-all frame.grid.format samples c.args.comp, sym end) c.loop-first.invariant.here
