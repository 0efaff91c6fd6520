use Rattle.std.proofs.Common.{◌≡◌, ℕ, ◌*◌, ◌≤◌, List, length, length-take, take, sym, ap, subst, ◌∙◌, refl, arith, rules}
use Rattle.std.specs.List.{flat_map}
use Rattle.std.proofs.lemmas.Grind.{common_steps}
use Rattle.std.proofs.lemmas.List.{length-take-le}
use Rattle.apv_base.specs.model.Picture.{joined, low_first}
use Rattle.apv_files.proofs.Many.{only-at-trans}
use Rattle.apv_grid.specs.Buffer.{samples_of}
use Rattle.apv_video.specs.Samples.{sample_at, sample_count, bytes_at}
use Rattle.apv_video.specs.Reads.{AreValuesBelow, IsHighest, PutsSamples, TookText}
use Rattle.apv_video.proofs.ReadLemmas.{stops-in, stops-err, component-read, text-none, highest-of-more, keeps-keeps, bytes-length, held-same, puts-same, component-end}
use Rattle.apv_video.proofs.read.read_component.Goals as goal

pub returns-in_err-high-clause-here : goal.returns-in_err-high-clause-here
returns-in_err-high-clause-here g c =
    let format = c.args.frame.now.grid.format in
    let old = g.F.Files.slot_view c.args.files.now c.args.slot in
    let mid = g.F.Files.slot_view c.loop-first.files c.args.slot in
    let new = g.F.Files.slot_view c.read_piece.new.files c.args.slot in
    let all : c.height.result * c.width.result ≡ sample_count format c.args.comp = ap (λ (h : ℕ). h * c.width.result) c.height.ensures ∙ ap (λ (w : ℕ). format.height * w) c.width.ensures in
    let k : ℕ = c.loop-first.at_hand in
    let n : ℕ = 2 * c.min-n.result in
    let bytes = c.loop-first.bytes in
    let less : k ≤ n = omega (arith, c.min-n.ensures, c.loop-first.invariant.one) in
    let same : take k (take n bytes) ≡ take k bytes = held-same k n (take n bytes) bytes refl less in
    let size : length (take n bytes) ≡ n = length-take-le n bytes (omega (arith, c.min-n.ensures, c.loop-first.invariant.bytes_size)) in
    let fits : length (take k bytes) ≤ n = omega (arith, length-take k bytes) in
    stops-err old new (take c.args.held c.args.bytes.now) _ (2 * sample_count format c.args.comp) _ _ _ c.from_residual.result c.in_err-high.field-0.0 c.from_residual.ensures.1
    (stops-in old mid new (take c.args.held c.args.bytes.now) (take c.loop-first.at_hand c.loop-first.bytes) (joined c.loop-first.first (bytes_at format (samples_of c.loop-first.frame) c.args.comp)) _ (2 * c.min-n.result) (2 * sample_count format c.args.comp) c.in_err-high.field-0.0 c.loop-first.invariant.read c.in_err-high.ensures.here (omega (arith, ap length same, size)) fits (omega (arith, bytes-length format (samples_of c.loop-first.frame) c.args.comp c.loop-first.first 0)))
    refl refl

pub loop-first-preserved : goal.loop-first-preserved
loop-first-preserved g c =
    let format = c.args.frame.now.grid.format in
    let piece = c.read_piece.new.samples in
    let before = samples_of c.loop-first.frame in
    let now = samples_of c.write_samples.new.frame in
    let old = g.F.Files.slot_view c.args.files.now c.args.slot in
    let mid = g.F.Files.slot_view c.loop-first.files c.args.slot in
    let new = g.F.Files.slot_view c.read_piece.new.files c.args.slot in
    let size : c.min-n.result ≡ length piece = search rules in
    let puts : PutsSamples format c.args.comp c.loop-first.first piece c.min-n.result before now = puts-same _ format c.args.comp c.loop-first.first (length piece) c.min-n.result piece before now (ap (λ b. b.format) c.loop-first.invariant.grid) (sym size) c.write_samples.ensures.samples in
    let fits : c.loop-first.at_hand ≤ 2 * c.min-n.result = omega (arith, c.min-n.ensures, c.loop-first.invariant.one) in
    let here : TookText mid (take c.loop-first.at_hand c.loop-first.bytes) (flat_map low_first piece) new = subst (λ (xs : List ℕ). TookText mid xs (flat_map low_first piece) new) (held-same c.loop-first.at_hand (2 * c.min-n.result) _ c.loop-first.bytes refl fits) c.in_ok-high.ensures.here.read in
    record {
      inside = omega arith;
      samples_size = first_of (search rules, grind (arith, common_steps));
      bytes_size = first_of (search rules, grind (arith, common_steps));
      one = omega arith;
      later = λ some. refl;
      grid = c.write_samples.ensures.grid ∙ c.loop-first.invariant.grid;
      kept = keeps-keeps format c.args.comp c.loop-first.first c.min-n.result piece _ before now c.loop-first.invariant.kept puts;
      read = text-none old new _ _ _ refl (component-read old mid new _ _ format c.args.comp c.loop-first.first c.min-n.result piece before now c.loop-first.invariant.read here puts size);
      highest = highest-of-more format c.args.comp c.loop-first.first c.min-n.result c.loop-first.highest c.in_ok-high.high c.max-highest.result piece before now puts size c.loop-first.invariant.highest c.in_ok-high.ensures.here.highest c.max-highest.ensures;
      elsewhere = only-at-trans c.args.slot _ _ _ c.loop-first.invariant.elsewhere c.in_ok-high.ensures.elsewhere;
      held = λ file. c.in_ok-high.ensures.held file ∙ c.loop-first.invariant.held file;
    }

pub returns-clause-here : goal.returns-clause-here
returns-clause-here g c =
    let format = c.args.frame.now.grid.format in
    let now = samples_of c.loop-first.frame in
    let old = g.F.Files.slot_view c.args.files.now c.args.slot in
    let new = g.F.Files.slot_view c.loop-first.files c.args.slot in
    let all : c.height.result * c.width.result ≡ sample_count format c.args.comp = ap (λ (h : ℕ). h * c.width.result) c.height.ensures ∙ ap (λ (w : ℕ). format.height * w) c.width.ensures in
    let end : c.loop-first.first ≡ sample_count format c.args.comp = omega (arith, c.loop-first.invariant.inside) in
    let none : c.loop-first.at_hand ≡ 0 = c.loop-first.invariant.later (omega (arith, c.requires.some)) in
    record {
      read = component-end old new (take c.args.held c.args.bytes.now) format now c.args.comp c.loop-first.first c.loop-first.at_hand c.loop-first.bytes end none c.loop-first.invariant.read;
      highest = subst (λ (n : ℕ). IsHighest (AreValuesBelow (λ (i : ℕ). sample_at format now c.args.comp i) n) c.loop-first.highest) end c.loop-first.invariant.highest;
    }
