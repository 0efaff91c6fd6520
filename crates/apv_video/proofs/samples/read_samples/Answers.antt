use Rattle.std.proofs.Common.{◌≡◌, ℕ, ◌+◌, ◌∙◌, ap, arith, rules}
use Rattle.apv_grid.specs.Buffer.{samples_of}
use Rattle.apv_video.specs.Samples.{sample_at}
use Rattle.apv_video.proofs.SampleLemmas.{values-then, values-all}
use Rattle.apv_video.proofs.samples.read_samples.Goals as goal

pub loop-done-preserved : goal.loop-done-preserved
loop-done-preserved c =
    let frame = c.args.frame.now in
    let f : ℕ → ℕ = λ (i : ℕ). sample_at frame.grid.format (samples_of frame) c.args.comp (c.args.first + i) in
    record {
      inside = search rules;
      here =
          values-then f c.loop-done.samples c.read_some-done.new.samples c.loop-done.done c.read_some-done.result _ c.loop-done.invariant.here (search rules) (search rules)
          (λ i less. c.read_some-done.ensures.samples i less ∙ ap (λ (n : ℕ). sample_at frame.grid.format (samples_of frame) c.args.comp n) (let e : c.args.first + c.loop-done.done + i ≡ c.args.first + (c.loop-done.done + i) = omega arith in e));
    }

pub returns : goal.returns
returns c =
    let frame = c.args.frame.now in
    values-all (sample_at frame.grid.format (samples_of frame) c.args.comp) c.args.first c.loop-done.samples c.loop-done.done _ c.loop-done.invariant.here (omega (arith, c.loop-done.invariant.inside)) (search rules)
