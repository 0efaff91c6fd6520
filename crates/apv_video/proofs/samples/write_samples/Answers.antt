use Rattle.std.proofs.Common.{◌≡◌, ℕ, ◌+◌, ◌%◌, ◌<◌, arith, refl, rules, ◌∙◌}
use Rattle.std.proofs.lemmas.Nat.{mod_below}
use Rattle.apv_base.specs.model.Format.{component_width}
use Rattle.apv_video.proofs.SampleLemmas.{wide-enough}
use Rattle.apv_video.proofs.ReadLemmas.{frame-more}
use Rattle.apv_video.proofs.samples.write_samples.Goals as goal

pub loop-done-preserved : goal.loop-done-preserved
loop-done-preserved c =
    let frame = c.args.frame.now in
    let row = c.args.samples.now in
    let width : ℕ = component_width frame.grid.format c.args.comp in
    let wide : 0 < width = wide-enough frame.grid.format.height width (c.args.first + c.loop-done.done) (omega arith) in
    let same : c.width-width.result ≡ width = c.width-width.ensures in
    let place : ℕ = c.args.first + c.loop-done.done in
    let column : place % c.width-width.result < c.width-width.result = mod_below place c.width-width.result (omega arith) in
    record {
      inside = search rules;
      grid = c.put_row.ensures.grid ∙ c.loop-done.invariant.grid;
      here =
          frame-more c.args.comp c.args.first c.loop-done.done c.min-count.result place c.width-width.result row frame c.loop-done.frame c.put_row.new.self c.loop-done.invariant.grid c.put_row.ensures.grid c.requires.comp same refl
          (omega (arith, c.min-count.ensures)) (omega (arith, c.min-count.ensures)) (omega (arith, c.min-count.ensures)) c.loop-done.invariant.here (search rules);
    }
