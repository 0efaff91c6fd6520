use Rattle.std.proofs.Common.{◌≡◌, ℕ, ◌<◌, ◌∙◌, arith, subst, rules}
use Rattle.apv_base.specs.model.Format.{comps_of}
use Rattle.apv_base.specs.model.Grid.{Grid}
use Rattle.apv_encoding.specs.Generated.{generated_picture}
use Rattle.apv_generated.specs.Samples.{AreRowsOf, AreComponentsOf}
use Rattle.apv_generated.proofs.SampleLemmas.{keeps-as, components-more, picture-same}
use Rattle.apv_grid.specs.Buffer.{samples_of}
use Rattle.apv_generated.proofs.picture.put_generated.Goals as goal

pub loop-comp-preserved : goal.loop-comp-preserved
loop-comp-preserved c =
    let g = c.args in
    let old = g.frame.now in
    let mid = c.loop-comp.frame in
    let new = c.put_component.new.frame in
    let f = generated_picture g.seed g.number in
    let so = c.loop-comp.invariant in
    let known : c.loop-comp.comp < comps_of old.grid.format.chroma = search rules in
    let kept = keeps-as f old mid new so.grid c.put_component.ensures.kept in
    let rows = subst (λ (k : Grid). AreRowsOf k.format f c.loop-comp.comp k.format.height (samples_of new)) so.grid c.put_component.ensures.rows in
    record {
      grid = c.put_component.ensures.grid ∙ so.grid;
      components = components-more old.grid.format f (samples_of mid) (samples_of new) c.loop-comp.comp known so.components rows kept;
    }

pub returns-clause-samples : goal.returns-clause-samples
returns-clause-samples c =
    let format = c.args.frame.now.grid.format in
    let count : c.comps-comp-end.result ≡ comps_of format.chroma = cc in
    let end : c.loop-comp.comp ≡ comps_of format.chroma = omega (arith, c.loop-comp.auto.comp-end) in
    subst (λ (n : ℕ). AreComponentsOf format (generated_picture c.args.seed c.args.number) n (samples_of c.loop-comp.frame)) end c.loop-comp.invariant.components

pub returns-clause-picture : goal.returns-clause-picture
returns-clause-picture c =
    let format = c.args.frame.now.grid.format in
    let f = generated_picture c.args.seed c.args.number in
    let count : c.comps-comp-end.result ≡ comps_of format.chroma = cc in
    let end : c.loop-comp.comp ≡ comps_of format.chroma = omega (arith, c.loop-comp.auto.comp-end) in
    picture-same format (samples_of c.loop-comp.frame) f (subst (λ (n : ℕ). AreComponentsOf format f n (samples_of c.loop-comp.frame)) end c.loop-comp.invariant.components)
