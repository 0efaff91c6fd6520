use Rattle.std.proofs.Common.{◌∙◌, arith, subst}
use Rattle.apv_base.specs.model.Format.{component_width}
use Rattle.apv_encoding.specs.Generated.{generated_picture}
use Rattle.apv_generated.specs.Samples.{IsRowOf}
use Rattle.apv_generated.proofs.SampleLemmas.{keeps-as, keeps-keeps, rows-more}
use Rattle.apv_grid.specs.Buffer.{samples_of}
use Rattle.apv_base.specs.model.Grid.{Grid}
use Rattle.apv_generated.proofs.picture.put_component.Goals as goal

pub loop-y-preserved : goal.loop-y-preserved
loop-y-preserved c =
    let g = c.args in
    let old = g.frame.now in
    let mid = c.loop-y.frame in
    let new = c.put_row.new.frame in
    let f = generated_picture g.seed g.number in
    let so = c.loop-y.invariant in
    let kept = keeps-as f old mid new so.grid c.put_row.ensures.kept in
    let row = subst (λ (k : Grid). IsRowOf f g.comp c.loop-y.y 0 (component_width k.format g.comp) (samples_of new)) so.grid c.put_row.ensures.row in
    record {
      grid = c.put_row.ensures.grid ∙ so.grid;
      rows = rows-more old.grid.format f (samples_of mid) (samples_of new) g.comp c.loop-y.y c.requires (omega arith) so.rows row kept;
      kept = keeps-keeps old.grid.format f (samples_of old) (samples_of mid) (samples_of new) so.kept kept;
    }
