use Rattle.std.proofs.Common.{◌∙◌, arith}
use Rattle.apv_encoding.specs.Generated.{generated_picture}
use Rattle.apv_generated.proofs.SampleLemmas.{keeps-as, keeps-keeps, columns-more}
use Rattle.apv_grid.specs.Buffer.{samples_of}
use Rattle.apv_generated.proofs.picture.put_row.Goals as goal

pub loop-x-preserved : goal.loop-x-preserved
loop-x-preserved c =
    let g = c.args in
    let old = g.frame.now in
    let mid = c.loop-x.frame in
    let new = c.put_piece.new.frame in
    let f = generated_picture g.seed g.number in
    let so = c.loop-x.invariant in
    let kept = keeps-as f old mid new so.grid c.put_piece.ensures.kept in
    record {
      inside = omega arith;
      grid = c.put_piece.ensures.grid ∙ so.grid;
      row = columns-more old.grid.format f (samples_of mid) (samples_of new) g.comp g.y c.loop-x.x c.min-count.result c.requires.comp c.requires.y (omega arith) so.row c.put_piece.ensures.row kept;
      kept = keeps-keeps old.grid.format f (samples_of old) (samples_of mid) (samples_of new) so.kept kept;
    }
