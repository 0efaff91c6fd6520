use Rattle.std.proofs.Common.{◌≡◌, ap, arith}
use Rattle.apv_base.specs.declared.format.Format.{Format}
use Rattle.apv_grid.proofs.PadLemmas.{row-more}
use Rattle.apv_grid.proofs.pad.pad_below.Goals as goal

pub loop-y-preserved : goal.loop-y-preserved
loop-y-preserved c =
    let g = c.args in
    let height : c.format-height.result.height ≡ g.grid.now.format.height = ap (λ (f : Format). f.height) c.format-height.ensures in
    rw height (row-more g.grid.now g.comp c.loop-y.y g.values.now c.loop-y.values c.copy_row.new.values c.requires.comp c.filled_height-y-end.ensures.visible.0 (omega arith) (omega arith)
    (rw height at c.loop-y.invariant) (rw height at c.copy_row.ensures))
