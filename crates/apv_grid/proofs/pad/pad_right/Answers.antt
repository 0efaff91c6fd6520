use Rattle.std.proofs.Common.{◌≡◌, ap, arith}
use Rattle.apv_base.specs.declared.format.Format.{Format}
use Rattle.apv_grid.proofs.PadLemmas.{edge-more, row-filled}
use Rattle.apv_grid.proofs.pad.pad_right.Goals as goal

pub loop-y-preserved : goal.loop-y-preserved
loop-y-preserved c =
    let g = c.args in
    let height : c.format-height.result.height ≡ g.grid.now.format.height = ap (λ (f : Format). f.height) c.format-height.ensures in
    edge-more g.grid.now g.comp c.loop-y.y g.values.now c.loop-y.values c.pad_row.new.values c.requires.comp c.pad_row.ensures.visible.0 c.pad_row.ensures.visible.1
    (row-filled g.grid.now c.loop-y.y (omega arith)) c.loop-y.invariant c.pad_row.ensures.row
