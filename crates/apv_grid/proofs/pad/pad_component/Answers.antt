use Rattle.apv_grid.proofs.PadLemmas.{component-padded}
use Rattle.apv_grid.proofs.pad.pad_component.Goals as goal

pub returns : goal.returns
returns c =
    let g = c.args in
    component-padded g.grid.now g.comp g.values.now c.pad_right.new.values c.pad_below.new.values c.pad_below.ensures.visible.0 c.pad_below.ensures.visible.1 c.pad_right.ensures c.pad_below.ensures.rows
