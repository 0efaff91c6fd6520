use Rattle.apv_grid.proofs.PadLemmas.{component-more}
use Rattle.apv_grid.proofs.pad.pad.Goals as goal

pub loop-comp-preserved : goal.loop-comp-preserved
loop-comp-preserved c =
    component-more c.args.grid.now c.loop-comp.comp c.args.values.now c.loop-comp.values c.pad_component.new.values c.loop-comp.invariant c.pad_component.ensures
