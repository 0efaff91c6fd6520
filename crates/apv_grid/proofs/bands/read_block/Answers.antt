use Rattle.apv_grid.proofs.BandLemmas.{block-more}
use Rattle.apv_grid.proofs.bands.read_block.Goals as goal

pub loop-row-preserved : goal.loop-row-preserved
loop-row-preserved c =
    block-more c.args.values.now c.args.place c.loop-row.row c.args.rows c.args.stride c.args.at c.args.count c.args.out.now c.loop-row.out c.copy_up_to_8.new.to
    c.requires.columns c.loop-row.invariant c.copy_up_to_8.ensures.copies
