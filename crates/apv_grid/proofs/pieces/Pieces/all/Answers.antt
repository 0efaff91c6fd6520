use Rattle.std.proofs.Common.{length}
use Rattle.apv_grid.proofs.LayoutLemmas.{run-all}
use Rattle.apv_grid.proofs.pieces.Pieces.all.Goals as goal

pub invariant_of-result : goal.invariant_of-result
invariant_of-result g c =
    record { run = run-all c.args.grid c.tiles-count.result (length c.args.values.now) c.tiles-count.ensures.sound c.tiles-count.ensures.count c.requires }
