use Rattle.std.proofs.Common.{arith}
use Rattle.apv_grid.proofs.PadLemmas.{piece-more}
use Rattle.apv_grid.proofs.pad.copy_row.Goals as goal

pub loop-x-preserved : goal.loop-x-preserved
loop-x-preserved c =
    let g = c.args in
    record {
      range = omega arith;
      copied = piece-more g.grid.now g.comp g.from g.to c.loop-x.x c.min-n.result g.values.now c.loop-x.values c.copy_piece.new.values c.requires.comp c.requires.from c.requires.apart c.loop-x.invariant.copied c.copy_piece.ensures;
    }
