use Rattle.std.proofs.Common.{arith}
use Rattle.apv_grid.proofs.RowLemmas.{filled-small, strip-segment}
use Rattle.apv_grid.proofs.rows.segment_at.Goals as goal

pub returns : goal.returns
returns c =
    let strip = c.strip-strip.result in
    let is = c.strip-strip.ensures in
    record {
      some = (omega arith, omega arith);
      small = omega (arith, filled-small c.args.grid.now c.args.comp c.requires.sound, is.filled);
      segment = strip-segment c.args.grid.now c.args.comp c.args.x c.args.y strip.first strip.end strip.start strip.half _ c.requires.comp c.requires.y is.half (omega arith) (omega arith) is.filled is.strip;
    }
