use Rattle.std.proofs.Common.{arith}
use Rattle.apv_frame.specs.Coded.{track_tile}
use Rattle.apv_enc.proofs.FixedSizeLemmas.{tiles-more}
use Rattle.apv_enc.proofs.unit.sizes.len_frame.Goals as goal

pub loop-tile-preserved : goal.loop-tile-preserved
loop-tile-preserved c = record {
  size = omega (arith, c.loop-tile.invariant.size, c.len_tile-data.ensures.size, tiles-more (track_tile c.args.track.now) c.loop-tile.tile);
  few = omega (arith, c.loop-tile.invariant.few, c.len_tile-data.ensures.few);
}
