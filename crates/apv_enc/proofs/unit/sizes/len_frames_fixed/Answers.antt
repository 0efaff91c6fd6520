use Rattle.std.proofs.Common.{arith}
use Rattle.apv_enc.proofs.FixedSizeLemmas.{fixed-all, fixed-more}
use Rattle.apv_enc.proofs.ListPlaceLemmas.{from-item}
use Rattle.apv_enc.proofs.unit.sizes.len_frames_fixed.Goals as goal

pub loop-track-preserved : goal.loop-track-preserved
loop-track-preserved c = record {
  size = fixed-more c.args.tracks.now c.loop-track.track-index c.loop-track.total c.len_fixed-total.result c.track-item.result (from-item c.args.tracks.now c.loop-track.track-index c.track-item.result (omega (arith, c.loop-track-test.true)) c.track-item.is)
      c.len_fixed-total.ensures.size c.loop-track.invariant.size;
  few = omega (arith, c.loop-track.invariant.few, c.len_fixed-total.ensures.few);
}

pub returns-clause-size : goal.returns-clause-size
returns-clause-size c = fixed-all c.args.tracks.now c.loop-track.track-index c.loop-track.total (omega (arith, c.loop-track-test.false)) c.loop-track.invariant.size
