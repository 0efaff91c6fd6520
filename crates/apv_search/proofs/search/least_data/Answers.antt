use Rattle.std.proofs.Common.{arith, get_or}
use Rattle.apv_search.proofs.SkippedLemmas.{all-least, least-step, lengths-alone}
use Rattle.apv_search.proofs.search.least_data.Goals as goal

pub loop-index-preserved : goal.loop-index-preserved
loop-index-preserved g c = record {
  first = least-step c.args.qp c.loop-index.index c.args.tracks.now c.loop-index.tracks c.loop-index.total c.least_len_tiles-total.result c.index-tracks-index.result c.least_len_tiles-total.new.track
      (omega (arith, c.loop-index-test.true, c.loop-index.auto.tracks, c.loop-index.auto.index-end)) c.loop-index.invariant.first c.least_len_tiles-total.ensures.least
      (lengths-alone c.args.qp (get_or c.loop-index.tracks c.loop-index.index c.index-tracks-index.result) c.least_len_tiles-total.new.track c.least_len_tiles-total.ensures.others);
  few = omega (arith, c.loop-index.invariant.few, c.least_len_tiles-total.ensures.few);
}

pub returns-clause-least : goal.returns-clause-least
returns-clause-least g c =
    (all-least c.args.qp c.loop-index.index c.args.tracks.now c.loop-index.tracks c.loop-index.total (omega (arith, c.loop-index-test.false, c.loop-index.auto.tracks, c.loop-index.auto.index-end)) c.loop-index.auto.tracks c.loop-index.invariant.first).0

pub returns-clause-others : goal.returns-clause-others
returns-clause-others g c =
    (all-least c.args.qp c.loop-index.index c.args.tracks.now c.loop-index.tracks c.loop-index.total (omega (arith, c.loop-index-test.false, c.loop-index.auto.tracks, c.loop-index.auto.index-end)) c.loop-index.auto.tracks c.loop-index.invariant.first).1
