use Rattle.std.proofs.Common.{arith}
use Rattle.apv_search.proofs.SearchLemmas.{first-step, all-first}
use Rattle.apv_search.proofs.search.code_at.Goals as goal

pub loop-index-preserved : goal.loop-index-preserved
loop-index-preserved g c = record {
  first = first-step c.args.qp c.loop-index.index c.args.tracks.now c.loop-index.tracks c.loop-index.total c.index-tracks-index.result c.code_track-total.new.track c.code_track-total.result
      (omega (arith, c.loop-index-test.true, c.loop-index.auto.tracks, c.loop-index.auto.index-end)) c.loop-index.invariant.first c.code_track-total.ensures.at_qp c.code_track-total.ensures.bytes;
  few = omega (arith, c.loop-index.invariant.few, c.code_track-total.ensures.few);
}

pub returns-clause-at_qp : goal.returns-clause-at_qp
returns-clause-at_qp g c =
    (all-first c.args.qp c.loop-index.index c.args.tracks.now c.loop-index.tracks c.loop-index.total (omega (arith, c.loop-index-test.false, c.loop-index.auto.tracks, c.loop-index.auto.index-end)) c.loop-index.auto.tracks c.loop-index.invariant.first).0

pub returns-clause-bytes : goal.returns-clause-bytes
returns-clause-bytes g c =
    (all-first c.args.qp c.loop-index.index c.args.tracks.now c.loop-index.tracks c.loop-index.total (omega (arith, c.loop-index-test.false, c.loop-index.auto.tracks, c.loop-index.auto.index-end)) c.loop-index.auto.tracks c.loop-index.invariant.first).1
