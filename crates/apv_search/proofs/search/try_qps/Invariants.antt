use Rattle.apv_search.proofs.SearchLemmas.{AreTried}
use Rattle.apv_search.proofs.search.try_qps.Given as goal

abbrev pub invariant-loop-qp : goal.invariant-loop-qp
invariant-loop-qp g l = AreTried l.fn.fixed l.fn.tracks l.fn.range l.fn.limit l.qp l.smallest l.tracks
