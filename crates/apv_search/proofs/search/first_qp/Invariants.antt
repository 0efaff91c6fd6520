use Rattle.std.proofs.Common.{◌-◌}
use Rattle.apv_search.proofs.SkippedLemmas.{AreSkipped}
use Rattle.apv_search.proofs.search.first_qp.Given as goal

abbrev pub invariant-loop-first : goal.invariant-loop-first
invariant-loop-first g l = AreSkipped l.fn.fixed l.fn.tracks l.fn.range l.fn.limit l.first l.last l.tracks

abbrev pub decreases-loop-first : goal.decreases-loop-first
decreases-loop-first g l = l.last - l.first
