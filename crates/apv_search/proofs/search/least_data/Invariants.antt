use Rattle.std.proofs.Common.{◌≤◌, ◌^◌, ◌*◌}
use Rattle.apv_search.proofs.SkippedLemmas.{FirstLeast}
use Rattle.apv_search.proofs.search.least_data.Given as goal

abbrev pub invariant-loop-index : goal.invariant-loop-index
invariant-loop-index g l = record {
  first : FirstLeast l.fn.qp l.index l.fn.tracks l.tracks l.total;
  few : l.total ≤ l.index * 2 ^ 43;
}
