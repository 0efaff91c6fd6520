use Rattle.apv_quant.proofs.ReachingLemmas.{reach_by}
use Rattle.std.proofs.Common.{arith}
use Rattle.apv_quant.proofs.reaching.sizes_reaching.Goals as goal

pub returns-clause-each : goal.returns-clause-each
returns-clause-each c =
    reach_by c.args.matrix.now c.args.qp c.args.depth c.maximum_step-step.result c.loop-index.sizes c.maximum_step-step.ensures.matrix c.maximum_step-step.ensures.each
    (λ index lt. c.loop-index.invariant.each index (omega (arith, lt, c.loop-index-test.false)))
