use Rattle.std.proofs.Common.{arith}
use Rattle.apv_quant.proofs.StepLemmas.{step_multiple}
use Rattle.apv_quant.proofs.scale.Scale.of.Goals as goal

pub of-halves-requires-clause-multiples : goal.of-halves-requires-clause-multiples
of-halves-requires-clause-multiples c = λ place h.
    rw (c.steps-2.ensures.is, c.of-scaling.ensures.each place h) (step_multiple _ c.args.qp c.common_power-power.result (omega arith))
