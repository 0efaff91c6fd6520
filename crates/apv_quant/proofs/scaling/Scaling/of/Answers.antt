use Rattle.std.proofs.Common.{arith}
use Rattle.apv_quant.proofs.StepLemmas.{step_multiple}
use Rattle.apv_quant.proofs.scaling.Scaling.of.Goals as goal

pub of-requires-clause-multiples : goal.of-requires-clause-multiples
of-requires-clause-multiples c = λ place h. rw (c.steps_of-steps.ensures.each place h) (step_multiple _ c.args.qp c.common_power.result (omega arith))
