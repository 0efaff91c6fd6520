use Rattle.std.proofs.Common.{◌<◌, ◌^◌, arith}
use Rattle.std.proofs.Math.Nat.{mod-le}
use Rattle.apv_base.specs.model.Quant.{step_number}
use Rattle.apv_quant.proofs.StepLemmas.{step_below, step_within}
use Rattle.apv_quant.proofs.steps.step_of.Goals as goal

pub returns-clause-below : goal.returns-clause-below
returns-clause-below c =
    let small : step_number c.from.result c.args.qp < 2 ^ 27 =
    step_below c.from.result c.args.qp c.args.depth (omega arith) c.requires.depth.1 c.requires.qp in
    omega (arith, mod-le (step_number c.from.result c.args.qp) (2 ^ 32))

pub returns-clause-within : goal.returns-clause-within
returns-clause-within c =
    let small = step_within c.from.result c.args.qp c.args.depth (omega arith) c.requires.depth.0 c.requires.qp in
    omega (arith, mod-le (step_number c.from.result c.args.qp) (2 ^ 32))
