use Rattle.std.proofs.Common.{arith}
use Rattle.apv_transform.proofs.Passes.{lanes_wider, coefficients_within}
use Rattle.apv_transform.proofs.kernel.forward_columns.Goals as goal

pub forward_lines-requires-clause-lines : goal.forward_lines-requires-clause-lines
forward_lines-requires-clause-lines c = lanes_wider c.args.sums.now c.requires (omega arith)

pub returns : goal.returns
returns c =
    record {
      value = c.forward_lines.ensures;
      bound = coefficients_within c.args.sums.now c.forward_lines.result c.requires c.forward_lines.ensures;
    }
