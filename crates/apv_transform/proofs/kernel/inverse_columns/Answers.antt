use Rattle.std.proofs.Common.{arith}
use Rattle.apv_transform.proofs.Passes.{lanes_wider, column_sums_are, column_sums_within}
use Rattle.apv_transform.proofs.kernel.inverse_columns.Goals as goal

pub inverse_lines-requires-clause-lines : goal.inverse_lines-requires-clause-lines
inverse_lines-requires-clause-lines c = lanes_wider c.args.coefficients.now c.requires (omega arith)

pub returns : goal.returns
returns c =
    let block = c.args.coefficients.now in
    record {
      value = column_sums_are block c.inverse_lines.result c.inverse_lines.ensures;
      bound = column_sums_within block c.inverse_lines.result c.requires c.inverse_lines.ensures;
    }
