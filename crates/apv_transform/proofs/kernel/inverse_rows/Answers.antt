use Rattle.std.proofs.Common.{arith}
use Rattle.apv_transform.proofs.Passes.{lanes_wider, residuals_are, residuals_within}
use Rattle.apv_transform.proofs.kernel.inverse_rows.Goals as goal

pub inverse_lines-requires-clause-lines : goal.inverse_lines-requires-clause-lines
inverse_lines-requires-clause-lines c = lanes_wider c.args.sums.now c.requires.sums (omega arith)

pub returns : goal.returns
returns c =
    let block = c.args.sums.now in
    let low = c.requires.depth.0 in
    let high = c.requires.depth.1 in
    record {
      value = residuals_are block c.inverse_lines.result c.args.depth c.from.result low high c.from.ensures c.inverse_lines.ensures;
      bound = residuals_within block c.inverse_lines.result c.args.depth c.from.result low high c.from.ensures c.requires.sums c.inverse_lines.ensures;
    }
