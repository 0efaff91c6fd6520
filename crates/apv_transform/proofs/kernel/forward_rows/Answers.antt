use Rattle.apv_transform.proofs.Passes.{residuals_small, row_sums_are, row_sums_within}
use Rattle.apv_transform.proofs.kernel.forward_rows.Goals as goal

pub forward_lines-requires-clause-lines : goal.forward_lines-requires-clause-lines
forward_lines-requires-clause-lines c = residuals_small c.args.depth c.args.residuals.now c.requires.depth.0 c.requires.depth.1 c.requires.residuals

pub returns : goal.returns
returns c =
    let block = c.args.residuals.now in
    let low = c.requires.depth.0 in
    let high = c.requires.depth.1 in
    record {
      value = row_sums_are block c.forward_lines.result c.args.depth c.from.result low high c.from.ensures c.forward_lines.ensures;
      bound = row_sums_within block c.forward_lines.result c.args.depth c.from.result low high c.from.ensures c.requires.residuals c.forward_lines.ensures;
    }
