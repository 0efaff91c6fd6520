use Rattle.std.proofs.Common.{arith}
use Rattle.apv_transform.proofs.Blocks.{sums_are_halved, coefficients_within, block_is, block_within}
use Rattle.apv_transform.proofs.Passes.{lanes_wider}
use Rattle.apv_transform.proofs.transform.forward.Goals as goal

pub column_frequencies-requires : goal.column_frequencies-requires
column_frequencies-requires c =
    sums_are_halved c.args.samples.now c.args.depth c.requires.depth.0 c.requires.depth.1 c.requires.samples c.residual_rows.result c.sum_rows-sums.result c.residual_rows.ensures.value c.sum_rows-sums.ensures.value

pub saturated_rows-requires : goal.saturated_rows-requires
saturated_rows-requires c =
    lanes_wider c.column_frequencies.result (coefficients_within c.args.samples.now c.args.depth c.requires.depth.0 c.requires.depth.1 c.requires.samples c.residual_rows.result c.sum_rows-sums.result c.residual_rows.ensures.value c.sum_rows-sums.ensures.value
    c.column_frequencies.result c.column_frequencies.ensures) (omega arith)

pub returns : goal.returns
returns c = record {
  value = block_is c.args.samples.now c.args.depth c.requires.depth.0 c.requires.depth.1 c.requires.samples c.residual_rows.result c.sum_rows-sums.result c.residual_rows.ensures.value c.sum_rows-sums.ensures.value
      c.column_frequencies.result c.column_frequencies.ensures c.saturated_rows.result c.block_of_coefficients.result c.saturated_rows.ensures.value c.block_of_coefficients.ensures;
  bound = block_within c.args.samples.now c.args.depth c.requires.depth.0 c.requires.depth.1 c.requires.samples c.residual_rows.result c.sum_rows-sums.result c.residual_rows.ensures.value c.sum_rows-sums.ensures.value
      c.column_frequencies.result c.column_frequencies.ensures c.saturated_rows.result c.block_of_coefficients.result c.saturated_rows.ensures.value c.block_of_coefficients.ensures;
}
