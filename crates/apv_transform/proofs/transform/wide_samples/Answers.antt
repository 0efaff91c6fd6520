use Rattle.std.proofs.Common.{◌≡◌, ℕ, ◌<◌, ap, ◌∙◌}
use Rattle.apv_base.specs.model.Transform.{column_sum, coefficient_at}
use Rattle.apv_transform.specs.Lanes.{lane_at}
use Rattle.apv_transform.specs.Sample.{sample_of_residual, AreSamplesOfSums}
use Rattle.apv_transform.proofs.Blocks.{rows_make, transposed_within, second_pass, samples_are, samples_below, column_sum_same}
use Rattle.apv_transform.proofs.transform.wide_samples.Goals as goal

pub inverse_rows-requires-clause-sums : goal.inverse_rows-requires-clause-sums
inverse_rows-requires-clause-sums c = transposed_within c.inverse_columns-sums.result c.transpose.result c.transpose.ensures c.inverse_columns-sums.ensures.bound

pub returns : goal.returns
returns c =
    let depth = c.args.depth in
    let d = coefficient_at c.args.coeffs.now in
    let sums = c.inverse_columns-sums in
    let result = c.block_of_samples.result in
    let rows = rows_make c.eight.result result c.eight.ensures (λ y x. sample_of_residual (lane_at c.transpose-residuals.result y x) depth)
    c.wide_row.ensures c.wide_row-2.ensures c.wide_row-3.ensures c.wide_row-4.ensures c.wide_row-5.ensures c.wide_row-6.ensures c.wide_row-7.ensures c.wide_row-8.ensures c.block_of_samples.ensures in
    let samples : AreSamplesOfSums depth sums.result result =
    λ y x hy hx. rows y x hy hx
    ∙ ap (λ r. sample_of_residual r depth) (second_pass depth sums.result c.transpose.result c.inverse_rows.result c.transpose-residuals.result
    c.transpose.ensures c.inverse_rows.ensures.value c.transpose-residuals.ensures y x hy hx) in
    let are : (y v : ℕ) → y < 8 → v < 8 → lane_at sums.result y v ≡ column_sum d y v =
    λ y v hy hv. sums.ensures.value y v hy hv ∙ column_sum_same _ d y v (λ u hu. c.wide_coefficient_rows.ensures.value u v hu hv) in
    record {
      value = samples_are sums.result depth result samples d are;
      bound = samples_below sums.result depth result samples c.requires.depth.0 c.requires.depth.1;
    }
