use Rattle.std.proofs.Common.{◌≡◌, ℕ, ◌<◌, ◌∙◌}
use Rattle.apv_base.specs.model.Transform.{column_sum, coefficient_at}
use Rattle.apv_transform.specs.Lanes.{lane_at}
use Rattle.apv_transform.proofs.Blocks.{samples_are, samples_below, inner_is, column_sum_same}
use Rattle.apv_transform.proofs.transform.inverse.Goals as goal

pub returns-then-is_inner : goal.returns-then-is_inner
returns-then-is_inner c =
    let d = coefficient_at c.args.coeffs.now in
    let sums = c.column_sums in
    let narrow = c.saturated_rows-sums in
    let inner = c.is_inner.ensures c.if-is_inner.true in
    let are : (y v : ℕ) → y < 8 → v < 8 → lane_at narrow.result y v ≡ column_sum d y v =
    λ y v hy hv. inner_is (lane_at narrow.result y v) (lane_at sums.result y v) (narrow.ensures.value y v hy hv) (inner y hy v hv)
    ∙ sums.ensures.value y v hy hv ∙ column_sum_same _ d y v (λ u hu. c.coefficient_rows.ensures.value u v hu hv) in
    record {
      value = samples_are narrow.result c.args.depth c.narrow_samples.result c.narrow_samples.ensures d are;
      bound = samples_below narrow.result c.args.depth c.narrow_samples.result c.narrow_samples.ensures c.requires.depth.0 c.requires.depth.1;
    }
