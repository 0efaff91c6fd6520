use Rattle.std.proofs.Common.{◌-◌, ◌^◌, pos, arith, w32, ap, ◌∙◌}
use Rattle.std.specs.Prelude.{unsigned_abs}
use Rattle.apv_base.specs.model.Quant.{clamped}
use Rattle.apv_transform.proofs.LaneBits.{holds_lanes, lane_is, lanes_within}
use Rattle.apv_transform.proofs.transform.narrow_row.Goals as goal

pub sample_row-requires-clause-residuals : goal.sample_row-requires-clause-residuals
sample_row-requires-clause-residuals c = lanes_within w32 (holds_lanes w32 c.residual_row.result (omega arith) c.residual_row.ensures.bound (omega arith))

pub returns : goal.returns
returns c x small =
    let residuals = lane_is w32 (holds_lanes w32 c.residual_row.result (omega arith) c.residual_row.ensures.bound (omega arith)) in
    c.sample_row.ensures x small
    ∙ ap (λ z. unsigned_abs (clamped (pos 0) (pos (2 ^ c.args.depth - 1)) z)) (residuals x small ∙ c.residual_row.ensures.value x small)
