use Rattle.std.proofs.Common.{◌+ℤ◌, ◌-◌, ◌^◌, pos, arith, w32, ap, ◌∙◌}
use Rattle.std.specs.Prelude.{unsigned_abs}
use Rattle.apv_base.specs.model.Quant.{clamped}
use Rattle.apv_transform.specs.Lanes.{lane_at}
use Rattle.apv_transform.proofs.LaneBits.{holds_element, holds_same, holds_sum, holds_wider, half_within, lane_is, lanes_within}
use Rattle.apv_transform.proofs.transform.wide_row.Goals as goal

pub sample_row-requires-clause-residuals : goal.sample_row-requires-clause-residuals
sample_row-requires-clause-residuals c =
    let row = holds_element w32 c.args.residuals.now c.args.row c.element.result c.element.ensures (omega arith) (omega arith) (c.requires.residuals c.args.row c.requires.row) (omega arith) in
    let half = holds_same w32 8 c.half-half.result (half_within c.from.result (omega arith) c.half-half.ensures) (omega arith) in
    lanes_within w32 (holds_wider {n = 1073741824} (holds_sum w32 row half (omega arith)) (omega arith))

pub returns : goal.returns
returns c x small =
    let row = holds_element w32 c.args.residuals.now c.args.row c.element.result c.element.ensures (omega arith) (omega arith) (c.requires.residuals c.args.row c.requires.row) (omega arith) in
    let half = holds_same w32 8 c.half-half.result (half_within c.from.result (omega arith) c.half-half.ensures) (omega arith) in
    c.sample_row.ensures x small
    ∙ ap (λ z. unsigned_abs (clamped (pos 0) (pos (2 ^ c.args.depth - 1)) z)) (lane_is w32 (holds_sum w32 row half (omega arith)) x small
    ∙ ap (λ h. lane_at c.args.residuals.now c.args.row x +ℤ h) (c.half-half.ensures ∙ ap (λ d. pos (2 ^ (d - 1))) c.from.ensures))
