use Rattle.std.proofs.Common.{◌≡◌, ℕ, ◌-◌, ◌^◌, ◌<◌, arith, w32, ap, ◌∙◌}
use Rattle.std.specs.Prelude.{pos, negsuc, ◌≤ℤ◌, unsigned_abs}
use Rattle.std.specs.Int.{int_max, int_min}
use mir.Syntax.{w16}
use Rattle.apv_base.specs.model.Quant.{clamped}
use Rattle.apv_transform.specs.Line.{value_at}
use Rattle.apv_transform.proofs.LaneBits.{holds_fitting, holds_lanes, holds_same, holds_any_same, holds_wider, lane_is, lanes_within, within_16}
use Rattle.apv_transform.proofs.LaneMoves.{holds_greater, holds_less, natural_asks, natural_lane}
use Rattle.apv_transform.proofs.Samples.{range_clamp, range_natural, maximum_within}
use Rattle.apv_transform.proofs.rows.sample_row.Goals as goal

pub saturated-requires : goal.saturated-requires
saturated-requires c = lanes_within w32 (holds_lanes w32 c.args.residuals (omega arith) c.requires.residuals (omega arith))

pub overflow_cast-result : goal.overflow_cast-result
overflow_cast-result c =
    let depth = c.args.depth in
    let low = c.requires.depth.0 in
    let high = c.requires.depth.1 in
    let sums = holds_fitting w16 c.saturated.result (omega arith) (within_16 c.saturated.result c.saturated.ensures.fits) c.saturated.ensures.fits in
    let zero = holds_any_same w16 8 {bound = 32768} (pos 0) (record { size = omega arith }) (record { sfits = omega arith }) in
    let most = holds_wider {n = 32768} (holds_same w16 8 c.maximum_sample.result (maximum_within depth low high c.maximum_sample.ensures) (omega arith)) (omega arith) in
    let residuals = lane_is w32 (holds_lanes w32 c.args.residuals (omega arith) c.requires.residuals (omega arith)) in
    let kept : (x : ℕ) → x < 8 → int_min c.maximum_sample.result (int_max (pos 0) (value_at c.saturated.result x)) ≡ clamped (pos 0) (pos (2 ^ depth - 1)) (value_at c.args.residuals x) =
    λ x small. ap (λ z. int_min c.maximum_sample.result (int_max (pos 0) z)) (c.saturated.ensures.value x small ∙ ap (clamped (negsuc 32767) (pos 32767)) (residuals x small))
    ∙ range_clamp depth (value_at c.args.residuals x) low high c.maximum_sample.ensures in
    let lanes = holds_less (holds_greater sums zero) most in
    let natural : (x : ℕ) → x < 8 → pos 0 ≤ℤ int_min c.maximum_sample.result (int_max (pos 0) (value_at c.saturated.result x)) =
    λ x small. rw (kept x small) (range_natural depth (value_at c.args.residuals x)) in
    natural_asks w16 w16 lanes natural (omega arith)

pub returns : goal.returns
returns c x small =
    let depth = c.args.depth in
    let low = c.requires.depth.0 in
    let high = c.requires.depth.1 in
    let sums = holds_fitting w16 c.saturated.result (omega arith) (within_16 c.saturated.result c.saturated.ensures.fits) c.saturated.ensures.fits in
    let zero = holds_any_same w16 8 {bound = 32768} (pos 0) (record { size = omega arith }) (record { sfits = omega arith }) in
    let most = holds_wider {n = 32768} (holds_same w16 8 c.maximum_sample.result (maximum_within depth low high c.maximum_sample.ensures) (omega arith)) (omega arith) in
    let residuals = lane_is w32 (holds_lanes w32 c.args.residuals (omega arith) c.requires.residuals (omega arith)) in
    let kept : (x : ℕ) → x < 8 → int_min c.maximum_sample.result (int_max (pos 0) (value_at c.saturated.result x)) ≡ clamped (pos 0) (pos (2 ^ depth - 1)) (value_at c.args.residuals x) =
    λ x small. ap (λ z. int_min c.maximum_sample.result (int_max (pos 0) z)) (c.saturated.ensures.value x small ∙ ap (clamped (negsuc 32767) (pos 32767)) (residuals x small))
    ∙ range_clamp depth (value_at c.args.residuals x) low high c.maximum_sample.ensures in
    let lanes = holds_less (holds_greater sums zero) most in
    let natural : (x : ℕ) → x < 8 → pos 0 ≤ℤ int_min c.maximum_sample.result (int_max (pos 0) (value_at c.saturated.result x)) =
    λ x small. rw (kept x small) (range_natural depth (value_at c.args.residuals x)) in
    natural_lane w16 w16 lanes natural (omega arith) x small ∙ ap unsigned_abs (kept x small)
