use Rattle.std.proofs.Common.{◌≡◌, ℕ, ◌-◌, [], ◌∷◌, arith, w32, ap, ap₂, ◌∙◌}
use Rattle.std.specs.Prelude.{ℤ, pos, negsuc, ◌+ℤ◌}
use Rattle.std.specs.Int.{int_shr}
use Rattle.std.proofs.lemmas.Int.{ints}
use mir.Syntax.{w16}
use Rattle.apv_base.specs.model.Quant.{clamped}
use Rattle.apv_transform.specs.Lanes.{lane_at}
use Rattle.apv_transform.specs.Pass.{forward_of}
use Rattle.apv_transform.proofs.LaneBits.{holds_fitting, holds_lanes, holds_same, holds_sum, holds_halved, half_within, lane_is, lanes_fit, lanes_within, within_16}
use Rattle.apv_transform.proofs.LaneMoves.{holds_picked}
use Rattle.apv_transform.proofs.Passes.{forward_row_within, unclamped}
use Rattle.apv_transform.proofs.Places.{each_of_8}
use Rattle.apv_transform.proofs.pairs.sum_row.Goals as goal

pub saturated-requires : goal.saturated-requires
saturated-requires c =
    let shift : ℕ = c.from-shift.result - 6 in
    let low = holds_lanes w32 c.weighted_row-low.result (omega arith) c.weighted_row-low.ensures.bound (omega arith) in
    let high = holds_lanes w32 c.weighted_row-high.result (omega arith) c.weighted_row-high.ensures.bound (omega arith) in
    let joined = holds_picked low high (0 ∷ 1 ∷ 2 ∷ 3 ∷ 4 ∷ 5 ∷ 6 ∷ 7 ∷ []) tt in
    let half = holds_same w32 8 c.half.result (half_within shift (omega arith) c.half.ensures) (omega arith) in
    let sums = holds_halved (holds_sum w32 joined half (omega arith)) (omega arith) shift (omega arith) in
    lanes_within w32 sums

pub returns : goal.returns
returns c =
    let shift : ℕ = c.from-shift.result - 6 in
    let low = holds_lanes w32 c.weighted_row-low.result (omega arith) c.weighted_row-low.ensures.bound (omega arith) in
    let high = holds_lanes w32 c.weighted_row-high.result (omega arith) c.weighted_row-high.ensures.bound (omega arith) in
    let joined = holds_picked low high (0 ∷ 1 ∷ 2 ∷ 3 ∷ 4 ∷ 5 ∷ 6 ∷ 7 ∷ []) tt in
    let half = holds_same w32 8 c.half.result (half_within shift (omega arith) c.half.ensures) (omega arith) in
    let sums = holds_halved (holds_sum w32 joined half (omega arith)) (omega arith) shift (omega arith) in
    let e = lane_at c.args.residuals.now c.args.row in
    let add = λ (s h : ℤ). int_shr (s +ℤ h) shift in
    let last = λ (v : ℕ). ap (λ d. forward_of (d - 6) e v) c.from-shift.ensures in
    let exact = each_of_8 (λ v. clamped (negsuc 32767) (pos 32767) (forward_of (c.args.depth - 6) e v) ≡ forward_of (c.args.depth - 6) e v)
    (unclamped _ (forward_row_within e c.args.depth c.requires.depth.0 c.requires.depth.1 c.requires.residuals 0 (omega arith))) (unclamped _ (forward_row_within e c.args.depth c.requires.depth.0 c.requires.depth.1 c.requires.residuals 1 (omega arith))) (unclamped _ (forward_row_within e c.args.depth c.requires.depth.0 c.requires.depth.1 c.requires.residuals 2 (omega arith))) (unclamped _ (forward_row_within e c.args.depth c.requires.depth.0 c.requires.depth.1 c.requires.residuals 3 (omega arith))) (unclamped _ (forward_row_within e c.args.depth c.requires.depth.0 c.requires.depth.1 c.requires.residuals 4 (omega arith))) (unclamped _ (forward_row_within e c.args.depth c.requires.depth.0 c.requires.depth.1 c.requires.residuals 5 (omega arith))) (unclamped _ (forward_row_within e c.args.depth c.requires.depth.0 c.requires.depth.1 c.requires.residuals 6 (omega arith))) (unclamped _ (forward_row_within e c.args.depth c.requires.depth.0 c.requires.depth.1 c.requires.residuals 7 (omega arith))) in
    let row = holds_fitting w16 c.saturated.result (omega arith) (within_16 c.saturated.result c.saturated.ensures.fits) c.saturated.ensures.fits in
    record {
      value = each_of_8 _
          (lane_is w16 row 0 (omega arith) ∙ c.saturated.ensures.value 0 (omega arith) ∙ ap (clamped (negsuc 32767) (pos 32767))
          (lane_is w32 sums 0 (omega arith) ∙ ap₂ add (c.weighted_row-low.ensures.value 0 (omega arith) ∙ omega (arith, ints)) c.half.ensures ∙ last 0) ∙ exact 0 (omega arith))
          (lane_is w16 row 1 (omega arith) ∙ c.saturated.ensures.value 1 (omega arith) ∙ ap (clamped (negsuc 32767) (pos 32767))
          (lane_is w32 sums 1 (omega arith) ∙ ap₂ add (c.weighted_row-low.ensures.value 1 (omega arith) ∙ omega (arith, ints)) c.half.ensures ∙ last 1) ∙ exact 1 (omega arith))
          (lane_is w16 row 2 (omega arith) ∙ c.saturated.ensures.value 2 (omega arith) ∙ ap (clamped (negsuc 32767) (pos 32767))
          (lane_is w32 sums 2 (omega arith) ∙ ap₂ add (c.weighted_row-low.ensures.value 2 (omega arith) ∙ omega (arith, ints)) c.half.ensures ∙ last 2) ∙ exact 2 (omega arith))
          (lane_is w16 row 3 (omega arith) ∙ c.saturated.ensures.value 3 (omega arith) ∙ ap (clamped (negsuc 32767) (pos 32767))
          (lane_is w32 sums 3 (omega arith) ∙ ap₂ add (c.weighted_row-low.ensures.value 3 (omega arith) ∙ omega (arith, ints)) c.half.ensures ∙ last 3) ∙ exact 3 (omega arith))
          (lane_is w16 row 4 (omega arith) ∙ c.saturated.ensures.value 4 (omega arith) ∙ ap (clamped (negsuc 32767) (pos 32767))
          (lane_is w32 sums 4 (omega arith) ∙ ap₂ add (c.weighted_row-high.ensures.value 0 (omega arith) ∙ omega (arith, ints)) c.half.ensures ∙ last 4) ∙ exact 4 (omega arith))
          (lane_is w16 row 5 (omega arith) ∙ c.saturated.ensures.value 5 (omega arith) ∙ ap (clamped (negsuc 32767) (pos 32767))
          (lane_is w32 sums 5 (omega arith) ∙ ap₂ add (c.weighted_row-high.ensures.value 1 (omega arith) ∙ omega (arith, ints)) c.half.ensures ∙ last 5) ∙ exact 5 (omega arith))
          (lane_is w16 row 6 (omega arith) ∙ c.saturated.ensures.value 6 (omega arith) ∙ ap (clamped (negsuc 32767) (pos 32767))
          (lane_is w32 sums 6 (omega arith) ∙ ap₂ add (c.weighted_row-high.ensures.value 2 (omega arith) ∙ omega (arith, ints)) c.half.ensures ∙ last 6) ∙ exact 6 (omega arith))
          (lane_is w16 row 7 (omega arith) ∙ c.saturated.ensures.value 7 (omega arith) ∙ ap (clamped (negsuc 32767) (pos 32767))
          (lane_is w32 sums 7 (omega arith) ∙ ap₂ add (c.weighted_row-high.ensures.value 3 (omega arith) ∙ omega (arith, ints)) c.half.ensures ∙ last 7) ∙ exact 7 (omega arith));
      fits = lanes_fit w16 row;
    }
