use Rattle.std.proofs.Common.{ℕ, ◌-◌, [], ◌∷◌, refl, arith, w32, ap, ◌∙◌}
use Rattle.std.specs.Prelude.{◌*ℤ◌}
use mir.Syntax.{w16}
use Rattle.std.specs.Int.{int_shr}
use Rattle.apv_base.specs.model.Transform.{transform_entry, sum_8}
use Rattle.apv_transform.specs.Lanes.{lane_at}
use Rattle.apv_transform.proofs.LaneBits.{lanes_fit, holds_element_16, holds_lanes, holds_same, holds_sum, holds_difference, holds_halved, held_round, lane_is, lanes_within}
use Rattle.apv_transform.proofs.LaneMoves.{holds_picked, same_pair}
use Rattle.apv_transform.proofs.Places.{each_of_8}
use Rattle.apv_transform.proofs.Sums.{pairs_make}
use Rattle.apv_transform.proofs.Rounding.{rounded_with_half_range}
use Rattle.apv_transform.proofs.pairs.residual_row.Goals as goal

pub multiply_add-even_low-requires-clause-a : goal.multiply_add-even_low-requires-clause-a
multiply_add-even_low-requires-clause-a c =
    let sums = holds_element_16 c.args.rows.now c.args.row c.element-sums.result c.element-sums.ensures (omega arith) (omega arith) (c.requires.rows c.args.row c.requires.row) in
    lanes_fit w16 (holds_picked sums sums (0 ∷ 2 ∷ 0 ∷ 2 ∷ 0 ∷ 2 ∷ 0 ∷ 2 ∷ []) tt)

pub multiply_add-even_high-requires-clause-a : goal.multiply_add-even_high-requires-clause-a
multiply_add-even_high-requires-clause-a c =
    let sums = holds_element_16 c.args.rows.now c.args.row c.element-sums.result c.element-sums.ensures (omega arith) (omega arith) (c.requires.rows c.args.row c.requires.row) in
    lanes_fit w16 (holds_picked sums sums (4 ∷ 6 ∷ 4 ∷ 6 ∷ 4 ∷ 6 ∷ 4 ∷ 6 ∷ []) tt)

pub multiply_add-odd_low-requires-clause-a : goal.multiply_add-odd_low-requires-clause-a
multiply_add-odd_low-requires-clause-a c =
    let sums = holds_element_16 c.args.rows.now c.args.row c.element-sums.result c.element-sums.ensures (omega arith) (omega arith) (c.requires.rows c.args.row c.requires.row) in
    lanes_fit w16 (holds_picked sums sums (1 ∷ 3 ∷ 1 ∷ 3 ∷ 1 ∷ 3 ∷ 1 ∷ 3 ∷ []) tt)

pub multiply_add-odd_high-requires-clause-a : goal.multiply_add-odd_high-requires-clause-a
multiply_add-odd_high-requires-clause-a c =
    let sums = holds_element_16 c.args.rows.now c.args.row c.element-sums.result c.element-sums.ensures (omega arith) (omega arith) (c.requires.rows c.args.row c.requires.row) in
    lanes_fit w16 (holds_picked sums sums (5 ∷ 7 ∷ 5 ∷ 7 ∷ 5 ∷ 7 ∷ 5 ∷ 7 ∷ []) tt)

pub returns : goal.returns
returns c =
    let sums = holds_element_16 c.args.rows.now c.args.row c.element-sums.result c.element-sums.ensures (omega arith) (omega arith) (c.requires.rows c.args.row c.requires.row) in
    let pairs_even_low = lane_is w16 (holds_picked sums sums (0 ∷ 2 ∷ 0 ∷ 2 ∷ 0 ∷ 2 ∷ 0 ∷ 2 ∷ []) tt) in
    let pairs_even_high = lane_is w16 (holds_picked sums sums (4 ∷ 6 ∷ 4 ∷ 6 ∷ 4 ∷ 6 ∷ 4 ∷ 6 ∷ []) tt) in
    let pairs_odd_low = lane_is w16 (holds_picked sums sums (1 ∷ 3 ∷ 1 ∷ 3 ∷ 1 ∷ 3 ∷ 1 ∷ 3 ∷ []) tt) in
    let pairs_odd_high = lane_is w16 (holds_picked sums sums (5 ∷ 7 ∷ 5 ∷ 7 ∷ 5 ∷ 7 ∷ 5 ∷ 7 ∷ []) tt) in
    let even_low = holds_lanes w32 c.multiply_add-even_low.result (omega arith) c.multiply_add-even_low.ensures.bound (omega arith) in
    let even_high = holds_lanes w32 c.multiply_add-even_high.result (omega arith) c.multiply_add-even_high.ensures.bound (omega arith) in
    let odd_low = holds_lanes w32 c.multiply_add-odd_low.result (omega arith) c.multiply_add-odd_low.ensures.bound (omega arith) in
    let odd_high = holds_lanes w32 c.multiply_add-odd_high.result (omega arith) c.multiply_add-odd_high.ensures.bound (omega arith) in
    let shift : ℕ = 20 - c.from-shift.result in
    let round = held_round shift (omega arith) c.half.ensures in
    let even = holds_sum w32 (holds_sum w32 even_low even_high (omega arith)) (holds_same w32 4 _ round (omega arith)) (omega arith) in
    let odd = holds_sum w32 odd_low odd_high (omega arith) in
    let positions = holds_picked (holds_sum w32 even odd (omega arith)) (holds_difference w32 even odd (omega arith)) (0 ∷ 1 ∷ 2 ∷ 3 ∷ 7 ∷ 6 ∷ 5 ∷ 4 ∷ []) tt in
    let residuals = holds_halved positions (omega arith) shift (omega arith) in
    let g = lane_at c.args.rows.now c.args.row in
    let last = λ (x : ℕ). rounded_with_half_range c.args.depth c.from-shift.result (sum_8 (λ v. transform_entry v x *ℤ g v)) c.requires.depth.0 c.requires.depth.1 c.from-shift.ensures c.half.ensures in
    record {
      value = each_of_8 _
          (lane_is w32 residuals 0 (omega arith) ∙ ap (λ z. int_shr z shift) (pairs_make g _ _ _ _ _ 0 (omega arith)
          (same_pair (c.multiply_add-even_low.ensures.value 0 (omega arith)) (pairs_even_low 0 (omega arith)) refl (pairs_even_low 1 (omega arith)) refl) (same_pair (c.multiply_add-even_high.ensures.value 0 (omega arith)) (pairs_even_high 0 (omega arith)) refl (pairs_even_high 1 (omega arith)) refl) (same_pair (c.multiply_add-odd_low.ensures.value 0 (omega arith)) (pairs_odd_low 0 (omega arith)) refl (pairs_odd_low 1 (omega arith)) refl) (same_pair (c.multiply_add-odd_high.ensures.value 0 (omega arith)) (pairs_odd_high 0 (omega arith)) refl (pairs_odd_high 1 (omega arith)) refl)).0 ∙ last 0)
          (lane_is w32 residuals 1 (omega arith) ∙ ap (λ z. int_shr z shift) (pairs_make g _ _ _ _ _ 1 (omega arith)
          (same_pair (c.multiply_add-even_low.ensures.value 1 (omega arith)) (pairs_even_low 2 (omega arith)) refl (pairs_even_low 3 (omega arith)) refl) (same_pair (c.multiply_add-even_high.ensures.value 1 (omega arith)) (pairs_even_high 2 (omega arith)) refl (pairs_even_high 3 (omega arith)) refl) (same_pair (c.multiply_add-odd_low.ensures.value 1 (omega arith)) (pairs_odd_low 2 (omega arith)) refl (pairs_odd_low 3 (omega arith)) refl) (same_pair (c.multiply_add-odd_high.ensures.value 1 (omega arith)) (pairs_odd_high 2 (omega arith)) refl (pairs_odd_high 3 (omega arith)) refl)).0 ∙ last 1)
          (lane_is w32 residuals 2 (omega arith) ∙ ap (λ z. int_shr z shift) (pairs_make g _ _ _ _ _ 2 (omega arith)
          (same_pair (c.multiply_add-even_low.ensures.value 2 (omega arith)) (pairs_even_low 4 (omega arith)) refl (pairs_even_low 5 (omega arith)) refl) (same_pair (c.multiply_add-even_high.ensures.value 2 (omega arith)) (pairs_even_high 4 (omega arith)) refl (pairs_even_high 5 (omega arith)) refl) (same_pair (c.multiply_add-odd_low.ensures.value 2 (omega arith)) (pairs_odd_low 4 (omega arith)) refl (pairs_odd_low 5 (omega arith)) refl) (same_pair (c.multiply_add-odd_high.ensures.value 2 (omega arith)) (pairs_odd_high 4 (omega arith)) refl (pairs_odd_high 5 (omega arith)) refl)).0 ∙ last 2)
          (lane_is w32 residuals 3 (omega arith) ∙ ap (λ z. int_shr z shift) (pairs_make g _ _ _ _ _ 3 (omega arith)
          (same_pair (c.multiply_add-even_low.ensures.value 3 (omega arith)) (pairs_even_low 6 (omega arith)) refl (pairs_even_low 7 (omega arith)) refl) (same_pair (c.multiply_add-even_high.ensures.value 3 (omega arith)) (pairs_even_high 6 (omega arith)) refl (pairs_even_high 7 (omega arith)) refl) (same_pair (c.multiply_add-odd_low.ensures.value 3 (omega arith)) (pairs_odd_low 6 (omega arith)) refl (pairs_odd_low 7 (omega arith)) refl) (same_pair (c.multiply_add-odd_high.ensures.value 3 (omega arith)) (pairs_odd_high 6 (omega arith)) refl (pairs_odd_high 7 (omega arith)) refl)).0 ∙ last 3)
          (lane_is w32 residuals 4 (omega arith) ∙ ap (λ z. int_shr z shift) (pairs_make g _ _ _ _ _ 3 (omega arith)
          (same_pair (c.multiply_add-even_low.ensures.value 3 (omega arith)) (pairs_even_low 6 (omega arith)) refl (pairs_even_low 7 (omega arith)) refl) (same_pair (c.multiply_add-even_high.ensures.value 3 (omega arith)) (pairs_even_high 6 (omega arith)) refl (pairs_even_high 7 (omega arith)) refl) (same_pair (c.multiply_add-odd_low.ensures.value 3 (omega arith)) (pairs_odd_low 6 (omega arith)) refl (pairs_odd_low 7 (omega arith)) refl) (same_pair (c.multiply_add-odd_high.ensures.value 3 (omega arith)) (pairs_odd_high 6 (omega arith)) refl (pairs_odd_high 7 (omega arith)) refl)).1 ∙ last 4)
          (lane_is w32 residuals 5 (omega arith) ∙ ap (λ z. int_shr z shift) (pairs_make g _ _ _ _ _ 2 (omega arith)
          (same_pair (c.multiply_add-even_low.ensures.value 2 (omega arith)) (pairs_even_low 4 (omega arith)) refl (pairs_even_low 5 (omega arith)) refl) (same_pair (c.multiply_add-even_high.ensures.value 2 (omega arith)) (pairs_even_high 4 (omega arith)) refl (pairs_even_high 5 (omega arith)) refl) (same_pair (c.multiply_add-odd_low.ensures.value 2 (omega arith)) (pairs_odd_low 4 (omega arith)) refl (pairs_odd_low 5 (omega arith)) refl) (same_pair (c.multiply_add-odd_high.ensures.value 2 (omega arith)) (pairs_odd_high 4 (omega arith)) refl (pairs_odd_high 5 (omega arith)) refl)).1 ∙ last 5)
          (lane_is w32 residuals 6 (omega arith) ∙ ap (λ z. int_shr z shift) (pairs_make g _ _ _ _ _ 1 (omega arith)
          (same_pair (c.multiply_add-even_low.ensures.value 1 (omega arith)) (pairs_even_low 2 (omega arith)) refl (pairs_even_low 3 (omega arith)) refl) (same_pair (c.multiply_add-even_high.ensures.value 1 (omega arith)) (pairs_even_high 2 (omega arith)) refl (pairs_even_high 3 (omega arith)) refl) (same_pair (c.multiply_add-odd_low.ensures.value 1 (omega arith)) (pairs_odd_low 2 (omega arith)) refl (pairs_odd_low 3 (omega arith)) refl) (same_pair (c.multiply_add-odd_high.ensures.value 1 (omega arith)) (pairs_odd_high 2 (omega arith)) refl (pairs_odd_high 3 (omega arith)) refl)).1 ∙ last 6)
          (lane_is w32 residuals 7 (omega arith) ∙ ap (λ z. int_shr z shift) (pairs_make g _ _ _ _ _ 0 (omega arith)
          (same_pair (c.multiply_add-even_low.ensures.value 0 (omega arith)) (pairs_even_low 0 (omega arith)) refl (pairs_even_low 1 (omega arith)) refl) (same_pair (c.multiply_add-even_high.ensures.value 0 (omega arith)) (pairs_even_high 0 (omega arith)) refl (pairs_even_high 1 (omega arith)) refl) (same_pair (c.multiply_add-odd_low.ensures.value 0 (omega arith)) (pairs_odd_low 0 (omega arith)) refl (pairs_odd_low 1 (omega arith)) refl) (same_pair (c.multiply_add-odd_high.ensures.value 0 (omega arith)) (pairs_odd_high 0 (omega arith)) refl (pairs_odd_high 1 (omega arith)) refl)).1 ∙ last 7);
      bound = lanes_within w32 residuals;
    }
