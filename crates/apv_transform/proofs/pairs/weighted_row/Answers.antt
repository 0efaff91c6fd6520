use Rattle.std.proofs.Common.{[], ◌∷◌, ◌∙◌, arith, w32}
use mir.Syntax.{w16}
use Rattle.apv_transform.proofs.LaneBits.{holds_element_16, holds_lanes, holds_sum, lane_is, lanes_fit, lanes_within}
use Rattle.apv_transform.proofs.LaneMoves.{holds_picked, same_pair, same_four}
use Rattle.apv_transform.proofs.Places.{each_of_4}
use Rattle.apv_transform.proofs.pairs.weighted_row.Goals as goal

pub multiply_add-sums_01-requires-clause-a : goal.multiply_add-sums_01-requires-clause-a
multiply_add-sums_01-requires-clause-a c =
    let lanes = holds_element_16 c.args.rows.now c.args.row c.element-lanes.result c.element-lanes.ensures (omega arith) (omega arith) (c.requires.rows c.args.row c.requires.row) in
    lanes_fit w16 (holds_picked lanes lanes (0 ∷ 1 ∷ 0 ∷ 1 ∷ 0 ∷ 1 ∷ 0 ∷ 1 ∷ []) tt)

pub multiply_add-sums_01-requires-clause-weights : goal.multiply_add-sums_01-requires-clause-weights
multiply_add-sums_01-requires-clause-weights c = lanes_within w16 (holds_lanes w16 c.args.weights_01 (omega arith) c.requires.weights_01 (omega arith))

pub multiply_add-sums_23-requires-clause-a : goal.multiply_add-sums_23-requires-clause-a
multiply_add-sums_23-requires-clause-a c =
    let lanes = holds_element_16 c.args.rows.now c.args.row c.element-lanes.result c.element-lanes.ensures (omega arith) (omega arith) (c.requires.rows c.args.row c.requires.row) in
    lanes_fit w16 (holds_picked lanes lanes (2 ∷ 3 ∷ 2 ∷ 3 ∷ 2 ∷ 3 ∷ 2 ∷ 3 ∷ []) tt)

pub multiply_add-sums_23-requires-clause-weights : goal.multiply_add-sums_23-requires-clause-weights
multiply_add-sums_23-requires-clause-weights c = lanes_within w16 (holds_lanes w16 c.args.weights_23 (omega arith) c.requires.weights_23 (omega arith))

pub multiply_add-sums_45-requires-clause-a : goal.multiply_add-sums_45-requires-clause-a
multiply_add-sums_45-requires-clause-a c =
    let lanes = holds_element_16 c.args.rows.now c.args.row c.element-lanes.result c.element-lanes.ensures (omega arith) (omega arith) (c.requires.rows c.args.row c.requires.row) in
    lanes_fit w16 (holds_picked lanes lanes (4 ∷ 5 ∷ 4 ∷ 5 ∷ 4 ∷ 5 ∷ 4 ∷ 5 ∷ []) tt)

pub multiply_add-sums_45-requires-clause-weights : goal.multiply_add-sums_45-requires-clause-weights
multiply_add-sums_45-requires-clause-weights c = lanes_within w16 (holds_lanes w16 c.args.weights_45 (omega arith) c.requires.weights_45 (omega arith))

pub multiply_add-sums_67-requires-clause-a : goal.multiply_add-sums_67-requires-clause-a
multiply_add-sums_67-requires-clause-a c =
    let lanes = holds_element_16 c.args.rows.now c.args.row c.element-lanes.result c.element-lanes.ensures (omega arith) (omega arith) (c.requires.rows c.args.row c.requires.row) in
    lanes_fit w16 (holds_picked lanes lanes (6 ∷ 7 ∷ 6 ∷ 7 ∷ 6 ∷ 7 ∷ 6 ∷ 7 ∷ []) tt)

pub multiply_add-sums_67-requires-clause-weights : goal.multiply_add-sums_67-requires-clause-weights
multiply_add-sums_67-requires-clause-weights c = lanes_within w16 (holds_lanes w16 c.args.weights_67 (omega arith) c.requires.weights_67 (omega arith))

pub returns : goal.returns
returns c =
    let lanes = holds_element_16 c.args.rows.now c.args.row c.element-lanes.result c.element-lanes.ensures (omega arith) (omega arith) (c.requires.rows c.args.row c.requires.row) in
    let pairs_01 = lane_is w16 (holds_picked lanes lanes (0 ∷ 1 ∷ 0 ∷ 1 ∷ 0 ∷ 1 ∷ 0 ∷ 1 ∷ []) tt) in
    let weights_01 = lane_is w16 (holds_lanes w16 c.args.weights_01 (omega arith) c.requires.weights_01 (omega arith)) in
    let sums_01 = holds_lanes w32 c.multiply_add-sums_01.result (omega arith) c.multiply_add-sums_01.ensures.bound (omega arith) in
    let pairs_23 = lane_is w16 (holds_picked lanes lanes (2 ∷ 3 ∷ 2 ∷ 3 ∷ 2 ∷ 3 ∷ 2 ∷ 3 ∷ []) tt) in
    let weights_23 = lane_is w16 (holds_lanes w16 c.args.weights_23 (omega arith) c.requires.weights_23 (omega arith)) in
    let sums_23 = holds_lanes w32 c.multiply_add-sums_23.result (omega arith) c.multiply_add-sums_23.ensures.bound (omega arith) in
    let pairs_45 = lane_is w16 (holds_picked lanes lanes (4 ∷ 5 ∷ 4 ∷ 5 ∷ 4 ∷ 5 ∷ 4 ∷ 5 ∷ []) tt) in
    let weights_45 = lane_is w16 (holds_lanes w16 c.args.weights_45 (omega arith) c.requires.weights_45 (omega arith)) in
    let sums_45 = holds_lanes w32 c.multiply_add-sums_45.result (omega arith) c.multiply_add-sums_45.ensures.bound (omega arith) in
    let pairs_67 = lane_is w16 (holds_picked lanes lanes (6 ∷ 7 ∷ 6 ∷ 7 ∷ 6 ∷ 7 ∷ 6 ∷ 7 ∷ []) tt) in
    let weights_67 = lane_is w16 (holds_lanes w16 c.args.weights_67 (omega arith) c.requires.weights_67 (omega arith)) in
    let sums_67 = holds_lanes w32 c.multiply_add-sums_67.result (omega arith) c.multiply_add-sums_67.ensures.bound (omega arith) in
    let sums = holds_sum w32 (holds_sum w32 sums_01 sums_23 (omega arith)) (holds_sum w32 sums_45 sums_67 (omega arith)) (omega arith) in
    record {
      value = each_of_4 _
          (lane_is w32 sums 0 (omega arith) ∙ same_four
          (same_pair (c.multiply_add-sums_01.ensures.value 0 (omega arith)) (pairs_01 0 (omega arith)) (weights_01 0 (omega arith)) (pairs_01 1 (omega arith)) (weights_01 1 (omega arith)))
          (same_pair (c.multiply_add-sums_23.ensures.value 0 (omega arith)) (pairs_23 0 (omega arith)) (weights_23 0 (omega arith)) (pairs_23 1 (omega arith)) (weights_23 1 (omega arith)))
          (same_pair (c.multiply_add-sums_45.ensures.value 0 (omega arith)) (pairs_45 0 (omega arith)) (weights_45 0 (omega arith)) (pairs_45 1 (omega arith)) (weights_45 1 (omega arith)))
          (same_pair (c.multiply_add-sums_67.ensures.value 0 (omega arith)) (pairs_67 0 (omega arith)) (weights_67 0 (omega arith)) (pairs_67 1 (omega arith)) (weights_67 1 (omega arith))))
          (lane_is w32 sums 1 (omega arith) ∙ same_four
          (same_pair (c.multiply_add-sums_01.ensures.value 1 (omega arith)) (pairs_01 2 (omega arith)) (weights_01 2 (omega arith)) (pairs_01 3 (omega arith)) (weights_01 3 (omega arith)))
          (same_pair (c.multiply_add-sums_23.ensures.value 1 (omega arith)) (pairs_23 2 (omega arith)) (weights_23 2 (omega arith)) (pairs_23 3 (omega arith)) (weights_23 3 (omega arith)))
          (same_pair (c.multiply_add-sums_45.ensures.value 1 (omega arith)) (pairs_45 2 (omega arith)) (weights_45 2 (omega arith)) (pairs_45 3 (omega arith)) (weights_45 3 (omega arith)))
          (same_pair (c.multiply_add-sums_67.ensures.value 1 (omega arith)) (pairs_67 2 (omega arith)) (weights_67 2 (omega arith)) (pairs_67 3 (omega arith)) (weights_67 3 (omega arith))))
          (lane_is w32 sums 2 (omega arith) ∙ same_four
          (same_pair (c.multiply_add-sums_01.ensures.value 2 (omega arith)) (pairs_01 4 (omega arith)) (weights_01 4 (omega arith)) (pairs_01 5 (omega arith)) (weights_01 5 (omega arith)))
          (same_pair (c.multiply_add-sums_23.ensures.value 2 (omega arith)) (pairs_23 4 (omega arith)) (weights_23 4 (omega arith)) (pairs_23 5 (omega arith)) (weights_23 5 (omega arith)))
          (same_pair (c.multiply_add-sums_45.ensures.value 2 (omega arith)) (pairs_45 4 (omega arith)) (weights_45 4 (omega arith)) (pairs_45 5 (omega arith)) (weights_45 5 (omega arith)))
          (same_pair (c.multiply_add-sums_67.ensures.value 2 (omega arith)) (pairs_67 4 (omega arith)) (weights_67 4 (omega arith)) (pairs_67 5 (omega arith)) (weights_67 5 (omega arith))))
          (lane_is w32 sums 3 (omega arith) ∙ same_four
          (same_pair (c.multiply_add-sums_01.ensures.value 3 (omega arith)) (pairs_01 6 (omega arith)) (weights_01 6 (omega arith)) (pairs_01 7 (omega arith)) (weights_01 7 (omega arith)))
          (same_pair (c.multiply_add-sums_23.ensures.value 3 (omega arith)) (pairs_23 6 (omega arith)) (weights_23 6 (omega arith)) (pairs_23 7 (omega arith)) (weights_23 7 (omega arith)))
          (same_pair (c.multiply_add-sums_45.ensures.value 3 (omega arith)) (pairs_45 6 (omega arith)) (weights_45 6 (omega arith)) (pairs_45 7 (omega arith)) (weights_45 7 (omega arith)))
          (same_pair (c.multiply_add-sums_67.ensures.value 3 (omega arith)) (pairs_67 6 (omega arith)) (weights_67 6 (omega arith)) (pairs_67 7 (omega arith)) (weights_67 7 (omega arith))));
      bound = lanes_within w32 sums;
    }
