use Rattle.std.proofs.Common.{[], ◌∷◌, refl, arith, w32, ◌∙◌}
use Rattle.std.specs.Prelude.{ℤ, map}
use mir.Syntax.{w16}
use mir.Val.{of_z}
use Rattle.apv_transform.specs.Line.{IsBounded, value_at}
use Rattle.apv_transform.proofs.LaneBits.{lanes_fit, Holds, holds_element_16, holds_lanes, lane_is, lanes_within}
use Rattle.apv_transform.proofs.LaneMoves.{holds_picked, same_pair}
use Rattle.apv_transform.proofs.Places.{each_of_8}
use Rattle.apv_transform.proofs.pairs.weighted_pair.Goals as goal

pub multiply_add-low-requires-clause-a : goal.multiply_add-low-requires-clause-a
multiply_add-low-requires-clause-a c =
    let a = holds_element_16 c.args.rows.now c.args.first c.element-a.result c.element-a.ensures (omega arith) (omega arith) (c.requires.rows c.args.first c.requires.first) in
    let b = holds_element_16 c.args.rows.now c.args.second c.element-b.result c.element-b.ensures (omega arith) (omega arith) (c.requires.rows c.args.second c.requires.second) in
    lanes_fit w16 (holds_picked a b (0 ∷ 8 ∷ 1 ∷ 9 ∷ 2 ∷ 10 ∷ 3 ∷ 11 ∷ []) tt)

pub multiply_add-high-requires-clause-a : goal.multiply_add-high-requires-clause-a
multiply_add-high-requires-clause-a c =
    let a = holds_element_16 c.args.rows.now c.args.first c.element-a.result c.element-a.ensures (omega arith) (omega arith) (c.requires.rows c.args.first c.requires.first) in
    let b = holds_element_16 c.args.rows.now c.args.second c.element-b.result c.element-b.ensures (omega arith) (omega arith) (c.requires.rows c.args.second c.requires.second) in
    lanes_fit w16 (holds_picked a b (4 ∷ 12 ∷ 5 ∷ 13 ∷ 6 ∷ 14 ∷ 7 ∷ 15 ∷ []) tt)

-- p and q in turn
in_turn : (p q : ℤ) → IsBounded 89 p → IsBounded 89 q
    → Holds w16 8 89 (map (of_z w16) (p ∷ q ∷ p ∷ q ∷ p ∷ q ∷ p ∷ q ∷ [])) (value_at (p ∷ q ∷ p ∷ q ∷ p ∷ q ∷ p ∷ q ∷ []))
in_turn p q hp hq = holds_lanes w16 (p ∷ q ∷ p ∷ q ∷ p ∷ q ∷ p ∷ q ∷ []) refl (each_of_8 _ hp hq hp hq hp hq hp hq) (omega arith)

pub multiply_add-low-requires-clause-weights : goal.multiply_add-low-requires-clause-weights
multiply_add-low-requires-clause-weights c = lanes_within w16 (in_turn c.args.p c.args.q c.requires.p c.requires.q)

pub multiply_add-high-requires-clause-weights : goal.multiply_add-high-requires-clause-weights
multiply_add-high-requires-clause-weights c = lanes_within w16 (in_turn c.args.p c.args.q c.requires.p c.requires.q)

pub returns : goal.returns
returns c =
    let a = holds_element_16 c.args.rows.now c.args.first c.element-a.result c.element-a.ensures (omega arith) (omega arith) (c.requires.rows c.args.first c.requires.first) in
    let b = holds_element_16 c.args.rows.now c.args.second c.element-b.result c.element-b.ensures (omega arith) (omega arith) (c.requires.rows c.args.second c.requires.second) in
    let near = lane_is w16 (holds_picked a b (0 ∷ 8 ∷ 1 ∷ 9 ∷ 2 ∷ 10 ∷ 3 ∷ 11 ∷ []) tt) in
    let far = lane_is w16 (holds_picked a b (4 ∷ 12 ∷ 5 ∷ 13 ∷ 6 ∷ 14 ∷ 7 ∷ 15 ∷ []) tt) in
    let weight = lane_is w16 (in_turn c.args.p c.args.q c.requires.p c.requires.q) in
    let first = holds_lanes w32 c.multiply_add-low.result (omega arith) c.multiply_add-low.ensures.bound (omega arith) in
    let last = holds_lanes w32 c.multiply_add-high.result (omega arith) c.multiply_add-high.ensures.bound (omega arith) in
    let joined = holds_picked first last (0 ∷ 1 ∷ 2 ∷ 3 ∷ 4 ∷ 5 ∷ 6 ∷ 7 ∷ []) tt in
    let low = c.multiply_add-low.ensures.value in
    let high = c.multiply_add-high.ensures.value in
    record {
      value = each_of_8 _
          (lane_is w32 joined 0 (omega arith) ∙ same_pair (low 0 (omega arith)) (near 0 (omega arith)) (weight 0 (omega arith)) (near 1 (omega arith)) (weight 1 (omega arith)))
          (lane_is w32 joined 1 (omega arith) ∙ same_pair (low 1 (omega arith)) (near 2 (omega arith)) (weight 2 (omega arith)) (near 3 (omega arith)) (weight 3 (omega arith)))
          (lane_is w32 joined 2 (omega arith) ∙ same_pair (low 2 (omega arith)) (near 4 (omega arith)) (weight 4 (omega arith)) (near 5 (omega arith)) (weight 5 (omega arith)))
          (lane_is w32 joined 3 (omega arith) ∙ same_pair (low 3 (omega arith)) (near 6 (omega arith)) (weight 6 (omega arith)) (near 7 (omega arith)) (weight 7 (omega arith)))
          (lane_is w32 joined 4 (omega arith) ∙ same_pair (high 0 (omega arith)) (far 0 (omega arith)) (weight 0 (omega arith)) (far 1 (omega arith)) (weight 1 (omega arith)))
          (lane_is w32 joined 5 (omega arith) ∙ same_pair (high 1 (omega arith)) (far 2 (omega arith)) (weight 2 (omega arith)) (far 3 (omega arith)) (weight 3 (omega arith)))
          (lane_is w32 joined 6 (omega arith) ∙ same_pair (high 2 (omega arith)) (far 4 (omega arith)) (weight 4 (omega arith)) (far 5 (omega arith)) (weight 5 (omega arith)))
          (lane_is w32 joined 7 (omega arith) ∙ same_pair (high 3 (omega arith)) (far 6 (omega arith)) (weight 6 (omega arith)) (far 7 (omega arith)) (weight 7 (omega arith)));
      bound = lanes_within w32 joined;
    }
