use Rattle.std.proofs.Common.{arith, w32, [], ◌∷◌}
use mir.Syntax.{w16}
use Rattle.apv_transform.proofs.LaneBits.{holds_fitting, holds_lanes, holds_product, holds_sum, lane_is, lanes_within, within_16, within_fits}
use Rattle.apv_transform.proofs.LaneMoves.{holds_picked, holds_cast, cast_asks}
use Rattle.apv_transform.proofs.Places.{each_of_4}
use Rattle.apv_transform.proofs.pairs.multiply_add.Goals as goal

pub overflow_cast-products : goal.overflow_cast-products
overflow_cast-products c =
    let within = within_16 c.args.a c.requires.a in
    cast_asks w16 w32 (holds_fitting w16 c.args.a (omega arith) within c.requires.a) (within_fits w32 c.args.a within (omega arith))

pub overflow_cast-products-2 : goal.overflow_cast-products-2
overflow_cast-products-2 c =
    cast_asks w16 w32 (holds_lanes w16 c.args.weights (omega arith) c.requires.weights (omega arith)) (within_fits w32 c.args.weights c.requires.weights (omega arith))

pub returns : goal.returns
returns c =
    let within = within_16 c.args.a c.requires.a in
    let a = holds_cast w16 w32 (holds_fitting w16 c.args.a (omega arith) within c.requires.a) (within_fits w32 c.args.a within (omega arith)) in
    let weights = holds_cast w16 w32 (holds_lanes w16 c.args.weights (omega arith) c.requires.weights (omega arith))
    (within_fits w32 c.args.weights c.requires.weights (omega arith)) in
    let products = holds_product w32 a weights (omega arith) in
    let sums = holds_sum w32 (holds_picked products products (0 ∷ 2 ∷ 4 ∷ 6 ∷ []) tt) (holds_picked products products (1 ∷ 3 ∷ 5 ∷ 7 ∷ []) tt) (omega arith) in
    record {
      value = each_of_4 _ (lane_is w32 sums 0 (omega arith)) (lane_is w32 sums 1 (omega arith)) (lane_is w32 sums 2 (omega arith)) (lane_is w32 sums 3 (omega arith));
      bound = lanes_within w32 sums;
    }
