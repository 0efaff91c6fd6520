use Rattle.std.proofs.Common.{pos, [], ◌∷◌, refl, arith, w32}
use Rattle.apv_transform.proofs.LaneBits.{holds_lanes, holds_same, eight_within}
use Rattle.apv_transform.proofs.Blocks.{transposed_within}
use Rattle.apv_transform.proofs.Passes.{lanes_wider}
use Rattle.apv_transform.proofs.Places.{each_of_8}
use Rattle.apv_transform.proofs.tests.passes_give_worked_lanes.Goals as goal

pub forward_rows-sums-requires-clause-residuals : goal.forward_rows-sums-requires-clause-residuals
forward_rows-sums-requires-clause-residuals g c =
    let corner = holds_lanes w32 {bound = 512} (pos 511 ∷ pos 0 ∷ pos 0 ∷ pos 0 ∷ pos 0 ∷ pos 0 ∷ pos 0 ∷ pos 0 ∷ []) refl
    (each_of_8 _ (record { size = omega arith }) (record { size = omega arith }) (record { size = omega arith }) (record { size = omega arith }) (record { size = omega arith }) (record { size = omega arith }) (record { size = omega arith }) (record { size = omega arith })) (omega arith) in
    let zero = holds_same w32 8 {bound = 512} (pos 0) (record { size = omega arith }) (omega arith) in
    eight_within w32 c.eight-residuals.result c.eight-residuals.ensures corner zero zero zero zero zero zero zero

pub forward_columns-coeffs-requires : goal.forward_columns-coeffs-requires
forward_columns-coeffs-requires g c = transposed_within c.forward_rows-sums.result c.transpose.result c.transpose.ensures c.forward_rows-sums.ensures.bound

pub inverse_columns-columns-requires : goal.inverse_columns-columns-requires
inverse_columns-columns-requires g c = lanes_wider c.forward_columns-coeffs.result c.forward_columns-coeffs.ensures.bound (omega arith)

pub inverse_rows-rows-requires-clause-sums : goal.inverse_rows-rows-requires-clause-sums
inverse_rows-rows-requires-clause-sums g c =
    transposed_within c.inverse_columns-columns.result c.transpose-2.result c.transpose-2.ensures c.inverse_columns-columns.ensures.bound
