use Rattle.std.specs.Prelude.{pos}
use Rattle.apv_transform.specs.Lanes.{lane_at}
use Rattle.apv_transform.proofs.Stored.{filled_first, filled_more}
use Rattle.apv_transform.proofs.rows.block_of_coefficients.Goals as goal

pub returns : goal.returns
returns c =
    let F = lane_at c.args.rows.now in
    let rows_1 = filled_first (pos 0) F c.set_coefficient_row.new.coeffs c.set_coefficient_row.ensures.written in
    let rows_2 = filled_more (pos 0) F 1 c.set_coefficient_row.new.coeffs c.set_coefficient_row-2.new.coeffs rows_1 c.set_coefficient_row-2.ensures.kept c.set_coefficient_row-2.ensures.written in
    let rows_3 = filled_more (pos 0) F 2 c.set_coefficient_row-2.new.coeffs c.set_coefficient_row-3.new.coeffs rows_2 c.set_coefficient_row-3.ensures.kept c.set_coefficient_row-3.ensures.written in
    let rows_4 = filled_more (pos 0) F 3 c.set_coefficient_row-3.new.coeffs c.set_coefficient_row-4.new.coeffs rows_3 c.set_coefficient_row-4.ensures.kept c.set_coefficient_row-4.ensures.written in
    let rows_5 = filled_more (pos 0) F 4 c.set_coefficient_row-4.new.coeffs c.set_coefficient_row-5.new.coeffs rows_4 c.set_coefficient_row-5.ensures.kept c.set_coefficient_row-5.ensures.written in
    let rows_6 = filled_more (pos 0) F 5 c.set_coefficient_row-5.new.coeffs c.set_coefficient_row-6.new.coeffs rows_5 c.set_coefficient_row-6.ensures.kept c.set_coefficient_row-6.ensures.written in
    let rows_7 = filled_more (pos 0) F 6 c.set_coefficient_row-6.new.coeffs c.set_coefficient_row-7.new.coeffs rows_6 c.set_coefficient_row-7.ensures.kept c.set_coefficient_row-7.ensures.written in
    let rows_8 = filled_more (pos 0) F 7 c.set_coefficient_row-7.new.coeffs c.set_coefficient_row-8.new.coeffs rows_7 c.set_coefficient_row-8.ensures.kept c.set_coefficient_row-8.ensures.written in
    rows_8
