use Rattle.std.proofs.Common.{arith}
use mir.Syntax.{w16}
use Rattle.apv_transform.proofs.LaneBits.{holds_fitting, eight_are, eight_fit, within_16}
use Rattle.apv_transform.proofs.rows.coefficient_rows.Goals as goal

pub returns : goal.returns
returns c =
    let row_0 = holds_fitting w16 c.coefficient_row.result (omega arith) (within_16 _ c.coefficient_row.ensures.fits) c.coefficient_row.ensures.fits in
    let row_1 = holds_fitting w16 c.coefficient_row-2.result (omega arith) (within_16 _ c.coefficient_row-2.ensures.fits) c.coefficient_row-2.ensures.fits in
    let row_2 = holds_fitting w16 c.coefficient_row-3.result (omega arith) (within_16 _ c.coefficient_row-3.ensures.fits) c.coefficient_row-3.ensures.fits in
    let row_3 = holds_fitting w16 c.coefficient_row-4.result (omega arith) (within_16 _ c.coefficient_row-4.ensures.fits) c.coefficient_row-4.ensures.fits in
    let row_4 = holds_fitting w16 c.coefficient_row-5.result (omega arith) (within_16 _ c.coefficient_row-5.ensures.fits) c.coefficient_row-5.ensures.fits in
    let row_5 = holds_fitting w16 c.coefficient_row-6.result (omega arith) (within_16 _ c.coefficient_row-6.ensures.fits) c.coefficient_row-6.ensures.fits in
    let row_6 = holds_fitting w16 c.coefficient_row-7.result (omega arith) (within_16 _ c.coefficient_row-7.ensures.fits) c.coefficient_row-7.ensures.fits in
    let row_7 = holds_fitting w16 c.coefficient_row-8.result (omega arith) (within_16 _ c.coefficient_row-8.ensures.fits) c.coefficient_row-8.ensures.fits in
    let rows = eight_are w16 c.eight.result c.eight.ensures row_0 row_1 row_2 row_3 row_4 row_5 row_6 row_7 _
    c.coefficient_row.ensures.value c.coefficient_row-2.ensures.value c.coefficient_row-3.ensures.value c.coefficient_row-4.ensures.value c.coefficient_row-5.ensures.value c.coefficient_row-6.ensures.value c.coefficient_row-7.ensures.value c.coefficient_row-8.ensures.value in
    record { value = rows; fits = eight_fit c.eight.result c.eight.ensures row_0 row_1 row_2 row_3 row_4 row_5 row_6 row_7 }
