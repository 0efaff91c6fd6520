use Rattle.std.proofs.Common.{arith, w32}
use Rattle.apv_transform.proofs.LaneBits.{holds_lanes, eight_are, eight_within}
use Rattle.apv_transform.proofs.rows.wide_coefficient_rows.Goals as goal

pub returns : goal.returns
returns c =
    let row_0 = holds_lanes w32 c.wide_coefficient_row.result (omega arith) c.wide_coefficient_row.ensures.bound (omega arith) in
    let row_1 = holds_lanes w32 c.wide_coefficient_row-2.result (omega arith) c.wide_coefficient_row-2.ensures.bound (omega arith) in
    let row_2 = holds_lanes w32 c.wide_coefficient_row-3.result (omega arith) c.wide_coefficient_row-3.ensures.bound (omega arith) in
    let row_3 = holds_lanes w32 c.wide_coefficient_row-4.result (omega arith) c.wide_coefficient_row-4.ensures.bound (omega arith) in
    let row_4 = holds_lanes w32 c.wide_coefficient_row-5.result (omega arith) c.wide_coefficient_row-5.ensures.bound (omega arith) in
    let row_5 = holds_lanes w32 c.wide_coefficient_row-6.result (omega arith) c.wide_coefficient_row-6.ensures.bound (omega arith) in
    let row_6 = holds_lanes w32 c.wide_coefficient_row-7.result (omega arith) c.wide_coefficient_row-7.ensures.bound (omega arith) in
    let row_7 = holds_lanes w32 c.wide_coefficient_row-8.result (omega arith) c.wide_coefficient_row-8.ensures.bound (omega arith) in
    record {
      value = eight_are w32 c.eight.result c.eight.ensures row_0 row_1 row_2 row_3 row_4 row_5 row_6 row_7 _
          c.wide_coefficient_row.ensures.value c.wide_coefficient_row-2.ensures.value c.wide_coefficient_row-3.ensures.value c.wide_coefficient_row-4.ensures.value c.wide_coefficient_row-5.ensures.value c.wide_coefficient_row-6.ensures.value c.wide_coefficient_row-7.ensures.value c.wide_coefficient_row-8.ensures.value;
      bound = eight_within w32 c.eight.result c.eight.ensures row_0 row_1 row_2 row_3 row_4 row_5 row_6 row_7;
    }
