use Rattle.std.proofs.Common.{arith}
use mir.Syntax.{w16}
use Rattle.apv_transform.specs.Lanes.{lane_at}
use Rattle.apv_transform.proofs.LaneBits.{lanes_fit, holds_element_16, lane_is}
use Rattle.apv_transform.proofs.LaneMoves.{holds_less, less_of_8}
use Rattle.apv_transform.proofs.rows.minimum_lanes.Goals as goal

pub returns : goal.returns
returns c =
    let rows = c.args.rows.now in
    let row_0 = holds_element_16 rows 0 c.element-row_0.result c.element-row_0.ensures (omega arith) (omega arith) (c.requires 0 (omega arith)) in
    let row_1 = holds_element_16 rows 1 c.element-row_1.result c.element-row_1.ensures (omega arith) (omega arith) (c.requires 1 (omega arith)) in
    let row_2 = holds_element_16 rows 2 c.element-row_2.result c.element-row_2.ensures (omega arith) (omega arith) (c.requires 2 (omega arith)) in
    let row_3 = holds_element_16 rows 3 c.element-row_3.result c.element-row_3.ensures (omega arith) (omega arith) (c.requires 3 (omega arith)) in
    let row_4 = holds_element_16 rows 4 c.element-row_4.result c.element-row_4.ensures (omega arith) (omega arith) (c.requires 4 (omega arith)) in
    let row_5 = holds_element_16 rows 5 c.element-row_5.result c.element-row_5.ensures (omega arith) (omega arith) (c.requires 5 (omega arith)) in
    let row_6 = holds_element_16 rows 6 c.element-row_6.result c.element-row_6.ensures (omega arith) (omega arith) (c.requires 6 (omega arith)) in
    let row_7 = holds_element_16 rows 7 c.element-row_7.result c.element-row_7.ensures (omega arith) (omega arith) (c.requires 7 (omega arith)) in
    let low = holds_less (holds_less row_0 row_1) (holds_less row_2 row_3) in
    let high = holds_less (holds_less row_4 row_5) (holds_less row_6 row_7) in
    record {
      bound = λ u v hu hv. rw (lane_is w16 (holds_less low high) v hv) (less_of_8 (λ u. lane_at rows u v) u hu);
      fits = lanes_fit w16 (holds_less low high);
    }
