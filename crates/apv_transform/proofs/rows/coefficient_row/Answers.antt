use Rattle.std.proofs.Common.{arith, ◌∙◌}
use mir.Syntax.{w16}
use Rattle.apv_transform.specs.Lanes.{AreOf16Bits}
use Rattle.apv_transform.proofs.LaneBits.{holds_fitting, lane_is, lanes_fit, vector_fits, within_16}
use Rattle.apv_transform.proofs.rows.coefficient_row.Goals as goal

pub returns : goal.returns
returns c =
    let values = c.row_values in
    let fits : AreOf16Bits values.result = λ i small. vector_fits w16 values.result values.type_inv.0 values.type_inv.1.1 i (omega arith) in
    let row = holds_fitting w16 values.result (omega arith) (within_16 values.result fits) fits in
    record { value = λ v small. lane_is w16 row v small ∙ values.ensures.value v small; fits = lanes_fit w16 row }
