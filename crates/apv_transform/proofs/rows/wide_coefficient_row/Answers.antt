use Rattle.std.proofs.Common.{arith, w32, ◌∙◌}
use mir.Syntax.{w16}
use Rattle.apv_transform.proofs.LaneBits.{holds_fitting, lane_is, lanes_within, within_16, within_fits}
use Rattle.apv_transform.proofs.LaneMoves.{holds_cast, cast_asks}
use Rattle.apv_transform.proofs.rows.wide_coefficient_row.Goals as goal

pub overflow_cast-result : goal.overflow_cast-result
overflow_cast-result c =
    let row = c.coefficient_row in
    let within = within_16 row.result row.ensures.fits in
    cast_asks w16 w32 (holds_fitting w16 row.result (omega arith) within row.ensures.fits) (within_fits w32 row.result within (omega arith))

pub returns : goal.returns
returns c =
    let row = c.coefficient_row in
    let within = within_16 row.result row.ensures.fits in
    let wide = holds_cast w16 w32 (holds_fitting w16 row.result (omega arith) within row.ensures.fits) (within_fits w32 row.result within (omega arith)) in
    record { value = λ v small. lane_is w32 wide v small ∙ row.ensures.value v small; bound = lanes_within w32 wide }
