use Rattle.std.proofs.Common.{arith}
use Rattle.std.specs.Prelude.{pos}
use mir.Syntax.{w16}
use Rattle.apv_transform.specs.Lanes.{lane_at}
use Rattle.apv_transform.specs.Line.{value_at}
use Rattle.apv_transform.proofs.LaneBits.{holds_fitting, holds_any_same, within_16}
use Rattle.apv_transform.proofs.LaneMoves.{none_less, not_not, at_most_trans}
use Rattle.apv_transform.proofs.rows.has_none_above.Goals as goal

pub returns : goal.returns
returns c is u v hu hv =
    let maximum = c.maximum_lanes-maximum in
    let lanes = holds_fitting w16 maximum.result (omega arith) (within_16 maximum.result maximum.ensures.fits) maximum.ensures.fits in
    let bound = holds_any_same w16 8 {bound = 32768} (pos 32766) (record { size = omega arith }) (record { sfits = omega arith }) in
    at_most_trans (lane_at c.args.rows.now u v) (value_at maximum.result v) (pos 32766) (maximum.ensures.bound u v hu hv) (none_less bound lanes (omega arith) (not_not is) v hv)
