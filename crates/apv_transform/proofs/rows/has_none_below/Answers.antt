use Rattle.std.proofs.Common.{arith}
use Rattle.std.specs.Prelude.{negsuc}
use mir.Syntax.{w16}
use Rattle.apv_transform.specs.Lanes.{lane_at}
use Rattle.apv_transform.specs.Line.{value_at}
use Rattle.apv_transform.proofs.LaneBits.{holds_fitting, holds_any_same, within_16}
use Rattle.apv_transform.proofs.LaneMoves.{none_less, not_not, at_most_trans}
use Rattle.apv_transform.proofs.rows.has_none_below.Goals as goal

pub returns : goal.returns
returns c is u v hu hv =
    let minimum = c.minimum_lanes-minimum in
    let lanes = holds_fitting w16 minimum.result (omega arith) (within_16 minimum.result minimum.ensures.fits) minimum.ensures.fits in
    let bound = holds_any_same w16 8 {bound = 32768} (negsuc 32765) (record { size = omega arith }) (record { sfits = omega arith }) in
    at_most_trans (negsuc 32765) (value_at minimum.result v) (lane_at c.args.rows.now u v) (none_less lanes bound (omega arith) (not_not is) v hv) (minimum.ensures.bound u v hu hv)
