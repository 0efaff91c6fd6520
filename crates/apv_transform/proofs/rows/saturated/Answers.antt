use Rattle.std.proofs.Common.{arith, w32, pos, ◌∙◌}
use Rattle.std.specs.Prelude.{negsuc}
use mir.Syntax.{w16}
use Rattle.apv_transform.specs.Line.{value_at}
use Rattle.apv_transform.proofs.LaneBits.{holds_lanes, holds_same, lane_is}
use Rattle.apv_transform.proofs.LaneMoves.{holds_cast, cast_asks, holds_greater, holds_less, clamp_fits, clamp_is}
use Rattle.apv_transform.proofs.rows.saturated.Goals as goal

pub overflow_cast-result : goal.overflow_cast-result
overflow_cast-result c =
    let lanes = holds_lanes w32 c.args.lanes (omega arith) c.requires (omega arith) in
    let least = holds_same w32 8 {bound = 1073741824} (negsuc 32767) (record { size = omega arith }) (omega arith) in
    let most = holds_same w32 8 {bound = 1073741824} (pos 32767) (record { size = omega arith }) (omega arith) in
    cast_asks w32 w16 (holds_less (holds_greater lanes least) most) (λ i h. clamp_fits (value_at c.args.lanes i))

pub returns : goal.returns
returns c =
    let lanes = holds_lanes w32 c.args.lanes (omega arith) c.requires (omega arith) in
    let least = holds_same w32 8 {bound = 1073741824} (negsuc 32767) (record { size = omega arith }) (omega arith) in
    let most = holds_same w32 8 {bound = 1073741824} (pos 32767) (record { size = omega arith }) (omega arith) in
    let narrow = holds_cast w32 w16 (holds_less (holds_greater lanes least) most) (λ i h. clamp_fits (value_at c.args.lanes i)) in
    record {
      value = λ i h. lane_is w16 narrow i h ∙ clamp_is (value_at c.args.lanes i);
      fits = λ i h. rw (lane_is w16 narrow i h) (clamp_fits (value_at c.args.lanes i));
    }
