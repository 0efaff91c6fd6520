use Rattle.std.proofs.Common.{arith, w32, ap, ◌∙◌}
use Rattle.std.specs.Prelude.{pos, negsuc}
use Rattle.apv_base.specs.model.Quant.{clamped}
use Rattle.apv_transform.proofs.LaneBits.{holds_element, lane_is, lanes_fit, lanes_within, holds_fitting, within_16}
use mir.Syntax.{w16}
use Rattle.apv_transform.proofs.rows.saturated_row.Goals as goal

pub saturated-requires : goal.saturated-requires
saturated-requires c =
    lanes_within w32 (holds_element w32 c.args.block.now c.args.row c.element.result c.element.ensures (omega arith) (omega arith) (c.requires.block c.args.row c.requires.row) (omega arith))

pub returns : goal.returns
returns c =
    let element = holds_element w32 c.args.block.now c.args.row c.element.result c.element.ensures (omega arith) (omega arith) (c.requires.block c.args.row c.requires.row) (omega arith) in
    let row = holds_fitting w16 c.saturated.result (omega arith) (within_16 c.saturated.result c.saturated.ensures.fits) c.saturated.ensures.fits in
    record {
      value = λ lane small. lane_is w16 row lane small ∙ c.saturated.ensures.value lane small ∙ ap (clamped (negsuc 32767) (pos 32767)) (lane_is w32 element lane small);
      fits = lanes_fit w16 row;
    }
