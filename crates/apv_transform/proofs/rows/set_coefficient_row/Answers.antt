use Rattle.std.proofs.Common.{pos, length, ◌≡◌, arith, ◌∙◌}
use Rattle.std.specs.Prelude.{map}
use Rattle.std.proofs.lemmas.List.{length-map}
use mir.Syntax.{w16}
use mir.Val.{to_z, of_z}
use Rattle.apv_transform.proofs.LaneBits.{holds_element_16, lane_is}
use Rattle.apv_transform.proofs.Stored.{row_written, row_kept}
use Rattle.apv_transform.proofs.rows.set_coefficient_row.Goals as goal

pub returns : goal.returns
returns c =
    let lanes = holds_element_16 c.args.rows.now c.args.row c.element.result c.element.ensures (omega arith) (omega arith) (c.requires.fits c.args.row c.requires.row) in
    let long : length (map (to_z w16) (map (of_z w16) c.element.result)) ≡ 8 = length-map (map (of_z w16) c.element.result) (to_z w16) ∙ lanes.long in
    record {
      written = λ v small. row_written (pos 0) c.args.row c.args.coeffs.now _ (omega arith) c.requires.row long v small ∙ lane_is w16 lanes v small;
      kept = row_kept (pos 0) c.args.row c.args.coeffs.now _ (omega arith) c.requires.row long;
    }
