use Rattle.std.proofs.Common.{ℕ, ◌+◌, ◌*◌, ◌<◌, get_or, arith, ap, ◌∙◌}
use Rattle.std.specs.Prelude.{pos, ◌-ℤ◌}
use mir.Syntax.{w16}
use Rattle.apv_transform.proofs.LaneBits.{holds_same, holds_difference, lane_is, lanes_fit}
use Rattle.apv_transform.proofs.Loaded.{loaded_asks, holds_loaded}
use Rattle.apv_transform.proofs.Samples.{below_4096, middle_within}
use Rattle.apv_transform.proofs.rows.residual_row.Goals as goal

pub overflow_cast-result : goal.overflow_cast-result
overflow_cast-result c =
    let below : (place : ℕ) → place < 64 → get_or c.args.samples.now place 0 < 4096 =
    λ place small. below_4096 c.args.depth _ c.requires.depth.0 c.requires.depth.1 (c.requires.samples place small) in
    loaded_asks c.args.samples.now c.args.row (omega arith) c.requires.row below

pub returns : goal.returns
returns c =
    let below : (place : ℕ) → place < 64 → get_or c.args.samples.now place 0 < 4096 =
    λ place small. below_4096 c.args.depth _ c.requires.depth.0 c.requires.depth.1 (c.requires.samples place small) in
    let samples = holds_loaded c.args.samples.now c.args.row (omega arith) c.requires.row below in
    let middle = holds_same w16 8 c.middle_sample.result (middle_within c.args.depth c.requires.depth.0 c.requires.depth.1 c.middle_sample.ensures) (omega arith) in
    let residuals = holds_difference w16 samples middle (omega arith) in
    record {
      value = λ x small. lane_is w16 residuals x small ∙ ap (λ h. pos (get_or c.args.samples.now (8 * c.args.row + x) 0) -ℤ h) c.middle_sample.ensures;
      fits = lanes_fit w16 residuals;
    }
