use Rattle.std.proofs.Common.{◌≡◌, ℤ, List, length, sym, ap, ◌∙◌, subst}
use Rattle.apv_base.specs.model.Header.{grid_of}
use Rattle.apv_base.specs.model.Nearest.{AreLevelsOf}
use Rattle.apv_workers.specs.Track.{levels_in}
use Rattle.apv_workers.specs.TrackFields.{head_qps}
use Rattle.apv_workers.specs.declared.track.TrackHead.{TrackHead}
use Rattle.apv_workers.proofs.Coded.{all-quantised, levels-of-picture}
use Rattle.apv_workers.proofs.Frames.{refill_whole}
use Rattle.apv_workers.proofs.encode.quantise.quantise_tiles.Goals as goal

pub returns-clause-picture : goal.returns-clause-picture
returns-clause-picture g c samples are =
    let head : TrackHead = record c.track.inside.head { q = c.args.q } in
    let many : length c.work_components.new.values ≡ length c.track.inside.levels.values = c.work_components.auto.values ∙ ap length c.pieces-values.ensures.pieces.1 in
    let near = all-quantised head c.track.inside.coeffs head.grid c.work_components.new.values c.track.invariant.of_header.grid c.work_components.ensures in
    subst (λ (levels : List ℤ). AreLevelsOf head.header (head_qps head) samples (levels_in (grid_of head.header) levels)) (sym (refill_whole c.track.inside.levels.values c.work_components.new.values many))
    (levels-of-picture head.header (head_qps head) samples c.track.inside.coeffs.values c.work_components.new.values (many ∙ c.track.invariant.all_levels.values) are near)
