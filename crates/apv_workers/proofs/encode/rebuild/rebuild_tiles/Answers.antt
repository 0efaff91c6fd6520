use Rattle.std.proofs.Common.{◌≡◌, ℕ, List, length, sym, ap, ap₂, ◌∙◌, subst}
use Rattle.apv_base.specs.model.Grid.{Grid, IsSoundGrid, tile_count}
use Rattle.apv_base.specs.model.Header.{grid_of}
use Rattle.apv_base.specs.model.Picture.{sample}
use Rattle.apv_grid.specs.Buffer.{IsFilled, samples_in, value_count}
use Rattle.apv_workers.specs.Components.{AreAllDone}
use Rattle.apv_workers.specs.Track.{TrackState, frame_of, levels_of}
use Rattle.apv_workers.specs.TrackFields.{AreRebuilt}
use Rattle.apv_workers.proofs.Frames.{refill_whole}
use Rattle.apv_workers.proofs.Pieces.{run-whole}
use Rattle.apv_workers.proofs.Rebuilt.{all-rebuilt}
use Rattle.apv_workers.proofs.encode.rebuild.rebuild_tiles.Goals as goal

pub work_components-requires-clause-all : goal.work_components-requires-clause-all
work_components-requires-clause-all g c κs within =
    let p = c.pieces-values in
    let header = ap (λ (t : TrackState). t.header) c.track.view_is in
    let given : c.args.frame.now.grid ≡ c.track.inside.head.grid = c.requires.grid ∙ sym (ap grid_of header) ∙ sym c.track.invariant.of_header.grid in
    run-whole p.result.grid p.result.first p.result.count (length p.result.values.now) p.ensures.tiles.0 (p.ensures.tiles.1 ∙ ap tile_count (sym p.ensures.pieces.0)) p.result.run ∙ ap value_count (p.ensures.pieces.0 ∙ given)

pub returns-clause-samples : goal.returns-clause-samples
returns-clause-samples g c comp x y filled =
    let head = c.track.inside.head in
    let values : List ℕ = c.work_components.new.values in
    let header = ap (λ (t : TrackState). t.header) c.track.view_is in
    let given : c.args.frame.now.grid ≡ grid_of head.header = c.requires.grid ∙ sym (ap grid_of header) in
    let sound : IsSoundGrid (grid_of head.header) = record { format = c.track.invariant.of_header.sound.info.format; tiles = c.track.invariant.of_header.sound.tiles } in
    let many : length values ≡ length c.args.frame.now.values = c.work_components.auto.values ∙ ap length c.pieces-values.ensures.pieces.1 in
    let all = subst (λ (g : Grid). AreAllDone (AreRebuilt head c.track.inside.levels) g values) c.track.invariant.of_header.grid c.work_components.ensures in
    ap₂ (λ (g : Grid) (v : List ℕ). samples_in g v comp x y) given (refill_whole c.args.frame.now.values values many)
    ∙ all-rebuilt head c.track.inside.levels values (c.block_of_a_sample.ensures (grid_of head.header) sound) c.track.invariant.all_levels.values all comp x y (subst (λ (g : Grid). IsFilled g comp x y) given filled)
    ∙ ap (λ (t : TrackState). sample (frame_of t) (levels_of t) comp x y) c.track.view_is
