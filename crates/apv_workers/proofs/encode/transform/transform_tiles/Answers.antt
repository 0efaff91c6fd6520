use Rattle.std.proofs.Common.{◌≡◌, ℕ, length, ap, sym, ◌∙◌, subst}
use Rattle.apv_base.specs.model.Grid.{Grid, IsSoundGrid}
use Rattle.apv_base.specs.model.Header.{grid_of}
use Rattle.apv_grid.specs.Buffer.{Buffer}
use Rattle.apv_workers.specs.Encode.{IsPaddedFrom, AreCoefficients}
use Rattle.apv_workers.proofs.Frames.{refill_whole}
use Rattle.apv_workers.proofs.Samples.{transformed}
use Rattle.apv_workers.proofs.encode.transform.transform_tiles.Goals as goal

pub returns-clause-coeffs : goal.returns-clause-coeffs
returns-clause-coeffs g c samples padded =
    let header = ap (λ t. t.header) c.track.view_is in
    let frame : c.all_samples.new.frame ≡ c.args.track.now.frame = c.all_samples.ensures.same ∙ ap (λ t. t.frame) c.track.view_is in
    let grid : Grid = grid_of c.args.track.now.header in
    let given : c.track.inside.head.grid ≡ grid = c.track.invariant.of_header.grid ∙ ap grid_of header in
    let sound : IsSoundGrid grid = subst IsSoundGrid (ap grid_of header) (record { format = c.track.invariant.of_header.sound.info.format; tiles = c.track.invariant.of_header.sound.tiles }) in
    let many : length c.work_components.new.values ≡ length c.track.inside.coeffs.values = c.work_components.auto.values ∙ ap length c.pieces-values.ensures.pieces.1 in
    subst (AreCoefficients grid samples) (sym (refill_whole c.track.inside.coeffs.values c.work_components.new.values many))
    (transformed c.track.inside.head.grid grid c.all_samples.new.frame samples c.work_components.new.values (ap (λ (f : Buffer ℕ). f.grid) frame ∙ c.requires.grid) given (c.samples_of_a_part.ensures grid sound) c.work_components.ensures
    (subst (λ (f : Buffer ℕ). IsPaddedFrom grid samples f.values) (sym frame) padded))
