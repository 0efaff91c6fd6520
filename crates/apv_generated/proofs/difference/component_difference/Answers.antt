use Rattle.std.proofs.Common.{◌≡◌, ℕ, ap, arith, ◌∙◌}
use Rattle.apv_base.specs.model.Format.{component_width}
use Rattle.apv_encoding.specs.Difference.{maximum}
use Rattle.apv_encoding.specs.Generated.{generated_picture}
use Rattle.apv_generated.specs.Differences.{row_distances, component_distances}
use Rattle.apv_generated.proofs.ListLemmas.{peak-none, peak-next}
use Rattle.apv_grid.specs.Buffer.{samples_of}
use Rattle.apv_generated.proofs.difference.component_difference.Goals as goal

pub loop-y-init : goal.loop-y-init
loop-y-init c =
    let g = c.args in
    peak-none (λ (y : ℕ). row_distances (generated_picture g.seed g.number) (samples_of g.frame.now) g.comp y 0 (component_width g.frame.now.grid.format g.comp))

pub loop-y-preserved : goal.loop-y-preserved
loop-y-preserved c =
    let g = c.args in
    peak-next (λ (y : ℕ). row_distances (generated_picture g.seed g.number) (samples_of g.frame.now) g.comp y 0 (component_width g.frame.now.grid.format g.comp)) c.loop-y.y c.loop-y.peak c.row_difference.result c.max-peak.result c.loop-y.invariant c.row_difference.ensures c.max-peak.ensures

pub returns : goal.returns
returns c =
    let g = c.args in
    let format = g.frame.now.grid.format in
    let end : c.loop-y.y ≡ format.height = omega arith in
    c.loop-y.invariant ∙ ap (λ (n : ℕ). maximum (component_distances format (generated_picture g.seed g.number) (samples_of g.frame.now) g.comp n)) end
