use Rattle.std.proofs.Common.{◌≡◌, ℕ, ap, arith, ◌∙◌}
use Rattle.apv_base.specs.model.Format.{comps_of}
use Rattle.apv_base.specs.model.Picture.{joined}
use Rattle.apv_encoding.specs.Difference.{maximum}
use Rattle.apv_encoding.specs.Generated.{generated_picture}
use Rattle.apv_generated.specs.Differences.{component_distances}
use Rattle.apv_generated.proofs.ListLemmas.{peak-none, peak-next}
use Rattle.apv_grid.specs.Buffer.{samples_of}
use Rattle.apv_generated.proofs.difference.peak_difference.Goals as goal

pub loop-comp-init : goal.loop-comp-init
loop-comp-init c =
    let g = c.args in
    let format = g.frame.now.grid.format in
    peak-none (λ (comp : ℕ). component_distances format (generated_picture g.seed g.number) (samples_of g.frame.now) comp format.height)

pub loop-comp-preserved : goal.loop-comp-preserved
loop-comp-preserved c =
    let g = c.args in
    let format = g.frame.now.grid.format in
    peak-next (λ (comp : ℕ). component_distances format (generated_picture g.seed g.number) (samples_of g.frame.now) comp format.height) c.loop-comp.comp c.loop-comp.peak c.component_difference.result c.max-peak.result c.loop-comp.invariant c.component_difference.ensures c.max-peak.ensures

pub returns : goal.returns
returns c =
    let g = c.args in
    let format = g.frame.now.grid.format in
    let count : c.comps-comp-end.result ≡ comps_of format.chroma = cc in
    let end : c.loop-comp.comp ≡ comps_of format.chroma = omega (arith, c.loop-comp.auto.comp-end) in
    c.loop-comp.invariant ∙ ap (λ (n : ℕ). maximum (joined n (λ comp. component_distances format (generated_picture g.seed g.number) (samples_of g.frame.now) comp format.height))) end
