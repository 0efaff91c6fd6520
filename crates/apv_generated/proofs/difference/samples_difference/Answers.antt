use Rattle.std.proofs.Common.{◌≡◌, ℕ, ◌+◌, [], ◌∷◌, get_or, arith, ◌∙◌}
use Rattle.apv_encoding.specs.Difference.{distance}
use Rattle.apv_encoding.specs.Generated.{generated_picture}
use Rattle.apv_generated.proofs.ListLemmas.{peak-none, peak-one, peak-next}
use Rattle.apv_generated.proofs.difference.samples_difference.Goals as goal

pub loop-i-init : goal.loop-i-init
loop-i-init c =
    let g = c.args in
    peak-none (λ (i : ℕ). distance (generated_picture g.seed g.number g.comp (g.x + i) g.y) (get_or g.samples.now i 0) ∷ [])

pub loop-i-preserved : goal.loop-i-preserved
loop-i-preserved c =
    let g = c.args in
    let i : ℕ = c.loop-i.i in
    let here : c.abs_diff.result ≡ distance (generated_picture g.seed g.number g.comp (g.x + i) g.y) (get_or g.samples.now i 0) = omega arith in
    peak-next (λ (i : ℕ). distance (generated_picture g.seed g.number g.comp (g.x + i) g.y) (get_or g.samples.now i 0) ∷ []) i c.loop-i.peak _ c.max-peak.result c.loop-i.invariant (here ∙ peak-one _) c.max-peak.ensures
