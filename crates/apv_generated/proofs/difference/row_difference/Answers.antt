use Rattle.std.proofs.Common.{◌≡◌, ℕ, [], ◌∷◌, ap, arith, ◌∙◌}
use Rattle.apv_base.specs.model.Format.{component_width}
use Rattle.apv_encoding.specs.Difference.{distance, maximum}
use Rattle.apv_encoding.specs.Generated.{generated_picture}
use Rattle.apv_generated.specs.Differences.{row_distances}
use Rattle.apv_generated.proofs.ListLemmas.{peak-none, peak-more}
use Rattle.apv_grid.specs.Buffer.{samples_of}
use Rattle.apv_generated.proofs.difference.row_difference.Goals as goal

pub loop-x-init : goal.loop-x-init
loop-x-init c =
    let g = c.args in
    record {
      inside = omega arith;
      peak = peak-none (λ (x : ℕ). distance (generated_picture g.seed g.number g.comp x g.y) (samples_of g.frame.now g.comp x g.y) ∷ []);
    }

pub loop-x-preserved : goal.loop-x-preserved
loop-x-preserved c =
    let g = c.args in
    record {
      inside = omega arith;
      peak = peak-more (λ (x : ℕ). distance (generated_picture g.seed g.number g.comp x g.y) (samples_of g.frame.now g.comp x g.y) ∷ []) c.loop-x.x c.min-count.result c.loop-x.peak c.piece_difference-here.result c.max-peak.result c.loop-x.invariant.peak c.piece_difference-here.ensures c.max-peak.ensures;
    }

pub returns : goal.returns
returns c =
    let g = c.args in
    let end : c.loop-x.x ≡ component_width g.frame.now.grid.format g.comp = omega (arith, c.loop-x.invariant.inside) in
    c.loop-x.invariant.peak ∙ ap (λ (n : ℕ). maximum (row_distances (generated_picture g.seed g.number) (samples_of g.frame.now) g.comp g.y 0 n)) end
