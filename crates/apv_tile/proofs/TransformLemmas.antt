-- The transforms look at no place but those of a block.
use Rattle.std.proofs.Common.{◌≡◌, ℕ, ◌+◌, ◌-◌, ◌*◌, ◌^◌, ◌<◌, List, ap, ap₂, ◌∙◌, arith}
use Rattle.std.specs.Prelude.{ℤ, pos, ◌+ℤ◌, unsigned_abs}
use Rattle.apv_base.specs.model.Quant.{clamped, scaled}
use Rattle.apv_base.specs.model.Transform.{column_sum, residual, sample_of, coefficient_at}
use Rattle.apv_quant.specs.Scale.{StepNumbers, AreScaled}
use Rattle.apv_transform.proofs.Blocks.{column_sum_same}
use Rattle.apv_transform.proofs.Sums.{inverse_same}
use Rattle.apv_transform.specs.Sample.{AreSamplesOf}
use Rattle.apv_base.specs.model.Picture.{scaled_block}
use Rattle.apv_tile.specs.Blocks.{scaled_by, AreSamplesOfLevels}
use Rattle.apv_tile.specs.Laws.{HasDefinedSamples}

residuals_same : (d e : ℕ → ℕ → ℤ) (depth y x : ℕ) → ((u v : ℕ) → u < 8 → v < 8 → d u v ≡ e u v) → residual d depth y x ≡ residual e depth y x
unfolding residual
residuals_same d e depth y x same =
    inverse_same (20 - depth) (column_sum d y) (column_sum e y) x (λ v h. column_sum_same d e y v (λ u k. same u v k h))

-- the samples of coefficients that are the same at each place of the block
pub samples_same : (d e : ℕ → ℕ → ℤ) (depth y x : ℕ) → ((u v : ℕ) → u < 8 → v < 8 → d u v ≡ e u v) → sample_of d depth y x ≡ sample_of e depth y x
samples_same d e depth y x same =
    ap (λ z. unsigned_abs (clamped (pos 0) (pos (2 ^ depth - 1)) (z +ℤ pos (2 ^ (depth - 1))))) (residuals_same d e depth y x same)

-- a block of levels, scaled and transformed
pub samples_of_levels : (scale : StepNumbers) (depth : ℕ) (levels coeffs : List ℤ) (samples : List ℕ)
    → AreScaled scale.steps scale.shift levels coeffs → AreSamplesOf depth coeffs samples → AreSamplesOfLevels scale depth levels samples
samples_of_levels scale depth levels coeffs samples scales transforms y x hy hx =
    transforms y x hy hx
    ∙ samples_same (coefficient_at coeffs) (scaled_by scale levels) depth y x (λ u v hu hv. scales (8 * u + v) (omega (arith, hu, hv)))

-- samples by the scale of a matrix, a QP and a depth
pub samples_by_matrix : (matrix : List ℕ) (qp depth : ℕ) (scale : StepNumbers) → HasDefinedSamples matrix qp depth scale
samples_by_matrix matrix qp depth scale is levels samples are y x hy hx =
    are y x hy hx
    ∙ samples_same (scaled_by scale levels) (scaled_block matrix qp depth levels) depth y x
    (λ u v hu hv. ap₂ (λ s b. scaled (coefficient_at levels u v) s b) (is.each (8 * u + v) (omega (arith, hu, hv))) is.shift)
