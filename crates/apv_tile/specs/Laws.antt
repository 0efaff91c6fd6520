-- Laws of the samples of a component.
use Rattle.std.specs.Prelude.{◌≡◌, ℕ, ℤ, ◌+◌, ◌*◌, ◌<◌, List, slice_index}
use Rattle.apv_base.specs.model.Picture.{scaled_block}
use Rattle.apv_base.specs.model.Quant.{shift_of}
use Rattle.apv_base.specs.model.Transform.{sample_of}
use Rattle.apv_quant.specs.Scale.{StepNumbers, AreStepsOf}
use Rattle.apv_tile.specs.Blocks.{AreSamplesOfLevels}

-- the step numbers of a matrix and a QP, and the shift of a bit depth
pub record IsScaleOf (matrix : List ℕ) (qp depth : ℕ) (scale : StepNumbers) : Type 0 where
  pub each : AreStepsOf matrix qp scale.steps
  pub shift : scale.shift ≡ shift_of depth

-- the samples of a block by such a scale are those that a frame's samples are defined as
abbrev pub HasDefinedSamples : List ℕ → ℕ → ℕ → StepNumbers → Type 0
HasDefinedSamples matrix qp depth scale = IsScaleOf matrix qp depth scale
    → (levels : List ℤ) (samples : List ℕ) → AreSamplesOfLevels scale depth levels samples
    → (y x : ℕ) → y < 8 → x < 8
    → slice_index samples (8 * y + x) ≡ sample_of (scaled_block matrix qp depth levels) depth y x
