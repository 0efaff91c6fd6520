-- Whole blocks of 64 values in one list, and the samples of a block's levels.
use Rattle.std.specs.Prelude.{◌≡◌, ℕ, ℤ, ◌+◌, ◌*◌, ◌/◌, ◌%◌, ◌<◌, ◌≤◌, List, [], length, take, drop, slice_index, slice_index_or}
use Rattle.std.specs.Prelude.{Result, IfErr, OnOk}
use Rattle.std.specs.Simd.{first_chunks}
use Rattle.apv_base.specs.declared.rules.Rule.{Rule}
use Rattle.apv_base.specs.model.Component.{IsComponent, ComponentBreaks, component_bytes}
use Rattle.apv_base.specs.model.Format.{IsDepth}
use Rattle.apv_base.specs.model.Run.{MAX_UNIT}
use Rattle.apv_base.specs.model.Quant.{scaled}
use Rattle.apv_base.specs.model.Transform.{coefficient_at, sample_of}
use Rattle.apv_quant.specs.Scale.{StepNumbers}

-- the 64 values of the block with this number
abbrev pub block_at : {X : Type 0} → List X → ℕ → List X
block_at values block = take 64 (drop (64 * block) values)

-- the blocks of a list, in order
abbrev pub blocks_of : {X : Type 0} → List X → List (List X)
blocks_of values = first_chunks 64 (length values / 64) values

-- the scaled levels of a block
abbrev pub scaled_by : StepNumbers → List ℤ → ℕ → ℕ → ℤ
scaled_by scale levels u v =
    scaled (coefficient_at levels u v) (slice_index scale.steps (8 * u + v)) scale.shift

-- the samples of a block are those of its levels
abbrev pub AreSamplesOfLevels : StepNumbers → ℕ → List ℤ → List ℕ → Type 0
AreSamplesOfLevels scale depth levels samples = (y x : ℕ) → y < 8 → x < 8
    → slice_index samples (8 * y + x) ≡ sample_of (scaled_by scale levels) depth y x

-- the bytes are a component of as many blocks as the samples have, and the samples of each block
-- are those of its levels
pub record IsDecodedComponent (scale : StepNumbers) (depth : ℕ) (bytes samples : List ℕ) : Type 0 where
  pub blocks : List (List ℤ)
  pub component : IsComponent (length samples / 64) bytes blocks
  pub each : (block : ℕ) → block < length samples / 64
      → AreSamplesOfLevels scale depth (slice_index_or blocks block []) (block_at samples block)

-- what a component can be decoded from and into: bytes of a unit, a bit depth, and the samples of whole blocks
pub record CanDecode (depth : ℕ) (bytes samples : List ℕ) : Type 0 where
  pub few : length bytes ≤ MAX_UNIT
  pub depth_is : IsDepth depth
  pub whole : length samples % 64 ≡ 0

-- a component is decoded, or its bytes break a rule
pub record DecodesComponent {T : Type 0} (scale : StepNumbers) (depth : ℕ) (bytes old : List ℕ) (result : Result T Rule)
    (samples : List ℕ) : Type 0 where
  pub ok : OnOk result (IsDecodedComponent scale depth bytes samples)
  pub err : IfErr result (λ rule. ComponentBreaks (length old / 64) bytes rule)

-- the count is the number of bytes of the component of these levels, at most 376 a block
pub record CountsComponent (levels : List ℤ) (count : ℕ) : Type 0 where
  pub bytes : count ≡ length (component_bytes (blocks_of levels))
  pub few : count ≤ 376 * (length levels / 64)
