use Rattle.std.proofs.Common.{ℕ, ◌<◌}
use Rattle.apv_transform.specs.Sample.{AreCoefficientsOf}
use Rattle.apv_tile.specs.Blocks.{block_at}
use Rattle.apv_tile.proofs.by_block.transform_component.Given as goal

-- the blocks so far are transformed
abbrev pub invariant-loop-block : goal.invariant-loop-block
invariant-loop-block l = (block : ℕ) → block < l.block → AreCoefficientsOf l.depth (block_at l.samples block) (block_at l.coeffs block)
