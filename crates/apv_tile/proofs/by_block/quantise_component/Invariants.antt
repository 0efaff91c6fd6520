use Rattle.std.proofs.Common.{ℕ, ◌<◌}
use Rattle.apv_quant.specs.Scale.{AreNearest}
use Rattle.apv_tile.specs.Blocks.{block_at}
use Rattle.apv_tile.proofs.by_block.quantise_component.Given as goal

-- the blocks so far are quantised
abbrev pub invariant-loop-block : goal.invariant-loop-block
invariant-loop-block l = (block : ℕ) → block < l.block → AreNearest l.scale.steps l.scale.shift (block_at l.coeffs block) (block_at l.levels block)
