use Rattle.std.proofs.Common.{ℕ, ◌<◌}
use Rattle.apv_tile.specs.Blocks.{block_at, AreSamplesOfLevels}
use Rattle.apv_tile.proofs.by_block.rebuild_component.Given as goal

-- the blocks so far are rebuilt
abbrev pub invariant-loop-block : goal.invariant-loop-block
invariant-loop-block l = (block : ℕ) → block < l.block → AreSamplesOfLevels l.scale l.depth (block_at l.levels block) (block_at l.samples block)
