use Rattle.std.proofs.Common.{ℕ, ◌<◌, pos, get_or}
use Rattle.apv_base.specs.model.Quant.{IsLevel}
use Rattle.apv_scan.proofs.block.levels.is_block.Given as goal

-- each level so far is permitted
abbrev pub invariant-loop-place : goal.invariant-loop-place
invariant-loop-place l = (place : ℕ) → place < l.place → IsLevel (get_or l.levels place (pos 0))
