use Rattle.std.proofs.Common.{◌≡◌, ◌+◌, ◌*◌, ◌≤◌, length, drop}
use Rattle.apv_base.specs.model.Block.{start}
use Rattle.apv_base.specs.model.Component.{component_bits}
use Rattle.bench.proofs.scan.blocks.count_bits_with.Given as goal

-- what was counted, and the bits of the blocks left, are the bits of all
abbrev pub invariant-loop-levels : goal.invariant-loop-levels
invariant-loop-levels l = record {
  few : l.bits ≤ 3008 * l.levels-index;
  all : l.bits + length (component_bits l.context (drop l.levels-index l.blocks)) ≡ length (component_bits start l.blocks);
}
