use Rattle.std.proofs.Common.{◌≡◌, ◌+◌, ◌*◌, ◌≤◌, length, drop}
use Rattle.apv_base.specs.model.Block.{start}
use Rattle.apv_base.specs.model.Component.{component_bits}
use Rattle.apv_tile.proofs.write.count_bytes.Given as goal

-- the bits that were counted and those of the blocks left are the bits of all
abbrev pub invariant-loop-block : goal.invariant-loop-block
invariant-loop-block l = record {
  few : l.bits ≤ 3008 * l.block-index;
  all : l.bits + length (component_bits l.context (drop l.block-index l.blocks)) ≡ length (component_bits start l.blocks);
}
