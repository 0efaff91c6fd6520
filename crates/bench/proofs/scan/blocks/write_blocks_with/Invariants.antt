use Rattle.std.proofs.Common.{◌≡◌, ◌+◌, ◌≤◌, length, drop}
use Rattle.apv_base.specs.model.Block.{start}
use Rattle.apv_base.specs.model.Component.{component_bits}
use Rattle.apv_bits.specs.Writer.{written, bits_after}
use Rattle.bench.proofs.scan.blocks.write_blocks_with.Given as goal

-- what was written, and the bits of the blocks left, are the bits of all, and there is room for those left
abbrev pub invariant-loop-levels : goal.invariant-loop-levels
invariant-loop-levels l = record {
  all : length (written l.writer) + length (component_bits l.context (drop l.levels-index l.blocks)) ≡ length (component_bits start l.blocks);
  room : length (component_bits l.context (drop l.levels-index l.blocks)) ≤ length (bits_after l.writer);
}
