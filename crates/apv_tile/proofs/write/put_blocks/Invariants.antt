use Rattle.std.proofs.Common.{◌≡◌, drop}
use Rattle.apv_base.specs.model.Block.{start}
use Rattle.apv_base.specs.model.Component.{component_bits}
use Rattle.apv_bits.specs.Writer.{slice_name}
use Rattle.apv_tile.proofs.WriteLemmas.{IsMidway}
use Rattle.apv_tile.proofs.write.put_blocks.Given as goal

-- the blocks so far are written, and there is room for those left
abbrev pub invariant-loop-block : goal.invariant-loop-block
invariant-loop-block l = record {
  midway : IsMidway (component_bits start l.blocks) l.initial.writer l.writer (component_bits l.context (drop l.block-index l.blocks));
  slice : slice_name l.writer ≡ slice_name l.initial.writer;
}
