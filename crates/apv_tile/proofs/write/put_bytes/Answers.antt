use Rattle.std.proofs.Common.{◌≡◌, arith}
use Rattle.apv_base.specs.model.Bits.{bits}
use Rattle.apv_base.specs.model.Component.{component_bytes}
use Rattle.apv_tile.specs.Blocks.{blocks_of}
use Rattle.apv_tile.proofs.WriteLemmas.{component_room, component_bits_written, component_written}
use Rattle.apv_tile.proofs.write.put_bytes.Goals as goal

pub put_blocks-requires : goal.put_blocks-requires
put_blocks-requires c =
    component_room c.as_chunks.result.0.now (blocks_of c.args.levels.now) c.args.out.now c.new-writer.result c.as_chunks.ensures.front c.requires.room c.new-writer.ensures.bits_after

pub returns : goal.returns
returns c =
    let all : bits c.align.new.self.bytes.now ≡ bits (component_bytes (blocks_of c.args.levels.now)) =
    component_bits_written c.as_chunks.result.0.now (blocks_of c.args.levels.now) c.args.out.now c.new-writer.result c.put_blocks.new.writer c.align.new.self
    c.as_chunks.ensures.front c.requires.room c.new-writer.ensures.written c.new-writer.ensures.bits_after c.put_blocks.ensures.appends c.align.ensures.appends in
    component_written (blocks_of c.args.levels.now) _ (λ i. omega (arith, c.type_inv.out i)) (grind (arith, all))
