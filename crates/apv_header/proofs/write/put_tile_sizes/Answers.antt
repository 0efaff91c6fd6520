use Rattle.std.proofs.Common.{◌∙◌, arith}
use Rattle.apv_base.specs.model.Bits.{bin}
use Rattle.apv_header.proofs.WriteLemmas.{room_after_bits, appends_more}
use Rattle.apv_header.proofs.write.put_tile_sizes.Goals as goal

pub loop-size-preserved : goal.loop-size-preserved
loop-size-preserved c =
    let i = c.loop-size.invariant in
    record {
      room = omega (arith, i.room, c.loop-size-test.true, room_after_bits c.loop-size.writer c.put.new.self 32 _ c.put.ensures.appends);
      appends = appends_more (bin 32) c.args.sizes.now c.loop-size.size-index 0 c.args.writer.now c.loop-size.writer c.put.new.self c.loop-size-test.true i.appends c.put.ensures.appends;
      slice = c.put.ensures.slice ∙ i.slice;
    }
