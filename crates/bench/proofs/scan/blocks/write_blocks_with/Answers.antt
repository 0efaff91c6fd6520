use Rattle.std.proofs.Common.{length, ap, arith}
use Rattle.apv_base.proofs.BitsLemmas.{length-bits}
use Rattle.bench.proofs.scan.blocks.write_blocks_with.Goals as goal

pub loop-levels-init : goal.loop-levels-init
loop-levels-init c =
    rw (c.start-context.ensures.start)
    (record {
      all = omega (arith, ap length c.new-writer.ensures.written);
      room = omega (arith, ap length c.new-writer.ensures.bits_after, length-bits c.args.bytes.now, c.requires.room);
    })
