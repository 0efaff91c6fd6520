use Rattle.std.proofs.Common.{◌≡◌, ◌+◌, ◌/◌, ◌∙◌, arith}
use Rattle.apv_tile.specs.Blocks.{blocks_of}
use Rattle.apv_tile.proofs.WriteLemmas.{component_counted}
use Rattle.apv_tile.proofs.write.count_bytes.Goals as goal

pub returns : goal.returns
returns c =
    let up : c.div_ceil.result ≡ (c.loop-block.bits + 7) / 8 = omega arith in
    record {
      bytes = up ∙ component_counted c.loop-block.context c.as_chunks.result.0.now (blocks_of c.args.levels.now) c.loop-block.block-index c.loop-block.bits
          c.loop-block-test.false c.as_chunks.ensures.front c.loop-block.invariant.all;
      few = omega (arith, c.loop-block.invariant.few, c.as_chunks.ensures.front_len, c.loop-block-test.false);
    }
