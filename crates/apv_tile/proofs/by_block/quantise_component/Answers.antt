use Rattle.std.proofs.Common.{◌≡◌, get_or, [], arith}
use Rattle.apv_quant.specs.Scale.{AreNearest}
use Rattle.apv_tile.specs.Blocks.{block_at}
use Rattle.apv_tile.proofs.BlockLemmas.{block_is, one_more_block}
use Rattle.apv_tile.proofs.by_block.quantise_component.Goals as goal

pub loop-block-preserved : goal.loop-block-preserved
loop-block-preserved c =
    let is : get_or c.as_chunks.result.0.now c.loop-block.block [] ≡ block_at c.args.coeffs.now c.loop-block.block =
    block_is c.args.coeffs.now c.as_chunks.result.0.now c.loop-block.block c.as_chunks.ensures.front c.as_chunks.ensures.front_len c.loop-block-test.true in
    one_more_block (AreNearest c.args.scale.now.steps c.args.scale.now.shift) c.args.coeffs.now c.loop-block.levels c.store.new.values c.loop-block.block
    (get_or c.as_chunks.result.0.now c.loop-block.block []) _ c.loop-block.invariant is c.store.ensures.here c.store.ensures.others
    c.quantise_block.ensures

pub returns : goal.returns
returns c = λ block lt. c.loop-block.invariant block (omega (arith, lt, c.loop-block-test.false, c.as_chunks.ensures.front_len))
