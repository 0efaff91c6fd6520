use Rattle.std.proofs.Common.{◌≡◌, get_or, [], arith}
use Rattle.apv_transform.specs.Sample.{AreCoefficientsOf}
use Rattle.apv_tile.specs.Blocks.{block_at}
use Rattle.apv_tile.proofs.BlockLemmas.{block_is, block_below, one_more_block}
use Rattle.apv_tile.proofs.by_block.transform_component.Goals as goal

pub forward-requires-clause-samples : goal.forward-requires-clause-samples
forward-requires-clause-samples c =
    block_below _ c.args.samples.now c.loop-block.block (get_or c.as_chunks.result.0.now c.loop-block.block []) c.requires.samples (omega (arith, c.loop-block-test.true, c.as_chunks.ensures.front_len))
    (block_is c.args.samples.now c.as_chunks.result.0.now c.loop-block.block c.as_chunks.ensures.front c.as_chunks.ensures.front_len c.loop-block-test.true)

pub loop-block-preserved : goal.loop-block-preserved
loop-block-preserved c =
    let is : get_or c.as_chunks.result.0.now c.loop-block.block [] ≡ block_at c.args.samples.now c.loop-block.block =
    block_is c.args.samples.now c.as_chunks.result.0.now c.loop-block.block c.as_chunks.ensures.front c.as_chunks.ensures.front_len c.loop-block-test.true in
    one_more_block (AreCoefficientsOf c.args.depth) c.args.samples.now c.loop-block.coeffs c.store.new.values c.loop-block.block
    (get_or c.as_chunks.result.0.now c.loop-block.block []) _ c.loop-block.invariant is c.store.ensures.here c.store.ensures.others
    c.forward.ensures.value

pub returns : goal.returns
returns c = λ block lt. c.loop-block.invariant block (omega (arith, lt, c.loop-block-test.false, c.as_chunks.ensures.front_len))
