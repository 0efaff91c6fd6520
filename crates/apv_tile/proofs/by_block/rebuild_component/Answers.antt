use Rattle.std.proofs.Common.{◌≡◌, get_or, [], arith}
use Rattle.apv_tile.specs.Blocks.{block_at, AreSamplesOfLevels}
use Rattle.apv_tile.proofs.BlockLemmas.{block_is, one_more_block}
use Rattle.apv_tile.proofs.TransformLemmas.{samples_of_levels}
use Rattle.apv_tile.proofs.by_block.rebuild_component.Goals as goal

pub loop-block-preserved : goal.loop-block-preserved
loop-block-preserved c =
    let is : get_or c.as_chunks.result.0.now c.loop-block.block [] ≡ block_at c.args.levels.now c.loop-block.block =
    block_is c.args.levels.now c.as_chunks.result.0.now c.loop-block.block c.as_chunks.ensures.front c.as_chunks.ensures.front_len c.loop-block-test.true in
    one_more_block (AreSamplesOfLevels c.args.scale.now c.args.depth) c.args.levels.now c.loop-block.samples c.store.new.values c.loop-block.block
    (get_or c.as_chunks.result.0.now c.loop-block.block []) _ c.loop-block.invariant is c.store.ensures.here c.store.ensures.others
    (samples_of_levels c.args.scale.now c.args.depth (get_or c.as_chunks.result.0.now c.loop-block.block []) c.scale_block-coeffs.result c.inverse.result c.scale_block-coeffs.ensures c.inverse.ensures.value)

pub returns : goal.returns
returns c = λ block lt. c.loop-block.invariant block (omega (arith, lt, c.loop-block-test.false, c.as_chunks.ensures.front_len))
