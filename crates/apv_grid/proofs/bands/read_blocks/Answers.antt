use Rattle.std.proofs.Common.{◌≡◌, ◌+◌, ◌%◌, ◌≤◌, length, arith}
use Rattle.apv_grid.proofs.BandLemmas.{block-within, blocks-more}
use Rattle.apv_grid.proofs.bands.read_blocks.Goals as goal

pub overflow_add-place : goal.overflow_add-place
overflow_add-place c = omega (arith, c.place_in_row.ensures, c.requires.within 0 c.loop-done.done (omega arith) (omega arith))

pub read_block-requires-clause-within : goal.read_block-requires-clause-within
read_block-requires-clause-within c = λ row h.
    block-within c.args.half c.args.start c.args.first c.loop-done.done c.args.count c.min-len.result c.place_in_row.result row (length c.args.values.now) (λ i k. c.requires.within row i h k)
    (omega (arith, c.min-len.ensures)) (omega (arith, c.min-len.ensures)) (omega (arith, c.min-len.ensures)) c.place_in_row.ensures

pub loop-done-preserved : goal.loop-done-preserved
loop-done-preserved c = record {
  inside = omega (arith, c.min-len.ensures);
  takes =
      blocks-more c.args.half c.args.values.now c.args.start c.args.first c.args.rows c.args.stride c.args.at c.loop-done.done c.min-len.result (c.args.start + c.place_in_row.result) c.args.out.now c.loop-done.out c.read_block.new.out
      (omega (arith, c.min-len.ensures)) (omega (arith, c.place_in_row.ensures)) c.loop-done.invariant.takes c.read_block.ensures;
}
