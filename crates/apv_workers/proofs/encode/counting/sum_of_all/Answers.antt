use Rattle.std.proofs.Common.{◌+◌, ap, ap₂, sym, ◌∙◌, arith, ℕ}
use Rattle.std.specs.List.{sum}
use Rattle.apv_base.specs.model.Header.{header_comps}
use Rattle.apv_workers.specs.Lengths.{tile_lengths}
use Rattle.apv_workers.proofs.Counted.{sum-each-more}
use Rattle.apv_workers.proofs.encode.counting.sum_of_all.Goals as goal

pub loop-tile-preserved : goal.loop-tile-preserved
loop-tile-preserved c = record {
  total = ap₂ (λ (a b : ℕ). a + b) c.loop-tile.invariant.total (c.sum_of-total.ensures.sum ∙ ap sum c.lengths_of.ensures.lengths)
      ∙ sym (sum-each-more c.loop-tile.tile (λ tile. sum (tile_lengths c.args.lengths.now (header_comps c.args.head.now.header) tile)));
  few = omega (arith, c.loop-tile.invariant.few, c.sum_of-total.ensures.few);
}
