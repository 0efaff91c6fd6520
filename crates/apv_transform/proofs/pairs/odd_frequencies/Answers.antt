use Rattle.std.proofs.Common.{◌≡◌, ◌+◌, ◌*◌, arith}
use Rattle.std.specs.Prelude.{◌*ℤ◌}
use Rattle.apv_base.specs.model.Transform.{transform_entry}
use Rattle.apv_transform.specs.Line.{sum_4}
use Rattle.apv_transform.specs.Lanes.{lane_at}
use Rattle.apv_transform.proofs.Places.{each_of_4}
use Rattle.apv_transform.proofs.pairs.odd_frequencies.Goals as goal

-- the entries at the odd frequencies and the positions 0 to 3 are the same column by column
pub returns : goal.returns
returns c =
    let sums = c.odd_rows.ensures.value in
    record {
      value = λ k lane few small.
          each_of_4 (λ k. lane_at c.odd_rows.result k lane ≡ sum_4 (λ y. transform_entry (2 * k + 1) y *ℤ lane_at c.args.mirrored.now (4 + y) lane))
          (sums 0 lane (omega arith) small) (sums 1 lane (omega arith) small) (sums 2 lane (omega arith) small) (sums 3 lane (omega arith) small) k few;
      bound = c.odd_rows.ensures.bound;
    }
