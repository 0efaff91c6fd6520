use Rattle.std.proofs.Common.{arith, w32}
use Rattle.std.proofs.lemmas.Int.{ints}
use Rattle.apv_transform.proofs.LaneBits.{holds_result, holds_wider, four_are, four_within}
use Rattle.apv_transform.proofs.pairs.odd_rows.Goals as goal

pub returns : goal.returns
returns c =
    let value_0 = holds_wider {n = 134217728} (holds_result c.weighted_rows.result (omega arith) c.weighted_rows.ensures.bound (omega arith) c.weighted_rows.ensures.value) (omega arith) in
    let value_1 = holds_wider {n = 134217728} (holds_result c.weighted_rows-2.result (omega arith) c.weighted_rows-2.ensures.bound (omega arith) c.weighted_rows-2.ensures.value) (omega arith) in
    let value_2 = holds_wider {n = 134217728} (holds_result c.weighted_rows-3.result (omega arith) c.weighted_rows-3.ensures.bound (omega arith) c.weighted_rows-3.ensures.value) (omega arith) in
    let value_3 = holds_wider {n = 134217728} (holds_result c.weighted_rows-4.result (omega arith) c.weighted_rows-4.ensures.bound (omega arith) c.weighted_rows-4.ensures.value) (omega arith) in
    record {
      value = four_are w32 c.four.result c.four.ensures value_0 value_1 value_2 value_3 _
          (λ i h. omega (arith, ints)) (λ i h. omega (arith, ints)) (λ i h. omega (arith, ints)) (λ i h. omega (arith, ints));
      bound = four_within w32 c.four.result c.four.ensures value_0 value_1 value_2 value_3;
    }
