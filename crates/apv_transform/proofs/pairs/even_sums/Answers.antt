use Rattle.std.proofs.Common.{arith, w32}
use Rattle.std.proofs.lemmas.Int.{ints}
use Rattle.apv_transform.proofs.LaneBits.{holds_result, holds_sum, holds_difference, holds_wider, four_are, four_within}
use Rattle.apv_transform.proofs.pairs.even_sums.Goals as goal

pub returns : goal.returns
returns c =
    let sum = holds_result c.weighted_pair-sum.result (omega arith) c.weighted_pair-sum.ensures.bound (omega arith) c.weighted_pair-sum.ensures.value in
    let difference = holds_result c.weighted_pair-difference.result (omega arith) c.weighted_pair-difference.ensures.bound (omega arith) c.weighted_pair-difference.ensures.value in
    let outer = holds_result c.weighted_pair-outer.result (omega arith) c.weighted_pair-outer.ensures.bound (omega arith) c.weighted_pair-outer.ensures.value in
    let inner = holds_result c.weighted_pair-inner.result (omega arith) c.weighted_pair-inner.ensures.bound (omega arith) c.weighted_pair-inner.ensures.value in
    let value_0 = holds_wider {n = 134217728} (holds_sum w32 sum outer (omega arith)) (omega arith) in
    let value_1 = holds_wider {n = 134217728} (holds_sum w32 difference inner (omega arith)) (omega arith) in
    let value_2 = holds_wider {n = 134217728} (holds_difference w32 difference inner (omega arith)) (omega arith) in
    let value_3 = holds_wider {n = 134217728} (holds_difference w32 sum outer (omega arith)) (omega arith) in
    record {
      value = four_are w32 c.four.result c.four.ensures value_0 value_1 value_2 value_3 _
          (λ i h. omega (arith, ints)) (λ i h. omega (arith, ints)) (λ i h. omega (arith, ints)) (λ i h. omega (arith, ints));
      bound = four_within w32 c.four.result c.four.ensures value_0 value_1 value_2 value_3;
    }
