use Rattle.std.proofs.Common.{pos, arith, w32}
use Rattle.std.proofs.lemmas.Int.{ints}
use Rattle.apv_transform.proofs.LaneBits.{holds_element, holds_entry, holds_sum, holds_difference, holds_product, holds_wider, four_are, four_within}
use Rattle.apv_transform.proofs.kernel.even_frequencies.Goals as goal

pub returns : goal.returns
returns c =
    let within = c.requires in
    let lines = c.args.lines.now in
    let sum_0 = holds_sum w32 (holds_element w32 lines 0 c.element.result c.element.ensures (omega arith) (omega arith) (within 0 (omega arith)) (omega arith)) (holds_element w32 lines 7 c.element-2.result c.element-2.ensures (omega arith) (omega arith) (within 7 (omega arith)) (omega arith)) (omega arith) in
    let sum_1 = holds_sum w32 (holds_element w32 lines 1 c.element-3.result c.element-3.ensures (omega arith) (omega arith) (within 1 (omega arith)) (omega arith)) (holds_element w32 lines 6 c.element-4.result c.element-4.ensures (omega arith) (omega arith) (within 6 (omega arith)) (omega arith)) (omega arith) in
    let sum_2 = holds_sum w32 (holds_element w32 lines 2 c.element-5.result c.element-5.ensures (omega arith) (omega arith) (within 2 (omega arith)) (omega arith)) (holds_element w32 lines 5 c.element-6.result c.element-6.ensures (omega arith) (omega arith) (within 5 (omega arith)) (omega arith)) (omega arith) in
    let sum_3 = holds_sum w32 (holds_element w32 lines 3 c.element-7.result c.element-7.ensures (omega arith) (omega arith) (within 3 (omega arith)) (omega arith)) (holds_element w32 lines 4 c.element-8.result c.element-8.ensures (omega arith) (omega arith) (within 4 (omega arith)) (omega arith)) (omega arith) in
    let times_84 = holds_entry w32 8 (pos 84) (omega arith) (omega arith) in
    let times_35 = holds_entry w32 8 (pos 35) (omega arith) (omega arith) in
    let times_64 = holds_entry w32 8 (pos 64) (omega arith) (omega arith) in
    let outer = holds_difference w32 sum_0 sum_3 (omega arith) in
    let inner = holds_difference w32 sum_1 sum_2 (omega arith) in
    let value_0 = holds_wider {n = 134217728} (holds_product w32 (holds_sum w32 (holds_sum w32 sum_0 sum_3 (omega arith)) (holds_sum w32 sum_1 sum_2 (omega arith)) (omega arith)) times_64 (omega arith)) (omega arith) in
    let value_1 = holds_wider {n = 134217728} (holds_sum w32 (holds_product w32 outer times_84 (omega arith)) (holds_product w32 inner times_35 (omega arith)) (omega arith)) (omega arith) in
    let value_2 = holds_wider {n = 134217728} (holds_product w32 (holds_difference w32 (holds_sum w32 sum_0 sum_3 (omega arith)) (holds_sum w32 sum_1 sum_2 (omega arith)) (omega arith)) times_64 (omega arith)) (omega arith) in
    let value_3 = holds_wider {n = 134217728} (holds_difference w32 (holds_product w32 outer times_35 (omega arith)) (holds_product w32 inner times_84 (omega arith)) (omega arith)) (omega arith) in
    record {
      value = four_are w32 c.four.result c.four.ensures value_0 value_1 value_2 value_3 _
          (λ i h. omega (arith, ints)) (λ i h. omega (arith, ints)) (λ i h. omega (arith, ints)) (λ i h. omega (arith, ints));
      bound = four_within w32 c.four.result c.four.ensures value_0 value_1 value_2 value_3;
    }
