use Rattle.std.proofs.Common.{pos, arith, w32}
use Rattle.std.proofs.lemmas.Int.{ints}
use Rattle.apv_transform.proofs.LaneBits.{holds_element, holds_entry, holds_sum, holds_difference, holds_product, holds_wider, four_are, four_within}
use Rattle.apv_transform.proofs.kernel.odd_frequencies.Goals as goal

pub returns : goal.returns
returns c =
    let within = c.requires in
    let lines = c.args.lines.now in
    let line_0 = holds_difference w32 (holds_element w32 lines 0 c.element.result c.element.ensures (omega arith) (omega arith) (within 0 (omega arith)) (omega arith)) (holds_element w32 lines 7 c.element-2.result c.element-2.ensures (omega arith) (omega arith) (within 7 (omega arith)) (omega arith)) (omega arith) in
    let line_1 = holds_difference w32 (holds_element w32 lines 1 c.element-3.result c.element-3.ensures (omega arith) (omega arith) (within 1 (omega arith)) (omega arith)) (holds_element w32 lines 6 c.element-4.result c.element-4.ensures (omega arith) (omega arith) (within 6 (omega arith)) (omega arith)) (omega arith) in
    let line_2 = holds_difference w32 (holds_element w32 lines 2 c.element-5.result c.element-5.ensures (omega arith) (omega arith) (within 2 (omega arith)) (omega arith)) (holds_element w32 lines 5 c.element-6.result c.element-6.ensures (omega arith) (omega arith) (within 5 (omega arith)) (omega arith)) (omega arith) in
    let line_3 = holds_difference w32 (holds_element w32 lines 3 c.element-7.result c.element-7.ensures (omega arith) (omega arith) (within 3 (omega arith)) (omega arith)) (holds_element w32 lines 4 c.element-8.result c.element-8.ensures (omega arith) (omega arith) (within 4 (omega arith)) (omega arith)) (omega arith) in
    let times_89 = holds_entry w32 8 (pos 89) (omega arith) (omega arith) in
    let times_75 = holds_entry w32 8 (pos 75) (omega arith) (omega arith) in
    let times_50 = holds_entry w32 8 (pos 50) (omega arith) (omega arith) in
    let times_18 = holds_entry w32 8 (pos 18) (omega arith) (omega arith) in
    let value_0 = holds_wider {n = 134217728} (holds_sum w32 (holds_sum w32 (holds_product w32 line_0 times_89 (omega arith)) (holds_product w32 line_1 times_75 (omega arith)) (omega arith)) (holds_sum w32 (holds_product w32 line_2 times_50 (omega arith)) (holds_product w32 line_3 times_18 (omega arith)) (omega arith)) (omega arith)) (omega arith) in
    let value_1 = holds_wider {n = 134217728} (holds_difference w32 (holds_difference w32 (holds_product w32 line_0 times_75 (omega arith)) (holds_product w32 line_1 times_18 (omega arith)) (omega arith)) (holds_sum w32 (holds_product w32 line_2 times_89 (omega arith)) (holds_product w32 line_3 times_50 (omega arith)) (omega arith)) (omega arith)) (omega arith) in
    let value_2 = holds_wider {n = 134217728} (holds_sum w32 (holds_difference w32 (holds_product w32 line_0 times_50 (omega arith)) (holds_product w32 line_1 times_89 (omega arith)) (omega arith)) (holds_sum w32 (holds_product w32 line_2 times_18 (omega arith)) (holds_product w32 line_3 times_75 (omega arith)) (omega arith)) (omega arith)) (omega arith) in
    let value_3 = holds_wider {n = 134217728} (holds_sum w32 (holds_difference w32 (holds_product w32 line_0 times_18 (omega arith)) (holds_product w32 line_1 times_50 (omega arith)) (omega arith)) (holds_difference w32 (holds_product w32 line_2 times_75 (omega arith)) (holds_product w32 line_3 times_89 (omega arith)) (omega arith)) (omega arith)) (omega arith) in
    record {
      value = four_are w32 c.four.result c.four.ensures value_0 value_1 value_2 value_3 _
          (λ i h. omega (arith, ints)) (λ i h. omega (arith, ints)) (λ i h. omega (arith, ints)) (λ i h. omega (arith, ints));
      bound = four_within w32 c.four.result c.four.ensures value_0 value_1 value_2 value_3;
    }
