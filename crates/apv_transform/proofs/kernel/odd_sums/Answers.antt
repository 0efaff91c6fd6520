use Rattle.std.proofs.Common.{pos, arith, w32}
use Rattle.std.proofs.lemmas.Int.{ints}
use Rattle.apv_transform.proofs.LaneBits.{holds_element, holds_entry, holds_sum, holds_difference, holds_product, holds_wider, four_are, four_within}
use Rattle.apv_transform.proofs.kernel.odd_sums.Goals as goal

pub returns : goal.returns
returns c =
    let within = c.requires in
    let lines = c.args.lines.now in
    let line_1 = holds_element w32 lines 1 c.element-line_1.result c.element-line_1.ensures (omega arith) (omega arith) (within 1 (omega arith)) (omega arith) in
    let line_3 = holds_element w32 lines 3 c.element-line_3.result c.element-line_3.ensures (omega arith) (omega arith) (within 3 (omega arith)) (omega arith) in
    let line_5 = holds_element w32 lines 5 c.element-line_5.result c.element-line_5.ensures (omega arith) (omega arith) (within 5 (omega arith)) (omega arith) in
    let line_7 = holds_element w32 lines 7 c.element-line_7.result c.element-line_7.ensures (omega arith) (omega arith) (within 7 (omega arith)) (omega arith) in
    let times_89 = holds_entry w32 8 (pos 89) (omega arith) (omega arith) in
    let times_75 = holds_entry w32 8 (pos 75) (omega arith) (omega arith) in
    let times_50 = holds_entry w32 8 (pos 50) (omega arith) (omega arith) in
    let times_18 = holds_entry w32 8 (pos 18) (omega arith) (omega arith) in
    let value_0 = holds_wider {n = 134217728} (holds_sum w32
    (holds_sum w32 (holds_product w32 line_1 times_89 (omega arith)) (holds_product w32 line_3 times_75 (omega arith)) (omega arith))
    (holds_sum w32 (holds_product w32 line_5 times_50 (omega arith)) (holds_product w32 line_7 times_18 (omega arith)) (omega arith)) (omega arith)) (omega arith) in
    let value_1 = holds_wider {n = 134217728} (holds_difference w32
    (holds_difference w32 (holds_product w32 line_1 times_75 (omega arith)) (holds_product w32 line_3 times_18 (omega arith)) (omega arith))
    (holds_sum w32 (holds_product w32 line_5 times_89 (omega arith)) (holds_product w32 line_7 times_50 (omega arith)) (omega arith)) (omega arith)) (omega arith) in
    let value_2 = holds_wider {n = 134217728} (holds_sum w32
    (holds_difference w32 (holds_product w32 line_1 times_50 (omega arith)) (holds_product w32 line_3 times_89 (omega arith)) (omega arith))
    (holds_sum w32 (holds_product w32 line_5 times_18 (omega arith)) (holds_product w32 line_7 times_75 (omega arith)) (omega arith)) (omega arith)) (omega arith) in
    let value_3 = holds_wider {n = 134217728} (holds_sum w32
    (holds_difference w32 (holds_product w32 line_1 times_18 (omega arith)) (holds_product w32 line_3 times_50 (omega arith)) (omega arith))
    (holds_difference w32 (holds_product w32 line_5 times_75 (omega arith)) (holds_product w32 line_7 times_89 (omega arith)) (omega arith)) (omega arith)) (omega arith) in
    record {
      value = four_are w32 c.four.result c.four.ensures value_0 value_1 value_2 value_3 _
          (λ i h. omega (arith, ints)) (λ i h. omega (arith, ints)) (λ i h. omega (arith, ints)) (λ i h. omega (arith, ints));
      bound = four_within w32 c.four.result c.four.ensures value_0 value_1 value_2 value_3;
    }
