use Rattle.std.proofs.Common.{pos, arith, w32}
use Rattle.std.proofs.lemmas.Int.{ints}
use Rattle.apv_transform.proofs.LaneBits.{holds_element, holds_entry, holds_sum, holds_difference, holds_product, holds_wider, four_are, four_within}
use Rattle.apv_transform.proofs.kernel.even_sums.Goals as goal

pub returns : goal.returns
returns c =
    let within = c.requires in
    let lines = c.args.lines.now in
    let line_0 = holds_element w32 lines 0 c.element-line_0.result c.element-line_0.ensures (omega arith) (omega arith) (within 0 (omega arith)) (omega arith) in
    let line_2 = holds_element w32 lines 2 c.element-line_2.result c.element-line_2.ensures (omega arith) (omega arith) (within 2 (omega arith)) (omega arith) in
    let line_4 = holds_element w32 lines 4 c.element-line_4.result c.element-line_4.ensures (omega arith) (omega arith) (within 4 (omega arith)) (omega arith) in
    let line_6 = holds_element w32 lines 6 c.element-line_6.result c.element-line_6.ensures (omega arith) (omega arith) (within 6 (omega arith)) (omega arith) in
    let times_64 = holds_entry w32 8 (pos 64) (omega arith) (omega arith) in
    let times_84 = holds_entry w32 8 (pos 84) (omega arith) (omega arith) in
    let times_35 = holds_entry w32 8 (pos 35) (omega arith) (omega arith) in
    let sum = holds_product w32 (holds_sum w32 line_0 line_4 (omega arith)) times_64 (omega arith) in
    let difference = holds_product w32 (holds_difference w32 line_0 line_4 (omega arith)) times_64 (omega arith) in
    let outer = holds_sum w32 (holds_product w32 line_2 times_84 (omega arith)) (holds_product w32 line_6 times_35 (omega arith)) (omega arith) in
    let inner = holds_difference w32 (holds_product w32 line_2 times_35 (omega arith)) (holds_product w32 line_6 times_84 (omega arith)) (omega arith) in
    let value_0 = holds_wider {n = 134217728} (holds_sum w32 sum outer (omega arith)) (omega arith) in
    let value_1 = holds_wider {n = 134217728} (holds_sum w32 difference inner (omega arith)) (omega arith) in
    let value_2 = holds_wider {n = 134217728} (holds_difference w32 difference inner (omega arith)) (omega arith) in
    let value_3 = holds_wider {n = 134217728} (holds_difference w32 sum outer (omega arith)) (omega arith) in
    record {
      value = four_are w32 c.four.result c.four.ensures value_0 value_1 value_2 value_3 _
          (λ i h. omega (arith, ints)) (λ i h. omega (arith, ints)) (λ i h. omega (arith, ints)) (λ i h. omega (arith, ints));
      bound = four_within w32 c.four.result c.four.ensures value_0 value_1 value_2 value_3;
    }
