use Rattle.std.proofs.Common.{◌≡◌, ◌+◌, ◌-◌, arith}
use Rattle.std.specs.Prelude.{◌+ℤ◌, ◌-ℤ◌}
use mir.Syntax.{w16}
use Rattle.apv_transform.specs.Lanes.{lane_at}
use Rattle.apv_transform.proofs.LaneBits.{holds_element_16, eight_at, eight_fit}
use Rattle.apv_transform.proofs.LaneMoves.{holds_halved_sum, holds_halved_difference, halved_fit}
use Rattle.apv_transform.proofs.Places.{each_of_4}
use Rattle.apv_transform.proofs.pairs.mirrored.Goals as goal

pub returns : goal.returns
returns c =
    let rows = c.args.rows.now in
    let halved = c.requires in
    let row_0 = holds_element_16 rows 0 c.element-row_0.result c.element-row_0.ensures (omega arith) (omega arith) (λ i h. halved_fit (halved 0 i (omega arith) h)) in
    let row_1 = holds_element_16 rows 1 c.element-row_1.result c.element-row_1.ensures (omega arith) (omega arith) (λ i h. halved_fit (halved 1 i (omega arith) h)) in
    let row_2 = holds_element_16 rows 2 c.element-row_2.result c.element-row_2.ensures (omega arith) (omega arith) (λ i h. halved_fit (halved 2 i (omega arith) h)) in
    let row_3 = holds_element_16 rows 3 c.element-row_3.result c.element-row_3.ensures (omega arith) (omega arith) (λ i h. halved_fit (halved 3 i (omega arith) h)) in
    let row_4 = holds_element_16 rows 4 c.element-row_4.result c.element-row_4.ensures (omega arith) (omega arith) (λ i h. halved_fit (halved 4 i (omega arith) h)) in
    let row_5 = holds_element_16 rows 5 c.element-row_5.result c.element-row_5.ensures (omega arith) (omega arith) (λ i h. halved_fit (halved 5 i (omega arith) h)) in
    let row_6 = holds_element_16 rows 6 c.element-row_6.result c.element-row_6.ensures (omega arith) (omega arith) (λ i h. halved_fit (halved 6 i (omega arith) h)) in
    let row_7 = holds_element_16 rows 7 c.element-row_7.result c.element-row_7.ensures (omega arith) (omega arith) (λ i h. halved_fit (halved 7 i (omega arith) h)) in
    let sum_0 = holds_halved_sum row_0 row_7 (λ i h. halved 0 i (omega arith) h) (λ i h. halved 7 i (omega arith) h) in
    let sum_1 = holds_halved_sum row_1 row_6 (λ i h. halved 1 i (omega arith) h) (λ i h. halved 6 i (omega arith) h) in
    let sum_2 = holds_halved_sum row_2 row_5 (λ i h. halved 2 i (omega arith) h) (λ i h. halved 5 i (omega arith) h) in
    let sum_3 = holds_halved_sum row_3 row_4 (λ i h. halved 3 i (omega arith) h) (λ i h. halved 4 i (omega arith) h) in
    let difference_0 = holds_halved_difference row_0 row_7 (λ i h. halved 0 i (omega arith) h) (λ i h. halved 7 i (omega arith) h) in
    let difference_1 = holds_halved_difference row_1 row_6 (λ i h. halved 1 i (omega arith) h) (λ i h. halved 6 i (omega arith) h) in
    let difference_2 = holds_halved_difference row_2 row_5 (λ i h. halved 2 i (omega arith) h) (λ i h. halved 5 i (omega arith) h) in
    let difference_3 = holds_halved_difference row_3 row_4 (λ i h. halved 3 i (omega arith) h) (λ i h. halved 4 i (omega arith) h) in
    let at = eight_at w16 c.eight.result c.eight.ensures sum_0 sum_1 sum_2 sum_3 difference_0 difference_1 difference_2 difference_3 in
    record {
      sums = λ k lane hk hl. each_of_4 (λ k. lane_at c.eight.result k lane ≡ lane_at rows k lane +ℤ lane_at rows (7 - k) lane) (at.0 lane hl) (at.1 lane hl) (at.2 lane hl) (at.3 lane hl) k hk;
      differences = λ k lane hk hl. each_of_4 (λ k. lane_at c.eight.result (4 + k) lane ≡ lane_at rows k lane -ℤ lane_at rows (7 - k) lane) (at.4 lane hl) (at.5 lane hl) (at.6 lane hl) (at.7 lane hl) k hk;
      fits = eight_fit c.eight.result c.eight.ensures sum_0 sum_1 sum_2 sum_3 difference_0 difference_1 difference_2 difference_3;
    }
