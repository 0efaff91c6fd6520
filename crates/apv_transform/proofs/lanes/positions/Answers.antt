use Rattle.std.proofs.Common.{◌≡◌, ℕ, ◌-◌, arith, w32}
use Rattle.std.specs.Prelude.{◌+ℤ◌, ◌-ℤ◌}
use Rattle.apv_base.specs.model.Transform.{rounded}
use Rattle.apv_transform.specs.Lanes.{lane_at}
use Rattle.apv_transform.proofs.LaneBits.{holds_element, holds_same, holds_sum, holds_difference, holds_halved, half_within, half_before_sum, half_before_difference, eight_are}
use Rattle.apv_transform.proofs.Places.{each_of_4, by_position}
use Rattle.apv_transform.proofs.lanes.positions.Goals as goal

pub returns : goal.returns
returns c =
    let shift = c.args.shift in
    let half = holds_same w32 8 c.half-half.result (half_within shift c.requires.high c.half-half.ensures) (omega arith) in
    let even_0 = holds_element w32 c.args.even.now 0 c.element-even_0.result c.element-even_0.ensures (omega arith) (omega arith) (c.requires.even 0 (omega arith)) (omega arith) in
    let odd_0 = holds_element w32 c.args.odd.now 0 c.element-odd_0.result c.element-odd_0.ensures (omega arith) (omega arith) (c.requires.odd 0 (omega arith)) (omega arith) in
    let even_1 = holds_element w32 c.args.even.now 1 c.element-even_1.result c.element-even_1.ensures (omega arith) (omega arith) (c.requires.even 1 (omega arith)) (omega arith) in
    let odd_1 = holds_element w32 c.args.odd.now 1 c.element-odd_1.result c.element-odd_1.ensures (omega arith) (omega arith) (c.requires.odd 1 (omega arith)) (omega arith) in
    let even_2 = holds_element w32 c.args.even.now 2 c.element-even_2.result c.element-even_2.ensures (omega arith) (omega arith) (c.requires.even 2 (omega arith)) (omega arith) in
    let odd_2 = holds_element w32 c.args.odd.now 2 c.element-odd_2.result c.element-odd_2.ensures (omega arith) (omega arith) (c.requires.odd 2 (omega arith)) (omega arith) in
    let even_3 = holds_element w32 c.args.even.now 3 c.element-even_3.result c.element-even_3.ensures (omega arith) (omega arith) (c.requires.even 3 (omega arith)) (omega arith) in
    let odd_3 = holds_element w32 c.args.odd.now 3 c.element-odd_3.result c.element-odd_3.ensures (omega arith) (omega arith) (c.requires.odd 3 (omega arith)) (omega arith) in
    let near_0 = holds_halved (holds_sum w32 (holds_sum w32 even_0 half (omega arith)) odd_0 (omega arith)) (omega arith) shift c.requires.low in
    let far_0 = holds_halved (holds_difference w32 (holds_sum w32 even_0 half (omega arith)) odd_0 (omega arith)) (omega arith) shift c.requires.low in
    let near_1 = holds_halved (holds_sum w32 (holds_sum w32 even_1 half (omega arith)) odd_1 (omega arith)) (omega arith) shift c.requires.low in
    let far_1 = holds_halved (holds_difference w32 (holds_sum w32 even_1 half (omega arith)) odd_1 (omega arith)) (omega arith) shift c.requires.low in
    let near_2 = holds_halved (holds_sum w32 (holds_sum w32 even_2 half (omega arith)) odd_2 (omega arith)) (omega arith) shift c.requires.low in
    let far_2 = holds_halved (holds_difference w32 (holds_sum w32 even_2 half (omega arith)) odd_2 (omega arith)) (omega arith) shift c.requires.low in
    let near_3 = holds_halved (holds_sum w32 (holds_sum w32 even_3 half (omega arith)) odd_3 (omega arith)) (omega arith) shift c.requires.low in
    let far_3 = holds_halved (holds_difference w32 (holds_sum w32 even_3 half (omega arith)) odd_3 (omega arith)) (omega arith) shift c.requires.low in
    let even = lane_at c.args.even.now in
    let odd = lane_at c.args.odd.now in
    let near = λ (k lane : ℕ). half_before_sum shift (even k lane) (odd k lane) _ _ c.half-half.ensures in
    let far = λ (k lane : ℕ). half_before_difference shift (even k lane) (odd k lane) _ _ c.half-half.ensures in
    let all = eight_are w32 c.eight.result c.eight.ensures near_0 near_1 near_2 near_3 far_3 far_2 far_1 far_0
    (λ p lane. by_position p (λ k. rounded shift (even k lane +ℤ odd k lane)) (λ k. rounded shift (even k lane -ℤ odd k lane)))
    (λ lane h. near 0 lane) (λ lane h. near 1 lane) (λ lane h. near 2 lane) (λ lane h. near 3 lane)
    (λ lane h. far 3 lane) (λ lane h. far 2 lane) (λ lane h. far 1 lane) (λ lane h. far 0 lane) in
    record {
      near = λ k lane hk hl. each_of_4 (λ k. lane_at c.eight.result k lane ≡ rounded shift (even k lane +ℤ odd k lane))
          (all 0 lane (omega arith) hl) (all 1 lane (omega arith) hl) (all 2 lane (omega arith) hl) (all 3 lane (omega arith) hl) k hk;
      far = λ k lane hk hl. each_of_4 (λ k. lane_at c.eight.result (7 - k) lane ≡ rounded shift (even k lane -ℤ odd k lane))
          (all 7 lane (omega arith) hl) (all 6 lane (omega arith) hl) (all 5 lane (omega arith) hl) (all 4 lane (omega arith) hl) k hk;
    }
