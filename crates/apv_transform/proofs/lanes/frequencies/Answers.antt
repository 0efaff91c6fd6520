use Rattle.std.proofs.Common.{◌≡◌, ◌+◌, ◌*◌, arith, w32, ap}
use Rattle.std.specs.Prelude.{ℤ, ◌+ℤ◌}
use Rattle.std.specs.Int.{int_shr}
use Rattle.apv_base.specs.model.Transform.{rounded}
use Rattle.apv_transform.specs.Lanes.{lane_at}
use Rattle.apv_transform.proofs.LaneBits.{holds_element, holds_same, holds_sum, holds_halved, half_within, eight_are}
use Rattle.apv_transform.proofs.Places.{each_of_4, by_parity}
use Rattle.apv_transform.proofs.lanes.frequencies.Goals as goal

pub returns : goal.returns
returns c =
    let shift = c.args.shift in
    let half = holds_same w32 8 c.half-half.result (half_within shift c.requires.high c.half-half.ensures) (omega arith) in
    let even_0 = holds_element w32 c.args.even.now 0 c.element-even_0.result c.element-even_0.ensures (omega arith) (omega arith) (c.requires.even 0 (omega arith)) (omega arith) in
    let odd_0 = holds_element w32 c.args.odd.now 0 c.element-odd_0.result c.element-odd_0.ensures (omega arith) (omega arith) (c.requires.odd 0 (omega arith)) (omega arith) in
    let even_1 = holds_element w32 c.args.even.now 1 c.element-even_1.result c.element-even_1.ensures (omega arith) (omega arith) (c.requires.even 1 (omega arith)) (omega arith) in
    let odd_1 = holds_element w32 c.args.odd.now 1 c.element-odd_1.result c.element-odd_1.ensures (omega arith) (omega arith) (c.requires.odd 1 (omega arith)) (omega arith) in
    let even_2 = holds_element w32 c.args.even.now 2 c.element-even_2.result c.element-even_2.ensures (omega arith) (omega arith) (c.requires.even 2 (omega arith)) (omega arith) in
    let odd_2 = holds_element w32 c.args.odd.now 2 c.element-odd_2.result c.element-odd_2.ensures (omega arith) (omega arith) (c.requires.odd 2 (omega arith)) (omega arith) in
    let even_3 = holds_element w32 c.args.even.now 3 c.element-even_3.result c.element-even_3.ensures (omega arith) (omega arith) (c.requires.even 3 (omega arith)) (omega arith) in
    let odd_3 = holds_element w32 c.args.odd.now 3 c.element-odd_3.result c.element-odd_3.ensures (omega arith) (omega arith) (c.requires.odd 3 (omega arith)) (omega arith) in
    let even_0s = holds_halved (holds_sum w32 even_0 half (omega arith)) (omega arith) shift c.requires.low in
    let odd_0s = holds_halved (holds_sum w32 odd_0 half (omega arith)) (omega arith) shift c.requires.low in
    let even_1s = holds_halved (holds_sum w32 even_1 half (omega arith)) (omega arith) shift c.requires.low in
    let odd_1s = holds_halved (holds_sum w32 odd_1 half (omega arith)) (omega arith) shift c.requires.low in
    let even_2s = holds_halved (holds_sum w32 even_2 half (omega arith)) (omega arith) shift c.requires.low in
    let odd_2s = holds_halved (holds_sum w32 odd_2 half (omega arith)) (omega arith) shift c.requires.low in
    let even_3s = holds_halved (holds_sum w32 even_3 half (omega arith)) (omega arith) shift c.requires.low in
    let odd_3s = holds_halved (holds_sum w32 odd_3 half (omega arith)) (omega arith) shift c.requires.low in
    let even = lane_at c.args.even.now in
    let odd = lane_at c.args.odd.now in
    let same = λ (z : ℤ). ap (λ h. int_shr (z +ℤ h) shift) c.half-half.ensures in
    let all = eight_are w32 c.eight.result c.eight.ensures even_0s odd_0s even_1s odd_1s even_2s odd_2s even_3s odd_3s
    (λ p lane. by_parity p (λ k. rounded shift (even k lane)) (λ k. rounded shift (odd k lane)))
    (λ lane h. same (even 0 lane)) (λ lane h. same (odd 0 lane)) (λ lane h. same (even 1 lane)) (λ lane h. same (odd 1 lane))
    (λ lane h. same (even 2 lane)) (λ lane h. same (odd 2 lane)) (λ lane h. same (even 3 lane)) (λ lane h. same (odd 3 lane)) in
    record {
      even = λ k lane hk hl. each_of_4 (λ k. lane_at c.eight.result (2 * k) lane ≡ rounded shift (even k lane))
          (all 0 lane (omega arith) hl) (all 2 lane (omega arith) hl) (all 4 lane (omega arith) hl) (all 6 lane (omega arith) hl) k hk;
      odd = λ k lane hk hl. each_of_4 (λ k. lane_at c.eight.result (2 * k + 1) lane ≡ rounded shift (odd k lane))
          (all 1 lane (omega arith) hl) (all 3 lane (omega arith) hl) (all 5 lane (omega arith) hl) (all 7 lane (omega arith) hl) k hk;
    }
