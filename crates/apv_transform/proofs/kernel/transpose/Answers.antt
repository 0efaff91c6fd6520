use Rattle.std.proofs.Common.{◌≡◌, ℕ, ◌+◌, ◌*◌, ◌/◌, ◌%◌, arith, ◌∙◌, ap₂}
use Rattle.apv_transform.specs.Lanes.{lane_at}
use Rattle.apv_transform.proofs.kernel.transpose.Goals as goal

pub returns : goal.returns
returns c u v hu hv =
    let u₁ : ℕ = 4 * (v % 2) + u / 2 in
    let v₁ : ℕ = 4 * (u % 2) + v / 2 in
    let u₂ : ℕ = 4 * (v₁ % 2) + u₁ / 2 in
    let v₂ : ℕ = 4 * (u₁ % 2) + v₁ / 2 in
    let row : 4 * (v₂ % 2) + u₂ / 2 ≡ v = omega arith in
    let column : 4 * (u₂ % 2) + v₂ / 2 ≡ u = omega arith in
    c.interleaved-3.ensures u v hu hv ∙ c.interleaved-2.ensures u₁ v₁ (omega arith) (omega arith)
    ∙ c.interleaved.ensures u₂ v₂ (omega arith) (omega arith) ∙ ap₂ (lane_at c.args.block.now) row column
