-- The range of a step number.
use Rattle.std.proofs.Common.{◌≡◌, ℕ, zero, suc, ◌+◌, ◌-◌, ◌*◌, ◌/◌, ◌%◌, ◌^◌, ◌<◌, ◌≤◌, refl, sym, ap, ◌∙◌, ⊎_elim, arith}
use Rattle.std.proofs.Math.Nat.{pow-suc, mul-div_cancel, mul-div_cancel_left}
use Rattle.std.proofs.Math.Pow.{pow_mono}
use Rattle.std.proofs.lemmas.Nat.{mul-le, pow-add, pow_pos}
use Rattle.std.proofs.lemmas.Bool.{cases_lt}
use Rattle.std.specs.Prelude.{slice_index}
use Rattle.apv_base.specs.model.Quant.{scale_table, step_number, max_qp, shift_of}

-- the maximum entry of the table
pub table_most : (r : ℕ) → slice_index scale_table r ≤ 71
table_most zero = omega arith
table_most (suc zero) = omega arith
table_most (suc (suc zero)) = omega arith
table_most (suc (suc (suc zero))) = omega arith
table_most (suc (suc (suc (suc zero)))) = omega arith
table_most (suc (suc (suc (suc (suc r))))) = later r
  where
    later : (r : ℕ) → slice_index scale_table (suc (suc (suc (suc (suc r))))) ≤ 71
    later zero = omega arith
    later (suc r) = omega arith

-- and of its first four
table_low : (r : ℕ) → r ≤ 3 → slice_index scale_table r ≤ 57
table_low zero h = omega arith
table_low (suc zero) h = omega arith
table_low (suc (suc zero)) h = omega arith
table_low (suc (suc (suc zero))) h = omega arith
table_low (suc (suc (suc (suc r)))) h = absurd (omega arith)

-- a step number is below 2 ^ 27
pub step_below : (m qp depth : ℕ) → m < 256 → depth ≤ 12 → qp ≤ max_qp depth → step_number m qp < 2 ^ 27
step_below m qp depth small high most =
    let table = table_most (qp % 6) in
    let rows : qp / 6 ≤ 12 = omega arith in
    let power : 2 ^ (qp / 6) ≤ 2 ^ 12 = pow_mono rows in
    let times = mul-le m (slice_index scale_table (qp % 6)) 255 71 (omega arith) table in
    let all = mul-le (m * slice_index scale_table (qp % 6)) (2 ^ (qp / 6)) (255 * 71) (2 ^ 12) times power in
    omega arith

-- and so small that no scaled level exceeds 32 bits
pub step_within : (m qp depth : ℕ) → m < 256 → 10 ≤ depth → qp ≤ max_qp depth → step_number m qp < 2 ^ (16 + shift_of depth)
step_within m qp depth small low most =
    let e : 2 ^ (16 + shift_of depth) ≡ 2 ^ 14 * 2 ^ depth = let is : 16 + shift_of depth ≡ 14 + depth = omega arith in rw (is, pow-add 2 14 depth) refl in
    let some = pow_pos depth in
    ⊎_elim
    (λ (lt : qp / 6 < depth).
    let power : 2 ^ (suc (qp / 6)) ≤ 2 ^ depth = pow_mono lt in
    let times = mul-le m (slice_index scale_table (qp % 6)) 255 71 (omega arith) (table_most (qp % 6)) in
    let all = mul-le (m * slice_index scale_table (qp % 6)) (2 ^ (qp / 6)) (255 * 71) (2 ^ (qp / 6)) times (omega arith) in
    omega (arith, pow-suc 2 (qp / 6)))
    (λ (ge : depth ≤ qp / 6).
    let row : qp / 6 ≤ depth = omega arith in
    let rest : qp % 6 ≤ 3 = omega arith in
    let power : 2 ^ (qp / 6) ≤ 2 ^ depth = pow_mono row in
    let times = mul-le m (slice_index scale_table (qp % 6)) 255 57 (omega arith) (table_low (qp % 6) rest) in
    let all = mul-le (m * slice_index scale_table (qp % 6)) (2 ^ (qp / 6)) (255 * 57) (2 ^ depth) times power in
    omega arith)
    (cases_lt (qp / 6) depth)

-- a step number is a multiple of each power of 2 up to that of its QP
pub step_multiple : (m qp t : ℕ) → t ≤ qp / 6 → step_number m qp / 2 ^ t * 2 ^ t ≡ step_number m qp
step_multiple m qp t low =
    let x = m * slice_index scale_table (qp % 6) * 2 ^ (qp / 6 - t) in
    let power : 2 ^ (qp / 6 - t) * 2 ^ t ≡ 2 ^ (qp / 6) = rw (← pow-add 2 (qp / 6 - t) t) (ap (λ k. 2 ^ k) {y = qp / 6} (omega arith)) in
    let is : 2 ^ t * x ≡ step_number m qp = omega (arith, ap (λ k. m * slice_index scale_table (qp % 6) * k) power) in
    let cancel : 2 ^ t * x / 2 ^ t ≡ x = mul-div_cancel_left x (pow_pos t) in
    rw (← is, cancel) (omega arith)

-- a multiple of a power of 2 is one of each smaller power
pub multiple_less : (s t u : ℕ) → s / 2 ^ t * 2 ^ t ≡ s → u ≤ t → s / 2 ^ u * 2 ^ u ≡ s
multiple_less s t u multiple low =
    let x = s / 2 ^ t * 2 ^ (t - u) in
    let power : 2 ^ (t - u) * 2 ^ u ≡ 2 ^ t = rw (← pow-add 2 (t - u) u) (ap (λ k. 2 ^ k) {y = t} (omega arith)) in
    let is : x * 2 ^ u ≡ s = omega (arith, ap (λ k. s / 2 ^ t * k) power) in
    let cancel : x * 2 ^ u / 2 ^ u ≡ x = mul-div_cancel x (pow_pos u) in
    let quotient : s / 2 ^ u ≡ x = ap (λ k. k / 2 ^ u) (sym is) ∙ cancel in
    rw quotient is
