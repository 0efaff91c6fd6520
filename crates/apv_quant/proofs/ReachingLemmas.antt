-- Levels of coefficients, bounded from below.
use Rattle.std.proofs.Common.{◌≡◌, ℕ, zero, suc, ◌+◌, ◌-◌, ◌*◌, ◌/◌, ◌%◌, ◌^◌, ◌<◌, ◌≤◌, ℤ, pos, negsuc, sym, ap, ◌∙◌, ⊎_elim, arith}
use Rattle.std.proofs.Math.Nat.{mul_assoc, mul-le-mul_left, mul-le-mul_right, suc-mul, mod-lt, pow-suc}
use Rattle.std.proofs.Math.Pow.{pow_mono}
use Rattle.std.proofs.lemmas.Bool.{cases_lt}
use Rattle.std.proofs.lemmas.Nat.{div-add-mod', mul-le, pow_pos}
use Rattle.std.specs.Prelude.{List, slice_index, unsigned_abs}
use Rattle.apv_base.specs.model.Quant.{IsMatrix, IsNearest, scale_table, shift_of, step_number}
use Rattle.apv_quant.specs.Reaching.{ReachLevels, level_sizes, reaching_size}
use Rattle.apv_quant.proofs.NearestLemmas.{distance_above, distance_across, distance_over, distance_under}
use Rattle.apv_quant.proofs.StepLemmas.{table_most}

-- ---- step numbers

-- each entry of the table is at least its first
table_least : (r : ℕ) → r < 6 → 40 ≤ slice_index scale_table r
table_least zero h = omega arith
table_least (suc zero) h = omega arith
table_least (suc (suc zero)) h = omega arith
table_least (suc (suc (suc zero))) h = omega arith
table_least (suc (suc (suc (suc zero)))) h = omega arith
table_least (suc (suc (suc (suc (suc zero))))) h = omega arith
table_least (suc (suc (suc (suc (suc (suc r)))))) h = absurd (omega arith)

-- and none is above the next one
next_rises : (r : ℕ) → r < 5 → slice_index scale_table r ≤ slice_index scale_table (suc r)
next_rises zero h = omega arith
next_rises (suc zero) h = omega arith
next_rises (suc (suc zero)) h = omega arith
next_rises (suc (suc (suc zero))) h = omega arith
next_rises (suc (suc (suc (suc zero)))) h = omega arith
next_rises (suc (suc (suc (suc (suc r))))) h = absurd (omega arith)

-- nor above any later one
table_rises : (r t : ℕ) → r ≤ t → t < 6 → slice_index scale_table r ≤ slice_index scale_table t
table_rises r zero h below = let same : r ≡ 0 = omega arith in omega (arith, ap (λ k. slice_index scale_table k) same)
table_rises r (suc t) h below = ⊎_elim
    (λ (lt : r < suc t). omega (arith, table_rises r t (omega arith) (omega arith), next_rises t (omega arith)))
    (λ (ge : suc t ≤ r). let same : r ≡ suc t = omega arith in omega (arith, ap (λ k. slice_index scale_table k) same))
    (cases_lt r (suc t))

-- a step number is no smaller at a greater QP
pub step_rises : (m q qp : ℕ) → q ≤ qp → step_number m q ≤ step_number m qp
step_rises m q qp h = ⊎_elim
    (λ (lt : q / 6 < qp / 6).
    let power : 2 ^ suc (q / 6) ≤ 2 ^ (qp / 6) = pow_mono lt in
    let low = mul-le (slice_index scale_table (q % 6)) (2 ^ (q / 6)) 71 (2 ^ (q / 6)) (table_most (q % 6)) (omega arith) in
    let high = mul-le 40 (2 ^ suc (q / 6)) (slice_index scale_table (qp % 6)) (2 ^ (qp / 6)) (table_least (qp % 6) (omega arith)) power in
    let both : slice_index scale_table (q % 6) * 2 ^ (q / 6) ≤ slice_index scale_table (qp % 6) * 2 ^ (qp / 6) = omega (arith, low, high, pow-suc 2 (q / 6)) in
    omega (arith, mul-le-mul_left m both))
    (λ (ge : qp / 6 ≤ q / 6).
    let same : qp / 6 ≡ q / 6 = omega arith in
    let table : slice_index scale_table (q % 6) ≤ slice_index scale_table (qp % 6) = table_rises (q % 6) (qp % 6) (omega arith) (omega arith) in
    let power : 2 ^ (q / 6) ≤ 2 ^ (qp / 6) = omega (arith, ap (λ k. 2 ^ k) same) in
    let both = mul-le (slice_index scale_table (q % 6)) (2 ^ (q / 6)) (slice_index scale_table (qp % 6)) (2 ^ (qp / 6)) table power in
    omega (arith, mul-le-mul_left m both))
    (cases_lt (q / 6) (qp / 6))

-- the step number of a value of a matrix isn't 0
pub step_some : (matrix : List ℕ) (place q : ℕ) → IsMatrix matrix → place < 64 → 0 < step_number (slice_index matrix place) q
step_some matrix place q of_matrix lt =
    let table = table_least (q % 6) (omega arith) in
    let low = mul-le 1 40 (slice_index matrix place) (slice_index scale_table (q % 6)) (of_matrix.each place lt).0 table in
    let all = mul-le (1 * 40) 1 (slice_index matrix place * slice_index scale_table (q % 6)) (2 ^ (q / 6)) low (pow_pos (q / 6)) in
    omega (arith, all)

-- ---- the nearest level

-- the level of a coefficient, where it isn't one of the last, is at least the coefficient's quotient less one half
pub at_least_half : (c : ℤ) (s b : ℕ) (l : ℤ) → 0 < s → IsNearest c s b l → unsigned_abs l < 32767 → 2 * (unsigned_abs c * 2 ^ b) ≤ 2 * (unsigned_abs l * s) + s
at_least_half (pos a) s b (pos j) some near few =
    omega (arith, distance_above a s b j, distance_above a s b (suc j), near.least (pos (suc j)) (omega arith), suc-mul j s)
at_least_half (pos a) s b (negsuc j) some near few =
    absurd (omega (arith, distance_across a s b j, distance_above a s b 0, near.least (pos 0) (omega arith), suc-mul j s))
at_least_half (negsuc a) s b (pos zero) some near few =
    omega (arith, distance_over a s b 0, distance_under a s b 1, near.least (negsuc 0) (omega arith))
at_least_half (negsuc a) s b (pos (suc j)) some near few =
    absurd (omega (arith, distance_over a s b (suc j), distance_over a s b 0, near.least (pos 0) (omega arith), suc-mul j s))
at_least_half (negsuc a) s b (negsuc j) some near few =
    omega (arith, distance_under a s b (suc j), distance_under a s b (suc (suc j)), near.least (negsuc (suc j)) (omega arith), suc-mul (suc j) s)

-- a number is below the divisor times what its quotient is below
below_times : (x d k : ℕ) → 0 < d → x / d < k → x < k * d
below_times x d k some lt = omega (arith, div-add-mod' x d, mod-lt x some, mul-le-mul_right d lt, suc-mul (x / d) d)

-- what is above a number by a divisor isn't near a smaller multiple of a step
too_far : (size level s parts whole power : ℕ) → parts < size * whole → whole ≡ power * 2 → 2 * (size * power) ≤ 2 * (level * s) + s → (2 * level + 1) * s ≤ parts → ⊥
too_far size level s parts whole power above twice near low =
    let e : size * whole ≡ size * power * 2 = ap (λ k. size * k) twice ∙ sym (mul_assoc size power 2) in
    let f : (2 * level + 1) * s ≡ 2 * level * s + s = omega arith in
    omega (arith, above, e, near, low, f)

-- a coefficient of at least the size that reaches a level has such a level, at each step number up to that of the size
pub reaches : (c : ℤ) (s most b n : ℕ) (l : ℤ) → 0 < s → s ≤ most → n ≤ 65 → unsigned_abs c ≤ 2 ^ 15 → IsNearest c s b l → reaching_size n most b ≤ unsigned_abs c → n ≤ unsigned_abs l
reaches c s most b n l some le small few near reached = ⊎_elim
    (λ (lt : unsigned_abs l < n).
    let parts : ℕ = (2 * n - 1) * most in
    let whole : ℕ = 2 ^ (b + 1) in
    let half = at_least_half c s b l some near (omega arith) in
    let above : parts / whole < unsigned_abs c = omega (arith, reached, few) in
    let size : parts < unsigned_abs c * whole = below_times parts whole (unsigned_abs c) (pow_pos (b + 1)) above in
    let low : (2 * unsigned_abs l + 1) * s ≤ (2 * n - 1) * most = mul-le (2 * unsigned_abs l + 1) s (2 * n - 1) most (omega arith) le in
    let next : b + 1 ≡ suc b = omega arith in
    let twice : whole ≡ 2 ^ b * 2 = omega (arith, ap (λ k. 2 ^ k) next, pow-suc 2 b) in
    absurd (too_far (unsigned_abs c) (unsigned_abs l) s parts whole (2 ^ b) size twice half low))
    (λ (ge : n ≤ unsigned_abs l). ge)
    (cases_lt (unsigned_abs l) n)

-- ---- the eight sizes

-- none is above 65
sizes_few : (index : ℕ) → slice_index level_sizes index ≤ 65
sizes_few zero = omega arith
sizes_few (suc zero) = omega arith
sizes_few (suc (suc zero)) = omega arith
sizes_few (suc (suc (suc zero))) = omega arith
sizes_few (suc (suc (suc (suc zero)))) = omega arith
sizes_few (suc (suc (suc (suc (suc index))))) = later index
  where
    later : (index : ℕ) → slice_index level_sizes (suc (suc (suc (suc (suc index))))) ≤ 65
    later zero = omega arith
    later (suc zero) = omega arith
    later (suc (suc zero)) = omega arith
    later (suc (suc (suc index))) = omega arith

-- sizes of coefficients, each by the maximum step number of a matrix
pub reach_by : (matrix : List ℕ) (qp depth most : ℕ) (sizes : List ℕ) → IsMatrix matrix → ((place : ℕ) → place < 64 → step_number (slice_index matrix place) qp ≤ most)
    → ((index : ℕ) → index < 8 → slice_index sizes index ≡ reaching_size (slice_index level_sizes index) most (shift_of depth)) → ReachLevels matrix qp depth sizes
reach_by matrix qp depth most sizes of_matrix maximum each index place q c level low lt le few near reached =
    let s : ℕ = step_number (slice_index matrix place) q in
    let below : s ≤ most = omega (arith, step_rises (slice_index matrix place) q qp le, maximum place lt) in
    reaches c s most (shift_of depth) (slice_index level_sizes index) level (step_some matrix place q of_matrix lt) below (sizes_few index) few near (omega (arith, each index low, reached))
