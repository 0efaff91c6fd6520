-- The passes over blocks of lanes: what they give, and how large it is.
use Rattle.std.proofs.Common.{◌≡◌, ℕ, ◌+◌, ◌-◌, ◌*◌, ◌^◌, ◌<◌, ◌≤◌, List, ap, ◌∙◌, arith}
use Rattle.std.specs.Prelude.{ℤ, pos, negsuc, neg_ℤ, ◌+ℤ◌, ◌*ℤ◌, ◌≤ℤ◌, ◌<ℤ◌}
use Rattle.std.specs.Int.Signed.{shr_z}
use Rattle.std.proofs.lemmas.Nat.{div_below}
use Rattle.std.proofs.lemmas.Int.{ints, clamps}
use Rattle.apv_base.specs.model.Transform.{transform_entry, sum_8, rounded, column_sum, row_sum}
use Rattle.apv_base.specs.model.Quant.{clamped}
use Rattle.apv_transform.specs.Laws.{IsResidual}
use Rattle.apv_transform.specs.Line.{IsBounded}
use Rattle.apv_transform.specs.Lanes.{lane_at, AreLanesBounded, AreLanesHalved}
use Rattle.apv_transform.specs.Pass.{inverse_of, forward_of}
use Rattle.apv_transform.proofs.Bounds.{wider, same_within}
use Rattle.apv_transform.proofs.Places.{each_of_8}
use Rattle.apv_transform.proofs.Samples.{each_depth}
use Rattle.apv_transform.proofs.Ranges.{rounded_within, inverse_sum_within, sum_within, residual_within, forward_sum_within, column_sum_within, row_sum_within}

pub lanes_wider : {m n count : ℕ} (block : List (List ℤ)) → AreLanesBounded m count block → m ≤ n → AreLanesBounded n count block
lanes_wider block within le k hk lane hl = wider (within k hk lane hl) le

module _ (block result : List (List ℤ)) where
  abbrev pub Inverts : ℕ → Type 0
  Inverts shift = (p lane : ℕ) → p < 8 → lane < 8 → lane_at result p lane ≡ inverse_of shift (λ u. lane_at block u lane) p

  abbrev pub Transforms : ℕ → Type 0
  Transforms shift = (p lane : ℕ) → p < 8 → lane < 8 → lane_at result p lane ≡ forward_of shift (λ x. lane_at block x lane) p

  -- ---- inverse

  pub column_sums_are : Inverts 7 → (y v : ℕ) → y < 8 → v < 8 → lane_at result y v ≡ column_sum (lane_at block) y v
  unfolding column_sum
  column_sums_are are = are

  pub column_sums_within : AreLanesBounded 32768 8 block → Inverts 7 → AreLanesBounded 122624 8 result
  column_sums_within within are y hy v hv = same_within (column_sums_are are y v hy hv) (column_sum_within (lane_at block) v (λ u hu. within u hu v hv) y hy)

  module _ (depth shift : ℕ) (low : 10 ≤ depth) (high : depth ≤ 12) (e : shift ≡ depth) where
    pub residuals_are : Inverts (20 - shift) → (x y : ℕ) → x < 8 → y < 8 → lane_at result x y ≡ rounded (20 - depth) (sum_8 (λ v. transform_entry v x *ℤ lane_at block v y))
    residuals_are are x y hx hy = are x y hx hy ∙ ap (λ s. inverse_of (20 - s) (λ v. lane_at block v y) x) e

    pub residuals_within : AreLanesBounded 122624 8 block → Inverts (20 - shift) → AreLanesBounded 262144 8 result
    residuals_within within are x hx y hy =
        same_within (residuals_are are x y hx hy) (rounded_within (20 - depth) 262144 _ (omega arith)
        (wider (inverse_sum_within 122624 (λ v. lane_at block v y) (λ v hv. within v hv y hy) x hx) enough)) where
          enough : 479 * 122624 ≤ 262144 * 2 ^ (20 - depth)
          enough = each_depth (λ n. 479 * 122624 ≤ 262144 * 2 ^ (20 - n)) (omega arith) (omega arith) (omega arith) depth low high

    -- ---- forward

    pub row_sums_are : Transforms (shift - 6) → (v y : ℕ) → v < 8 → y < 8 → lane_at result v y ≡ row_sum (λ y x. lane_at block x y) depth y v
    unfolding row_sum
    row_sums_are are v y hv hy = are v y hv hy ∙ ap (λ s. forward_of (s - 6) (λ x. lane_at block x y) v) e

    pub row_sums_within : AreLanesBounded (2 ^ (depth - 1)) 8 block → Transforms (shift - 6) → AreLanesBounded 16384 8 result
    row_sums_within within are v hv y hy =
        let sum = each_depth (λ n. ((x : ℕ) → x < 8 → IsBounded (2 ^ (n - 1)) (lane_at block x y)) → IsBounded 16384 (forward_of (n - 6) (λ x. lane_at block x y) v))
        (λ w. rounded_within 4 16384 _ (omega arith) (forward_sum_within 512 (λ x. lane_at block x y) w v hv))
        (λ w. rounded_within 5 16384 _ (omega arith) (forward_sum_within 1024 (λ x. lane_at block x y) w v hv))
        (λ w. rounded_within 6 16384 _ (omega arith) (forward_sum_within 2048 (λ x. lane_at block x y) w v hv))
        depth low high (λ x hx. within x hx y hy) in
        same_within (are v y hv hy ∙ ap (λ s. forward_of (s - 6) (λ x. lane_at block x y) v) e) sum

  pub coefficients_within : AreLanesBounded 16384 8 block → Transforms 9 → AreLanesBounded 16384 8 result
  coefficients_within within are u hu v hv =
      same_within (are u v hu hv) (rounded_within 9 16384 _ (omega arith) (forward_sum_within 16384 (λ y. lane_at block y v) (λ y hy. within y hy v hv) u hu))

pub residuals_small : (depth : ℕ) (block : List (List ℤ)) → 10 ≤ depth → depth ≤ 12 → AreLanesBounded (2 ^ (depth - 1)) 8 block → AreLanesBounded 65536 8 block
residuals_small depth block low high within =
    each_depth (λ n. AreLanesBounded (2 ^ (n - 1)) 8 block → AreLanesBounded 65536 8 block)
    (λ w. lanes_wider block w (omega arith)) (λ w. lanes_wider block w (omega arith)) (λ w. lanes_wider block w (omega arith)) depth low high within

-- ---- a row of residuals

pub forward_row_within : (e : ℕ → ℤ) (depth : ℕ) → 10 ≤ depth → depth ≤ 12 → ((x : ℕ) → x < 8 → IsResidual depth (e x)) → (v : ℕ) → v < 8 → IsBounded 16384 (forward_of (depth - 6) e v)
unfolding row_sum
forward_row_within e depth low high residuals v hv = row_sum_within (λ y x. e x) depth 0 low high residuals v hv

pub unclamped : (z : ℤ) → IsBounded 16384 z → clamped (negsuc 32767) (pos 32767) z ≡ z
unclamped z h = omega (arith, ints, clamps)

shr_at_most : (m k : ℕ) (z : ℤ) → 0 < k → z <ℤ pos (m * k + k) → shr_z z k ≤ℤ pos m
shr_at_most m k (pos a) p high =
    let b : a < (m + 1) * k = omega (arith, ints) in
    let q = div_below a k (m + 1) p b in
    omega (arith, ints)
shr_at_most m k (negsuc a) p high = omega (arith, ints)

-- a value between the passes is less than 2 ^ 14, since a residual is less than half the range
module _ (e : ℕ → ℤ) (depth : ℕ) (low : 10 ≤ depth) (high : depth ≤ 12) (residuals : (x : ℕ) → x < 8 → IsResidual depth (e x)) where
  -- where the entries of a frequency are at most 476 in sum
  uneven : (v : ℕ) → ((bound : ℕ) → ((x : ℕ) → x < 8 → IsBounded bound (e x)) → IsBounded (476 * bound) (sum_8 (λ x. transform_entry v x *ℤ e x))) → forward_of (depth - 6) e v ≤ℤ pos 16383
  uneven v sum =
      let within : IsBounded 15232 (forward_of (depth - 6) e v) =
      each_depth (λ n. ((x : ℕ) → x < 8 → IsResidual n (e x)) → IsBounded 15232 (forward_of (n - 6) e v))
      (λ r. rounded_within 4 15232 _ (omega arith) (sum 512 (λ x h. residual_within 10 (e x) (omega arith) (omega arith) (r x h))))
      (λ r. rounded_within 5 15232 _ (omega arith) (sum 1024 (λ x h. residual_within 11 (e x) (omega arith) (omega arith) (r x h))))
      (λ r. rounded_within 6 15232 _ (omega arith) (sum 2048 (λ x h. residual_within 12 (e x) (omega arith) (omega arith) (r x h))))
      depth low high residuals in
      omega (arith, ints, within)

  -- where they are 64 in size
  flat : (v : ℕ) → ((n m k : ℕ) → ((x : ℕ) → x < 8 → (neg_ℤ (pos n) ≤ℤ e x) × (e x ≤ℤ pos (n - 1))) → 1 ≤ n → 512 * n + m < 16384 * k + 256 → (sum_8 (λ x. transform_entry v x *ℤ e x) +ℤ pos m) <ℤ pos (16383 * k + k))
      → forward_of (depth - 6) e v ≤ℤ pos 16383
  flat v top =
      each_depth (λ n. ((x : ℕ) → x < 8 → IsResidual n (e x)) → forward_of (n - 6) e v ≤ℤ pos 16383)
      (λ r. shr_at_most 16383 16 _ (omega arith) (top 512 8 16 r (omega arith) (omega arith)))
      (λ r. shr_at_most 16383 32 _ (omega arith) (top 1024 16 32 r (omega arith) (omega arith)))
      (λ r. shr_at_most 16383 64 _ (omega arith) (top 2048 32 64 r (omega arith) (omega arith)))
      depth low high residuals

  pub forward_row_below : (v : ℕ) → v < 8 → forward_of (depth - 6) e v ≤ℤ pos 16383
  forward_row_below = each_of_8 _ (flat 0 top_0) (uneven 1 (λ b w. wider (sum_within b e w (transform_entry 1)) (omega arith)))
      (uneven 2 (λ b w. wider (sum_within b e w (transform_entry 2)) (omega arith))) (uneven 3 (λ b w. wider (sum_within b e w (transform_entry 3)) (omega arith)))
      (flat 4 top_4) (uneven 5 (λ b w. wider (sum_within b e w (transform_entry 5)) (omega arith)))
      (uneven 6 (λ b w. wider (sum_within b e w (transform_entry 6)) (omega arith))) (uneven 7 (λ b w. wider (sum_within b e w (transform_entry 7)) (omega arith))) where
        top_0 : (n m k : ℕ) → ((x : ℕ) → x < 8 → (neg_ℤ (pos n) ≤ℤ e x) × (e x ≤ℤ pos (n - 1))) → 1 ≤ n → 512 * n + m < 16384 * k + 256 → (sum_8 (λ x. transform_entry 0 x *ℤ e x) +ℤ pos m) <ℤ pos (16383 * k + k)
        top_0 n m k r some fit =
            let r0 = (r 0 (omega arith)).1 in let r1 = (r 1 (omega arith)).1 in let r2 = (r 2 (omega arith)).1 in let r3 = (r 3 (omega arith)).1 in
            let r4 = (r 4 (omega arith)).1 in let r5 = (r 5 (omega arith)).1 in let r6 = (r 6 (omega arith)).1 in let r7 = (r 7 (omega arith)).1 in
            omega (arith, ints, r0, r1, r2, r3, r4, r5, r6, r7)

        top_4 : (n m k : ℕ) → ((x : ℕ) → x < 8 → (neg_ℤ (pos n) ≤ℤ e x) × (e x ≤ℤ pos (n - 1))) → 1 ≤ n → 512 * n + m < 16384 * k + 256 → (sum_8 (λ x. transform_entry 4 x *ℤ e x) +ℤ pos m) <ℤ pos (16383 * k + k)
        top_4 n m k r some fit =
            let r0 = (r 0 (omega arith)).1 in let r1 = (r 1 (omega arith)).0 in let r2 = (r 2 (omega arith)).0 in let r3 = (r 3 (omega arith)).1 in
            let r4 = (r 4 (omega arith)).1 in let r5 = (r 5 (omega arith)).0 in let r6 = (r 6 (omega arith)).0 in let r7 = (r 7 (omega arith)).1 in
            omega (arith, ints, r0, r1, r2, r3, r4, r5, r6, r7)

pub sums_halved : (residuals sums : List (List ℤ)) (depth : ℕ) → 10 ≤ depth → depth ≤ 12 → ((y x : ℕ) → y < 8 → x < 8 → IsResidual depth (lane_at residuals y x))
    → ((y v : ℕ) → y < 8 → v < 8 → lane_at sums y v ≡ forward_of (depth - 6) (lane_at residuals y) v) → AreLanesHalved 8 sums
sums_halved residuals sums depth low high are is y v hy hv =
    let e = lane_at residuals y in
    let within : IsBounded 16384 (forward_of (depth - 6) e v) = forward_row_within e depth low high (λ x hx. are y x hy hx) v hv in
    let below = forward_row_below e depth low high (λ x hx. are y x hy hx) v hv in
    rw (is y v hy hv) (omega (arith, ints, within), below)
