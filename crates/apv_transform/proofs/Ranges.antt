-- Bounds of the sums of a pass, and of the values of the two transforms.
use Rattle.std.proofs.Common.{◌≡◌, ℕ, suc, ◌+◌, ◌-◌, ◌*◌, ◌^◌, ◌<◌, ◌≤◌, ap, arith}
use Rattle.std.specs.Prelude.{ℤ, pos, negsuc, ◌+ℤ◌, ◌*ℤ◌, ◌<ℤ◌, unsigned_abs}
use Rattle.std.specs.Int.Signed.{shr_z}
use Rattle.std.proofs.lemmas.Int.{ints}
use Rattle.std.proofs.lemmas.Nat.{div_below, pow_pos}
use Rattle.std.proofs.Math.Nat.{pow-suc}
use Rattle.apv_base.specs.model.Format.{IsDepth}
use Rattle.apv_base.specs.model.Transform.{transform_entry, sum_8, rounded, column_sum, row_sum, coefficient_of}
use Rattle.apv_transform.specs.Line.{IsBounded}
use Rattle.apv_transform.specs.Laws.{IsResidual, HasBoundedColumnSums, HasBoundedRowSums, HasBoundedCoefficients}
use Rattle.apv_transform.proofs.Bounds.{wider, add_within, mul_within}
use Rattle.apv_transform.proofs.Places.{each_of_8}
use Rattle.apv_transform.proofs.Samples.{each_depth}

pub shr_within : (m k : ℕ) (z : ℤ) → 0 < k → negsuc (m * k) <ℤ z → z <ℤ pos (m * k + k) → IsBounded m (shr_z z k)
shr_within m k (pos a) p low high =
    let b : a < (m + 1) * k = omega (arith, ints) in
    let q = div_below a k (m + 1) p b in
    record { size = omega arith }
shr_within m k (negsuc a) p low high =
    let b : a < m * k = omega (arith, ints) in
    let q = div_below a k m p b in
    record { size = omega arith }

pub rounded_within : (n m : ℕ) (z : ℤ) → 1 ≤ n → IsBounded (m * 2 ^ n) z → IsBounded m (rounded n z)
rounded_within n m z low h =
    let before : n ≡ suc (n - 1) = omega arith in
    let double : 2 ^ n ≡ 2 ^ suc (n - 1) = ap (λ k. 2 ^ k) before in
    let halves : 2 ^ n ≡ 2 * 2 ^ (n - 1) = omega (arith, pow-suc 2 (n - 1), double) in
    let some : 0 < 2 ^ (n - 1) = pow_pos (n - 1) in
    shr_within m (2 ^ n) (z +ℤ pos (2 ^ (n - 1))) (omega arith) (omega (arith, ints)) (omega (arith, ints))

-- a sum of eight products
module _ (bound : ℕ) (line : ℕ → ℤ) (within : (p : ℕ) → p < 8 → IsBounded bound (line p)) where
  term_within : (weight : ℕ → ℤ) (p : ℕ) → p < 8 → IsBounded (unsigned_abs (weight p) * bound) (weight p *ℤ line p)
  term_within weight p small = mul_within (record { size = omega arith }) (within p small)

  pub sum_within : (weight : ℕ → ℤ) → IsBounded
      (unsigned_abs (weight 0) * bound + unsigned_abs (weight 1) * bound + unsigned_abs (weight 2) * bound + unsigned_abs (weight 3) * bound
      + unsigned_abs (weight 4) * bound + unsigned_abs (weight 5) * bound + unsigned_abs (weight 6) * bound + unsigned_abs (weight 7) * bound)
      (sum_8 (λ p. weight p *ℤ line p))
  sum_within weight =
      add_within (add_within (add_within (add_within (add_within (add_within (add_within
      (term_within weight 0 (omega arith)) (term_within weight 1 (omega arith))) (term_within weight 2 (omega arith))) (term_within weight 3 (omega arith)))
      (term_within weight 4 (omega arith))) (term_within weight 5 (omega arith))) (term_within weight 6 (omega arith))) (term_within weight 7 (omega arith))

  pub inverse_sum_within : (position : ℕ) → position < 8 → IsBounded (479 * bound) (sum_8 (λ frequency. transform_entry frequency position *ℤ line frequency))
  inverse_sum_within = each_of_8 _
      (wider (sum_within (λ u. transform_entry u 0)) (omega arith)) (wider (sum_within (λ u. transform_entry u 1)) (omega arith))
      (wider (sum_within (λ u. transform_entry u 2)) (omega arith)) (wider (sum_within (λ u. transform_entry u 3)) (omega arith))
      (wider (sum_within (λ u. transform_entry u 4)) (omega arith)) (wider (sum_within (λ u. transform_entry u 5)) (omega arith))
      (wider (sum_within (λ u. transform_entry u 6)) (omega arith)) (wider (sum_within (λ u. transform_entry u 7)) (omega arith))

  pub forward_sum_within : (frequency : ℕ) → frequency < 8 → IsBounded (512 * bound) (sum_8 (λ position. transform_entry frequency position *ℤ line position))
  forward_sum_within = each_of_8 _
      (wider (sum_within (transform_entry 0)) (omega arith)) (wider (sum_within (transform_entry 1)) (omega arith))
      (wider (sum_within (transform_entry 2)) (omega arith)) (wider (sum_within (transform_entry 3)) (omega arith))
      (wider (sum_within (transform_entry 4)) (omega arith)) (wider (sum_within (transform_entry 5)) (omega arith))
      (wider (sum_within (transform_entry 6)) (omega arith)) (wider (sum_within (transform_entry 7)) (omega arith))

pub column_sum_within : (d : ℕ → ℕ → ℤ) (v : ℕ) → ((u : ℕ) → u < 8 → IsBounded 32768 (d u v)) → (y : ℕ) → y < 8 → IsBounded 122624 (column_sum d y v)
unfolding column_sum
column_sum_within d v within y hy =
    rounded_within 7 122624 _ (omega arith) (inverse_sum_within 32768 (λ u. d u v) within y hy)

-- the premise of the laws, with a bound
pub residual_within : (depth : ℕ) (z : ℤ) → 10 ≤ depth → depth ≤ 12 → IsResidual depth z → IsBounded (2 ^ (depth - 1)) z
residual_within depth z low high h =
    each_depth (λ n. IsResidual n z → IsBounded (2 ^ (n - 1)) z)
    (λ r. record { size = omega (arith, ints) }) (λ r. record { size = omega (arith, ints) }) (λ r. record { size = omega (arith, ints) }) depth low high h

pub row_sum_within : (e : ℕ → ℕ → ℤ) (depth y : ℕ) → 10 ≤ depth → depth ≤ 12 → ((x : ℕ) → x < 8 → IsResidual depth (e y x)) → (v : ℕ) → v < 8 → IsBounded 16384 (row_sum e depth y v)
unfolding row_sum
row_sum_within e depth y low high residuals v hv =
    let within : (x : ℕ) → x < 8 → IsBounded (2 ^ (depth - 1)) (e y x) = λ x hx. residual_within depth (e y x) low high (residuals x hx) in
    each_depth (λ n. ((x : ℕ) → x < 8 → IsBounded (2 ^ (n - 1)) (e y x)) → IsBounded 16384 (rounded (n - 6) (sum_8 (λ x. transform_entry v x *ℤ e y x))))
    (λ w. rounded_within 4 16384 _ (omega arith) (forward_sum_within 512 (e y) w v hv))
    (λ w. rounded_within 5 16384 _ (omega arith) (forward_sum_within 1024 (e y) w v hv))
    (λ w. rounded_within 6 16384 _ (omega arith) (forward_sum_within 2048 (e y) w v hv))
    depth low high within

pub coefficient_within : (e : ℕ → ℕ → ℤ) (depth v : ℕ) → ((y : ℕ) → y < 8 → IsBounded 16384 (row_sum e depth y v)) → (u : ℕ) → u < 8 → IsBounded 16384 (coefficient_of e depth u v)
unfolding coefficient_of
coefficient_within e depth v within u hu =
    rounded_within 9 16384 _ (omega arith) (forward_sum_within 16384 (λ y. row_sum e depth y v) within u hu)

-- ---- the laws

pub bounded_column_sums : HasBoundedColumnSums
bounded_column_sums d within y v hy hv = (column_sum_within d v (λ u h. record { size = within u v }) y hy).size

pub bounded_row_sums : (depth : ℕ) → IsDepth depth → HasBoundedRowSums depth
bounded_row_sums depth is e residuals y v hy hv = (row_sum_within e depth y is.0 is.1 (λ x h. residuals y x) v hv).size

pub bounded_coefficients : (depth : ℕ) → IsDepth depth → HasBoundedCoefficients depth
bounded_coefficients depth is e residuals u v hu hv =
    (coefficient_within e depth v (λ y h. row_sum_within e depth y is.0 is.1 (λ x k. residuals y x) v hv) u hu).size
