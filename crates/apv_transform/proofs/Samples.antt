-- The sample of a residual, and bit depths.
use Rattle.std.proofs.Common.{◌≡◌, ℕ, zero, suc, ◌+◌, ◌-◌, ◌^◌, ◌<◌, ◌≤◌, subst, refl, ap, ◌∙◌, arith}
use Rattle.apv_base.specs.model.Quant.{clamped}
use Rattle.std.specs.Prelude.{ℤ, pos, negsuc, ◌≤ℤ◌, ◌-ℤ◌, ◌*ℤ◌}
use Rattle.std.specs.Int.{int_max, int_min}
use Rattle.std.specs.Int.RustNames.{FitsSigned}
use mir.Syntax.{w16}
use mir.Val.{to_z, of_z}
use Rattle.std.proofs.lemmas.Int.{ints, clamps}
use Rattle.apv_transform.specs.Line.{IsBounded}
use Rattle.apv_transform.specs.Sample.{sample_of_residual}
use Rattle.apv_transform.proofs.Bounds.{held, same_within}

-- a fact of each bit depth
pub each_depth : (P : ℕ → Type 0) → P 10 → P 11 → P 12 → (depth : ℕ) → 10 ≤ depth → depth ≤ 12 → P depth
each_depth P a b c depth low high = subst P (omega arith) (each (depth - 10) (omega arith)) where
  each : (k : ℕ) → k < 3 → P (10 + k)
  each zero h = a
  each (suc zero) h = b
  each (suc (suc zero)) h = c
  each (suc (suc (suc k))) h = absurd (omega arith)

pub sample_below : (z : ℤ) (depth : ℕ) → 10 ≤ depth → depth ≤ 12 → sample_of_residual z depth < 2 ^ depth
sample_below z depth low high =
    each_depth (λ d. sample_of_residual z d < 2 ^ d) (omega (arith, ints, clamps)) (omega (arith, ints, clamps)) (omega (arith, ints, clamps)) depth low high

-- the maximum sample of a depth
pub maximum_is : (h : ℤ) (depth : ℕ) → 10 ≤ depth → depth ≤ 12 → h ≡ pos (2 ^ (depth - 1))
    → to_z w16 (of_z w16 (held (held (pos 2 *ℤ held h) -ℤ pos 1))) ≡ pos (2 ^ depth - 1)
maximum_is h depth low high e =
    each_depth (λ d. h ≡ pos (2 ^ (d - 1)) → to_z w16 (of_z w16 (held (held (pos 2 *ℤ held h) -ℤ pos 1))) ≡ pos (2 ^ d - 1))
    (λ e. rw e refl) (λ e. rw e refl) (λ e. rw e refl) depth low high e

pub maximum_fits : (h : ℤ) (depth : ℕ) → 10 ≤ depth → depth ≤ 12 → h ≡ pos (2 ^ (depth - 1)) → FitsSigned w16 (held (held (pos 2 *ℤ held h) -ℤ pos 1))
maximum_fits h depth low high e =
    each_depth (λ d. h ≡ pos (2 ^ (d - 1)) → FitsSigned w16 (held (held (pos 2 *ℤ held h) -ℤ pos 1)))
    (λ e. rw e (record { sfits = omega arith })) (λ e. rw e (record { sfits = omega arith })) (λ e. rw e (record { sfits = omega arith })) depth low high e

-- the clamp to 16 bits before the one to the range of a depth
pub range_clamp : (depth : ℕ) (z : ℤ) {most : ℤ} → 10 ≤ depth → depth ≤ 12 → most ≡ pos (2 ^ depth - 1)
    → int_min most (int_max (pos 0) (clamped (negsuc 32767) (pos 32767) z)) ≡ clamped (pos 0) (pos (2 ^ depth - 1)) z
range_clamp depth z low high e =
    ap (λ most. int_min most (int_max (pos 0) (clamped (negsuc 32767) (pos 32767) z))) e
    ∙ each_depth (λ d. int_min (pos (2 ^ d - 1)) (int_max (pos 0) (clamped (negsuc 32767) (pos 32767) z)) ≡ clamped (pos 0) (pos (2 ^ d - 1)) z)
    (omega (arith, ints, clamps)) (omega (arith, ints, clamps)) (omega (arith, ints, clamps)) depth low high

pub range_natural : (depth : ℕ) (z : ℤ) → pos 0 ≤ℤ clamped (pos 0) (pos (2 ^ depth - 1)) z
range_natural depth z = omega (arith, ints, clamps)

pub maximum_within : (depth : ℕ) {most : ℤ} → 10 ≤ depth → depth ≤ 12 → most ≡ pos (2 ^ depth - 1) → IsBounded 4095 most
maximum_within depth {most = most} low high e =
    each_depth (λ d. most ≡ pos (2 ^ d - 1) → IsBounded 4095 most)
    (λ e. same_within e (record { size = omega arith })) (λ e. same_within e (record { size = omega arith })) (λ e. same_within e (record { size = omega arith })) depth low high e

-- half the range of a depth
pub middle_fits : (h : ℤ) (depth : ℕ) → 10 ≤ depth → depth ≤ 12 → h ≡ pos (2 ^ (depth - 1)) → FitsSigned w16 (held h)
middle_fits h depth low high e =
    each_depth (λ d. h ≡ pos (2 ^ (d - 1)) → FitsSigned w16 (held h))
    (λ e. rw e (record { sfits = omega arith })) (λ e. rw e (record { sfits = omega arith })) (λ e. rw e (record { sfits = omega arith })) depth low high e

pub middle_is : (h : ℤ) (depth : ℕ) → 10 ≤ depth → depth ≤ 12 → h ≡ pos (2 ^ (depth - 1)) → to_z w16 (of_z w16 (held h)) ≡ pos (2 ^ (depth - 1))
middle_is h depth low high e =
    each_depth (λ d. h ≡ pos (2 ^ (d - 1)) → to_z w16 (of_z w16 (held h)) ≡ pos (2 ^ (d - 1))) (λ e. rw e refl) (λ e. rw e refl) (λ e. rw e refl) depth low high e

pub middle_within : (depth : ℕ) {middle : ℤ} → 10 ≤ depth → depth ≤ 12 → middle ≡ pos (2 ^ (depth - 1)) → IsBounded 2048 middle
middle_within depth {middle = middle} low high e =
    each_depth (λ d. middle ≡ pos (2 ^ (d - 1)) → IsBounded 2048 middle)
    (λ e. same_within e (record { size = omega arith })) (λ e. same_within e (record { size = omega arith })) (λ e. same_within e (record { size = omega arith })) depth low high e

pub below_4096 : (depth s : ℕ) → 10 ≤ depth → depth ≤ 12 → s < 2 ^ depth → s < 4096
below_4096 depth s low high h = each_depth (λ d. s < 2 ^ d → s < 4096) (λ h. omega arith) (λ h. omega arith) (λ h. omega arith) depth low high h
