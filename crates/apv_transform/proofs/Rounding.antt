-- Sums divided by a power of 2 and rounded.
use Rattle.std.proofs.Common.{◌≡◌, ℕ, ◌+◌, ◌-◌, ◌/◌, ◌^◌, ◌<◌, ◌≤◌, sym, ap, ◌∙◌, arith}
use Rattle.std.specs.Prelude.{ℤ, pos, negsuc, ◌+ℤ◌}
use Rattle.std.specs.Int.{int_shr}
use Rattle.std.specs.Int.Signed.{shr_z}
use Rattle.std.proofs.lemmas.Int.{ints}
use Rattle.std.proofs.lemmas.Bool.{cases_lt}
use mathlib.Core.Logic.{inl, inr}
use Rattle.apv_base.specs.model.Transform.{rounded}
use Rattle.apv_transform.proofs.LaneBits.{held_round_is}
use Rattle.apv_transform.proofs.Bounds.{held}
use Rattle.apv_transform.proofs.Samples.{each_depth}

-- a number that k divides, added before the division and after it
module _ (k m n : ℕ) (whole : (a : ℕ) → (a + n) / k ≡ a / k + m) (part : (a : ℕ) → a < n → (n - 1 - a) / k + a / k + 1 ≡ m) where
  shr_more : (z : ℤ) → shr_z (z +ℤ pos n) k ≡ shr_z z k +ℤ pos m
  shr_more (pos a) = ap pos (whole a)
  shr_more (negsuc a) =
      elim (cases_lt a n) [
        | inl few ↦
            let turned : negsuc a +ℤ pos n ≡ pos (n - 1 - a) = omega (arith, ints) in
            let is = part a few in
            ap (λ z. shr_z z k) turned ∙ omega (arith, ints, is)
        | inr many ↦
            let turned : negsuc a +ℤ pos n ≡ negsuc (a - n) = omega (arith, ints) in
            let before : a - n + n ≡ a = omega arith in
            let is : a / k ≡ (a - n) / k + m = ap (λ b. b / k) (sym before) ∙ whole (a - n) in
            ap (λ z. shr_z z k) turned ∙ omega (arith, ints, is)
      ]

-- half the range of a depth is added before the division
pub rounded_with_half_range : (depth shift : ℕ) (z : ℤ) {h : ℤ} → 10 ≤ depth → depth ≤ 12 → shift ≡ depth → h ≡ pos (2 ^ (20 - shift - 1))
    → int_shr (z +ℤ (held h +ℤ pos 524288)) (20 - shift) ≡ rounded (20 - depth) z +ℤ pos (2 ^ (depth - 1))
rounded_with_half_range depth shift z {h = h} low high e half =
    ap (λ x. int_shr (z +ℤ (x +ℤ pos 524288)) (20 - shift)) (held_round_is (20 - shift) (omega arith) half)
    ∙ ap (λ s. int_shr (z +ℤ (pos (2 ^ (20 - s - 1)) +ℤ pos 524288)) (20 - s)) e
    ∙ each_depth (λ n. int_shr (z +ℤ (pos (2 ^ (20 - n - 1)) +ℤ pos 524288)) (20 - n) ≡ rounded (20 - n) z +ℤ pos (2 ^ (n - 1)))
    (ap (λ x. shr_z x 1024) (omega (arith, ints)) ∙ shr_more 1024 512 524288 (λ a. omega arith) (λ a h. omega arith) (z +ℤ pos 512))
    (ap (λ x. shr_z x 512) (omega (arith, ints)) ∙ shr_more 512 1024 524288 (λ a. omega arith) (λ a h. omega arith) (z +ℤ pos 256))
    (ap (λ x. shr_z x 256) (omega (arith, ints)) ∙ shr_more 256 2048 524288 (λ a. omega arith) (λ a h. omega arith) (z +ℤ pos 128))
    depth low high
