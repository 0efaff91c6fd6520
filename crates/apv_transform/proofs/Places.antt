-- Facts of each place of four and of eight, and of lists that a loop fills.
use Rattle.std.proofs.Common.{ℕ, zero, suc, ◌+◌, ◌-◌, ◌*◌, ◌/◌, ◌%◌, ◌<◌, arith}
use Rattle.std.specs.Prelude.{ℤ}
use lib.Dec.{ltb}
use mathlib.Core.Bool.{cond}

pub each_of_4 : (P : ℕ → Type 0) → P 0 → P 1 → P 2 → P 3 → (k : ℕ) → k < 4 → P k
each_of_4 P a b c d zero h = a
each_of_4 P a b c d (suc zero) h = b
each_of_4 P a b c d (suc (suc zero)) h = c
each_of_4 P a b c d (suc (suc (suc zero))) h = d
each_of_4 P a b c d (suc (suc (suc (suc k)))) h = absurd (omega arith)

-- the places of the first half, and their mirrors
pub each_mirrored : (P : ℕ → Type 0) → ((k : ℕ) → k < 4 → P k) → ((k : ℕ) → k < 4 → P (7 - k)) → (p : ℕ) → p < 8 → P p
each_mirrored P near far zero h = near 0 (omega arith)
each_mirrored P near far (suc zero) h = near 1 (omega arith)
each_mirrored P near far (suc (suc zero)) h = near 2 (omega arith)
each_mirrored P near far (suc (suc (suc zero))) h = near 3 (omega arith)
each_mirrored P near far (suc (suc (suc (suc zero)))) h = far 3 (omega arith)
each_mirrored P near far (suc (suc (suc (suc (suc zero))))) h = far 2 (omega arith)
each_mirrored P near far (suc (suc (suc (suc (suc (suc zero)))))) h = far 1 (omega arith)
each_mirrored P near far (suc (suc (suc (suc (suc (suc (suc zero))))))) h = far 0 (omega arith)
each_mirrored P near far (suc (suc (suc (suc (suc (suc (suc (suc p)))))))) h = absurd (omega arith)

pub each_of_8 : (P : ℕ → Type 0) → P 0 → P 1 → P 2 → P 3 → P 4 → P 5 → P 6 → P 7 → (k : ℕ) → k < 8 → P k
each_of_8 P a b c d e f g h k small =
    each_mirrored P (each_of_4 P a b c d) (each_of_4 (λ k. P (7 - k)) h g f e) k small

-- the even places, and the odd ones
pub each_paired : (P : ℕ → Type 0) → ((k : ℕ) → k < 4 → P (2 * k)) → ((k : ℕ) → k < 4 → P (2 * k + 1)) → (p : ℕ) → p < 8 → P p
each_paired P even odd zero h = even 0 (omega arith)
each_paired P even odd (suc zero) h = odd 0 (omega arith)
each_paired P even odd (suc (suc zero)) h = even 1 (omega arith)
each_paired P even odd (suc (suc (suc zero))) h = odd 1 (omega arith)
each_paired P even odd (suc (suc (suc (suc zero)))) h = even 2 (omega arith)
each_paired P even odd (suc (suc (suc (suc (suc zero))))) h = odd 2 (omega arith)
each_paired P even odd (suc (suc (suc (suc (suc (suc zero)))))) h = even 3 (omega arith)
each_paired P even odd (suc (suc (suc (suc (suc (suc (suc zero))))))) h = odd 3 (omega arith)
each_paired P even odd (suc (suc (suc (suc (suc (suc (suc (suc p)))))))) h = absurd (omega arith)

-- ---- terms of eight places

-- of the first half, and of their mirrors
abbrev pub by_position : ℕ → (ℕ → ℤ) → (ℕ → ℤ) → ℤ
by_position p near far = cond (ltb p 4) (near p) (far (7 - p))

-- of the even places, and of the odd ones
abbrev pub by_parity : ℕ → (ℕ → ℤ) → (ℕ → ℤ) → ℤ
by_parity p even odd = cond (ltb (p % 2) 1) (even (p / 2)) (odd (p / 2))
