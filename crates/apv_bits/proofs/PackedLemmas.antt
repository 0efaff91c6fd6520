-- Two numbers of a few bits as one.
use Rattle.std.proofs.Common.{◌≡◌, ℕ, ◌+◌, ◌*◌, ◌%◌, ◌^◌, ◌<◌, ◌≤◌, ◌++◌, bit_or, ◌∙◌, ap, arith}
use Rattle.std.proofs.lemmas.Nat.{mul-add-lt, or_shifted, pow-add, shl_whole}
use Rattle.apv_base.specs.model.Bits.{bin}
use Rattle.apv_base.proofs.BitsLemmas.{bin_push}

-- as 64 bits compute it
joined_number : (n m a b : ℕ) → n + m ≤ 57 → a < 2 ^ n → b < 2 ^ m → bit_or (a * 2 ^ m % 2 ^ 64) b ≡ a * 2 ^ m + b
joined_number n m a b few ha hb =
    let whole : a * 2 ^ m % 2 ^ 64 ≡ a * 2 ^ m = shl_whole a n m 64 ha (omega arith) in
    rw whole (or_shifted a m b hb)

pub joined_small : (n m a b : ℕ) → n + m ≤ 57 → a < 2 ^ n → b < 2 ^ m → bit_or (a * 2 ^ m % 2 ^ 64) b < 2 ^ (n + m)
joined_small n m a b few ha hb =
    let turned : n + m ≡ m + n = omega arith in
    rw (joined_number n m a b few ha hb, turned, pow-add 2 m n) (mul-add-lt a (2 ^ m) b (2 ^ n) ha hb)

pub joined_bits : (n m a b : ℕ) → n + m ≤ 57 → a < 2 ^ n → b < 2 ^ m → bin (n + m) (bit_or (a * 2 ^ m % 2 ^ 64) b) ≡ bin n a ++ bin m b
joined_bits n m a b few ha hb = ap (bin (n + m)) (joined_number n m a b few ha hb) ∙ bin_push n m a b hb
