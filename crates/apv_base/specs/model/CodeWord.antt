-- The variable-length code h(v) of the RFC, with its parameter k.
use Rattle.std.specs.Prelude.{◌≡◌, ℕ, zero, suc, ◌+◌, ◌/◌, ◌-◌, ◌*◌, ◌^◌, ◌<◌, ◌≤◌, nat_lt}
use Rattle.std.specs.Prelude.{List, ◌∷◌, ◌++◌, length, replicate}
use Rattle.std.specs.Prelude.{if◌then◌else◌}
use Rattle.apv_base.specs.model.Bits.{bin}

-- how often n can be halved, at most, before it is below 2
unfoldable pub halvings : ℕ → ℕ → ℕ
halvings zero n = 0
halvings (suc most) n = if nat_lt n 2 then 0 else suc (halvings most (n / 2))

-- the whole part of the logarithm of n to base 2
abbrev pub log_2 : ℕ → ℕ
log_2 n = halvings n n

-- the base of the code words with j zeros, which is the smallest of their values: 2 * 2 ^ k + 2 ^ k * (2 ^ j - 1)
abbrev pub long_word_base : ℕ → ℕ → ℕ
long_word_base k j = 2 ^ k + 2 ^ (k + j)

-- the zeros in the code word of v: the one j with long_word_base k j ≤ v < long_word_base k (j + 1). As
-- long_word_base k j is 2 ^ k + 2 ^ (k + j), the logarithm of v - 2 ^ k gives it.
unfoldable pub zeros_of : ℕ → ℕ → ℕ
zeros_of k v = log_2 (v - 2 ^ k) - k

-- the code word with j zeros
abbrev pub long_word : ℕ → ℕ → ℕ → List ℕ
long_word k j r = 0 ∷ 1 ∷ (replicate j 0 ++ 1 ∷ bin (k + j) r)

-- the code word of v
unfoldable pub code_word : ℕ → ℕ → List ℕ
code_word k v =
    if nat_lt v (2 ^ k) then 1 ∷ bin k v
    else (if nat_lt v (2 * 2 ^ k) then 0 ∷ 0 ∷ bin k (v - 2 ^ k)
    else long_word k (zeros_of k v) (v - long_word_base k (zeros_of k v)))

-- ---- reading a word of any code from the start of a list of bits

-- the word of v is next, and v is permitted
abbrev pub HasValue : (ℕ → List ℕ) → ℕ → List ℕ → ℕ → Type 0
HasValue word limit b v = (v ≤ limit) × ((rest : List ℕ) × (b ≡ word v ++ rest))

-- the bits are a proper prefix of the word of a permitted value
abbrev pub EndsInside : (ℕ → List ℕ) → ℕ → List ℕ → Type 0
EndsInside word limit b = (v : ℕ) × (v ≤ limit) × ((rest : List ℕ) × (0 < length rest) × (word v ≡ b ++ rest))

-- neither: no way to go on gives the word of a permitted value
abbrev pub HasNone : (ℕ → List ℕ) → ℕ → List ℕ → Type 0
HasNone word limit b = ((v : ℕ) → ¬ HasValue word limit b v) × ¬ EndsInside word limit b
