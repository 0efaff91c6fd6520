-- A code word at the start of 64 bits.
use Rattle.std.proofs.Common.{◌≡◌, ℕ, zero, suc, ◌+◌, ◌-◌, ◌*◌, ◌/◌, ◌%◌, ◌^◌, ◌<◌, ◌≤◌, ◌++◌, length, take, drop, replicate, List, ◌∷◌, bit_xor, bit_or, refl, sym, ap, ap₂, ◌∙◌, ⊎_elim, arith}
use Rattle.std.specs.Int.{leading_zeros, w64}
use Rattle.std.specs.Int.Bits.{xor_zero_r}
use Rattle.std.proofs.lemmas.Bool.{cases_lt, cases_eq}
use Rattle.std.proofs.Math.Nat.{pow-suc, mod-lt, mod-eq_of_lt}
use Rattle.std.proofs.lemmas.Nat.{pow_pos, pow-add, shr_below, shr_high, shr_split, le-div, xor_block, or_block, or_disjoint, and_le_r, leading_top, xor_lt, mul-le}
use Rattle.std.proofs.lemmas.List.{append_assoc, take-append-drop, take-take, take_at, length-append, length-replicate}
use Rattle.apv_base.specs.model.Bits.{digits, bin}
use Rattle.apv_base.specs.model.CodeWord.{code_word}
use Rattle.apv_base.proofs.BitsLemmas.{bin_push, bin-suc, bin-add, bin_mod, length-bin}
use Rattle.apv_base.proofs.CodeWordLemmas.{Form, first, second, further, form, word_first, word_second, word_further, pow_le}
use Rattle.apv_hv.specs.Decoding.{StartsLongWord}
use Rattle.apv_hv.proofs.ReadingLemmas.{heads}
use Rattle.apv_hv.proofs.WritingLemmas.{first_is, second_is, further_is, length-first, length-second}

-- ---- the second bit turned, and the last set

odd : (x : ℕ) → bit_or x 1 ≡ x / 2 * 2 + 1
odd x =
    let none : bit_or (x / 2) 0 ≡ x / 2 = or_disjoint (x / 2) 0 (omega (arith, and_le_r (x / 2) 0)) ∙ (let e : x / 2 + 0 ≡ x / 2 = omega arith in e) in
    let low : bit_or (x % 2) 1 ≡ 1 =
    ⊎_elim (λ (e : x % 2 ≡ 0). rw e refl) (λ (ne : x % 2 ≡ 0 → ⊥). let e : x % 2 ≡ 1 = omega arith in rw e refl) (cases_eq (x % 2) 0) in
    ap₂ bit_or (sym (shr_split x 1)) (let e : 1 ≡ 0 * 2 ^ 1 + 1 = refl in e)
    ∙ or_block 1 (x / 2) 0 (x % 2) 1 (mod-lt x (pow_pos 1)) (omega arith)
    ∙ ap₂ (λ a b. a * 2 + b) none low

turned : (h l : ℕ) → l < 2 ^ 62 → bit_xor (h * 2 ^ 62 + l) (2 ^ 62) ≡ bit_xor h 1 * 2 ^ 62 + l
turned h l small =
    ap (bit_xor (h * 2 ^ 62 + l)) (let e : 2 ^ 62 ≡ 1 * 2 ^ 62 + 0 = refl in e)
    ∙ xor_block 62 h 1 l 0 small (pow_pos 62) ∙ ap (λ x. bit_xor h 1 * 2 ^ 62 + x) (xor_zero_r l)

turned_as : (h l b : ℕ) → l < 2 ^ 62 → b ≡ h * 2 ^ 62 + l → bit_xor b (2 ^ 62) ≡ bit_xor h 1 * 2 ^ 62 + l
turned_as h l b small e = ap (λ x. bit_xor x (2 ^ 62)) e ∙ turned h l small

turned_low : (b : ℕ) → b < 2 ^ 62 → bit_xor b (2 ^ 62) ≡ 2 ^ 62 + b
turned_low b h = turned_as 0 b b h (omega arith)

turned_long : (b : ℕ) → 2 ^ 62 ≤ b → b < 2 ^ 63 → bit_xor b (2 ^ 62) ≡ b - 2 ^ 62
turned_long b low high = turned_as 1 (b - 2 ^ 62) b (omega arith) (omega arith) ∙ (let e : 0 * 2 ^ 62 + (b - 2 ^ 62) ≡ b - 2 ^ 62 = omega arith in e)

turned_high : (b : ℕ) → 2 ^ 63 ≤ b → b < 2 ^ 64 → 2 ^ 63 ≤ bit_xor b (2 ^ 62)
turned_high b low high =
    ⊎_elim
    (λ (lt : b < 3 * 2 ^ 62). omega (arith, turned_as 2 (b - 2 * 2 ^ 62) b (omega arith) (omega arith)))
    (λ (ge : 3 * 2 ^ 62 ≤ b). omega (arith, turned_as 3 (b - 3 * 2 ^ 62) b (omega arith) (omega arith)))
    (cases_lt b (3 * 2 ^ 62))

abbrev marked : ℕ → ℕ
marked b = bit_or (bit_xor b (2 ^ 62)) 1

-- the place of the highest 1
module _ (b z : ℕ) (fits : b < 2 ^ 64) (is : z ≡ leading_zeros w64 (marked b)) where
  below : bit_xor b (2 ^ 62) < 2 ^ 64
  below = xor_lt 64 b (2 ^ 62) fits (omega arith)

  top : (i : ℕ) × (z + suc i ≡ 64) × (2 ^ i ≤ marked b) × (marked b < 2 ^ suc i)
  top =
      let found = leading_top 64 (marked b) (omega (arith, odd (bit_xor b (2 ^ 62)))) (omega (arith, odd (bit_xor b (2 ^ 62)), below)) in
      (found.0, omega (arith, is, found.1), found.2, found.3)

  pub zeros_few : z < 64
  zeros_few = omega (arith, top.1)

  -- what the highest 1 says of the number
  high_is : (j : ℕ) → z ≡ j → 2 ^ (63 - j) ≤ marked b
  high_is j e = let i : top.0 ≡ 63 - j = omega (arith, top.1) in rw i at top.2

  low_is : (j : ℕ) → j < 64 → z ≡ j → marked b < 2 ^ (64 - j)
  low_is j h e = let i : suc top.0 ≡ 64 - j = omega (arith, top.1) in rw i at top.3

  pub zeros_first : z ≡ 0 → 2 ^ 63 ≤ b
  zeros_first e =
      ⊎_elim
      (λ (lt : b < 2 ^ 62). absurd (omega (arith, high_is 0 e, odd (bit_xor b (2 ^ 62)), turned_low b lt)))
      (λ (ge : 2 ^ 62 ≤ b). ⊎_elim
      (λ (lt : b < 2 ^ 63). absurd (omega (arith, high_is 0 e, odd (bit_xor b (2 ^ 62)), turned_long b ge lt)))
      (λ (le : 2 ^ 63 ≤ b). le)
      (cases_lt b (2 ^ 63)))
      (cases_lt b (2 ^ 62))

  pub zeros_second : z ≡ 1 → b < 2 ^ 62
  zeros_second e =
      ⊎_elim
      (λ (lt : b < 2 ^ 62). lt)
      (λ (ge : 2 ^ 62 ≤ b). ⊎_elim
      (λ (lt : b < 2 ^ 63). absurd (omega (arith, high_is 1 e, odd (bit_xor b (2 ^ 62)), turned_long b ge lt)))
      (λ (le : 2 ^ 63 ≤ b). absurd (omega (arith, low_is 1 (omega arith) e, odd (bit_xor b (2 ^ 62)), turned_high b le fits)))
      (cases_lt b (2 ^ 63)))
      (cases_lt b (2 ^ 62))

  long_of : (j : ℕ) → z ≡ j + 2 → 2 ^ 62 ≤ b → b < 2 ^ 63 → StartsLongWord b j
  long_of j e low high =
      let t : bit_xor b (2 ^ 62) ≡ b - 2 ^ 62 = turned_long b low high in
      let m : marked b ≡ (b - 2 ^ 62) / 2 * 2 + 1 = odd (bit_xor b (2 ^ 62)) ∙ ap (λ x. x / 2 * 2 + 1) t in
      let few : j ≤ 61 = omega (arith, zeros_few) in
      let up : 64 - (j + 2) ≡ suc (61 - j) = omega arith in
      let down : 63 - (j + 2) ≡ 61 - j = omega arith in
      let upper : marked b < 2 ^ suc (61 - j) = rw up at (low_is (j + 2) (omega arith) e) in
      let lower : 2 ^ (61 - j) ≤ marked b = rw down at (high_is (j + 2) e) in
      let even : j < 61 → 2 ^ (61 - j) ≡ 2 ^ (60 - j) * 2 =
      (λ h. let k : 61 - j ≡ suc (60 - j) = omega arith in ap (λ n. 2 ^ n) k ∙ pow-suc 2 (60 - j)) in
      record { above = low; few = few; below = omega (arith, pow-suc 2 (61 - j)); one = λ h. omega (arith, even h) }

  pub zeros_further : 2 ≤ z → StartsLongWord b (z - 2)
  zeros_further e =
      ⊎_elim
      (λ (lt : b < 2 ^ 62). absurd (omega (arith, top.1, top.3, pow_le (suc top.0) 62 (omega (arith, top.1)), odd (bit_xor b (2 ^ 62)), turned_low b lt)))
      (λ (ge : 2 ^ 62 ≤ b). ⊎_elim
      (λ (lt : b < 2 ^ 63). long_of (z - 2) (omega arith) ge lt)
      (λ (le : 2 ^ 63 ≤ b). absurd (omega (arith, top.1, top.3, pow_le (suc top.0) 62 (omega (arith, top.1)), odd (bit_xor b (2 ^ 62)), turned_high b le fits)))
      (cases_lt b (2 ^ 63)))
      (cases_lt b (2 ^ 62))

-- ---- the value

add_quotient : (a s g : ℕ) → (2 ^ a * 2 ^ s + g) / 2 ^ s ≡ 2 ^ a + g / 2 ^ s
add_quotient a s g =
    let e : 2 ^ a * 2 ^ s + g ≡ (2 ^ a + g / 2 ^ s) * 2 ^ s + g % 2 ^ s = omega (arith, shr_split g s) in
    ap (λ n. n / 2 ^ s) e ∙ shr_high (2 ^ a + g / 2 ^ s) s (g % 2 ^ s) (mod-lt g (pow_pos s))

-- a number from 2 ^ a on has at least 2 ^ (a - s) above its lowest s bits
high_part : (a s n : ℕ) → s ≤ a → 2 ^ a ≤ n → 2 ^ (a - s) ≤ n / 2 ^ s
high_part a s n h low = let e : a - s + s ≡ a = omega arith in le-div (2 ^ (a - s)) n (2 ^ s) (pow_pos s) (rw (← pow-add 2 (a - s) s, e) low)

low_part : (a s n : ℕ) → s ≤ a → n < 2 ^ a → n / 2 ^ s < 2 ^ (a - s)
low_part a s n h high = let e : a - s + s ≡ a = omega arith in shr_below n (a - s) s (rw e high)

value_first : (b k : ℕ) → k ≤ 5 → 2 ^ 63 ≤ b → b < 2 ^ 64
    → (code_word k (b % 2 ^ 63 / 2 ^ (64 - (k + 1))) ≡ bin (k + 1) (b / 2 ^ (64 - (k + 1)))) × (b % 2 ^ 63 / 2 ^ (64 - (k + 1)) < 2 ^ k)
value_first b k hk low high =
    let s : ℕ = 64 - (k + 1) in
    let e : k + s ≡ 63 = omega arith in
    let small : b % 2 ^ 63 / 2 ^ s < 2 ^ k = shr_below (b % 2 ^ 63) k s (rw e (mod-lt b (pow_pos 63))) in
    let whole : b ≡ 2 ^ k * 2 ^ s + b % 2 ^ 63 = rw (← pow-add 2 k s, e) (omega arith) in
    (first_is k (b % 2 ^ 63 / 2 ^ s) small ∙ ap (bin (k + 1)) (sym (ap (λ x. x / 2 ^ s) whole ∙ add_quotient k s (b % 2 ^ 63))), small)

value_second : (b k : ℕ) → k ≤ 5 → b < 2 ^ 62
    → (code_word k (b % 2 ^ 62 / 2 ^ (64 - (k + 2)) + 2 ^ k) ≡ bin (k + 2) (b / 2 ^ (64 - (k + 2)))) × (b % 2 ^ 62 / 2 ^ (64 - (k + 2)) < 2 ^ k)
value_second b k hk high =
    let s : ℕ = 64 - (k + 2) in
    let e : k + s ≡ 62 = omega arith in
    let same : b % 2 ^ 62 ≡ b = mod-eq_of_lt high in
    let small : b / 2 ^ s < 2 ^ k = shr_below b k s (rw e high) in
    let r : b / 2 ^ s + 2 ^ k - 2 ^ k ≡ b / 2 ^ s = omega arith in
    rw same (second_is k (b / 2 ^ s + 2 ^ k) (omega arith) (rw r small) ∙ ap (bin (k + 2)) r, small)

value_further : (b k j : ℕ) → k ≤ 5 → b < 2 ^ 64 → StartsLongWord b j → b < 2 ^ 63 → 2 * j + 3 + k ≤ 57
    → (code_word k (b % 2 ^ 62 / 2 ^ (64 - (2 * j + 3 + k)) + 2 ^ k) ≡ bin (2 * j + 3 + k) (b / 2 ^ (64 - (2 * j + 3 + k))))
    × (b % 2 ^ 62 / 2 ^ (64 - (2 * j + 3 + k)) < 2 ^ 31)
value_further b k j hk fits long high few =
    let s : ℕ = 64 - (2 * j + 3 + k) in
    let low : b % 2 ^ 62 ≡ b - 2 ^ 62 = omega (arith, long.above) in
    let u : ℕ = (b - 2 ^ 62) / 2 ^ s in
    let a : 61 - j - s ≡ k + j = omega arith in
    let c : suc (61 - j) - s ≡ suc (k + j) = omega arith in
    let ul : 2 ^ (k + j) ≤ u = rw a at (high_part (61 - j) s (b - 2 ^ 62) (omega arith) (long.one (omega arith))) in
    let uh : u < 2 ^ suc (k + j) = rw c at (low_part (suc (61 - j)) s (b - 2 ^ 62) (omega arith) (omega (arith, long.below, pow-suc 2 (61 - j)))) in
    let kj : 2 ^ k ≤ 2 ^ (k + j) = pow_le k (k + j) (omega arith) in
    let v : u + 2 ^ k - 2 ^ k ≡ u = omega arith in
    let n : 2 * (k + j) + 1 - k ≡ 2 * j + 1 + k = omega arith in
    let m : 2 * j + 3 + k ≡ 2 + (2 * j + 1 + k) = omega arith in
    let small : u < 2 ^ (2 * j + 1 + k) = omega (arith, pow_le (suc (k + j)) (2 * j + 1 + k) (omega arith)) in
    let word : code_word k (u + 2 ^ k) ≡ bin 2 1 ++ bin (2 * j + 1 + k) u =
    further_is k (u + 2 ^ k) (k + j) (omega arith) (rw v (omega arith)) (rw v ul) (rw v (omega (arith, pow-suc 2 (k + j)))) (omega arith)
    ∙ ap₂ (λ w x. bin 2 1 ++ bin w x) n v in
    let whole : b ≡ 2 ^ (2 * j + 1 + k) * 2 ^ s + (b - 2 ^ 62) =
    (let e : 2 * j + 1 + k + s ≡ 62 = omega arith in rw (← pow-add 2 (2 * j + 1 + k) s, e) (omega (arith, long.above))) in
    let quotient : b / 2 ^ s ≡ 1 * 2 ^ (2 * j + 1 + k) + u =
    ap (λ x. x / 2 ^ s) whole ∙ add_quotient (2 * j + 1 + k) s (b - 2 ^ 62) ∙ (let o : 2 ^ (2 * j + 1 + k) + u ≡ 1 * 2 ^ (2 * j + 1 + k) + u = omega arith in o) in
    rw low (
      word ∙ sym (ap₂ bin m quotient ∙ bin_push 2 (2 * j + 1 + k) 1 u small),
      omega (arith, pow_le (suc (k + j)) 31 (omega arith)),
    )

-- ---- the word

-- what is found of a number that begins with a word
pub record Found (b k z n : ℕ) : Type 0 where
  pub first : z ≡ 0 → 2 ^ 63 ≤ b
  pub second : z ≡ 1 → b < 2 ^ 62
  pub further : 2 ≤ z → StartsLongWord b (z - 2)
  pub short : z < 2 → n ≡ k + z + 1
  pub long : 2 ≤ z → n + 1 ≡ k + 2 * z

long_below : (b j : ℕ) → StartsLongWord b j → b < 2 ^ 63
long_below b j long = omega (arith, long.below, long.above, pow_le (61 - j) 61 (omega arith))

-- the value that is found has its word at the start, and fits 32 bits
pub decoded : (b k z n v : ℕ) → Found b k z n → b < 2 ^ 64 → k ≤ 5 → n ≤ 57
    → (z ≡ 0 → v ≡ b % 2 ^ 63 / 2 ^ (64 - n)) → (0 < z → v ≡ b % 2 ^ 62 / 2 ^ (64 - n) + 2 ^ k)
    → (code_word k v ≡ bin n (b / 2 ^ (64 - n))) × (v < 2 ^ 32)
decoded b k z n v found fits hk few one other =
    ⊎_elim
    (λ (lt : z < 1).
    let e : z ≡ 0 = omega arith in
    let m : n ≡ k + 1 = omega (arith, found.short (omega arith)) in
    let is : v ≡ b % 2 ^ 63 / 2 ^ (64 - (k + 1)) = rw m at (one e) in
    let both = value_first b k hk (found.first e) fits in
    rw (m, is) (both.0, omega (arith, both.1, pow_le k 5 hk)))
    (λ (ge : 1 ≤ z). ⊎_elim
    (λ (lt : z < 2).
    let m : n ≡ k + 2 = omega (arith, found.short lt) in
    let is : v ≡ b % 2 ^ 62 / 2 ^ (64 - (k + 2)) + 2 ^ k = rw m at (other (omega arith)) in
    let both = value_second b k hk (found.second (omega arith)) in
    rw (m, is) (both.0, omega (arith, both.1, pow_le k 5 hk)))
    (λ (le : 2 ≤ z).
    let m : n ≡ 2 * (z - 2) + 3 + k = omega (arith, found.long le) in
    let is : v ≡ b % 2 ^ 62 / 2 ^ (64 - (2 * (z - 2) + 3 + k)) + 2 ^ k = rw m at (other (omega arith)) in
    let both = value_further b k (z - 2) hk fits (found.further le) (long_below b (z - 2) (found.further le)) (omega arith) in
    rw (m, is) (both.0, omega (arith, both.1, pow_le k 5 hk)))
    (cases_lt z 2))
    (cases_lt z 1)

tails : {a b : ℕ} {x y : List ℕ} → a ∷ x ≡ b ∷ y → x ≡ y
tails e = cc

at_least_one : (u n : ℕ) → 1 ≤ u / 2 ^ n → 2 ^ n ≤ u
at_least_one u n h = let m : 1 * 2 ^ n ≤ u / 2 ^ n * 2 ^ n = mul-le 1 (2 ^ n) (u / 2 ^ n) (2 ^ n) h (omega arith) in omega (arith, shr_split u n)

below_one : (u n : ℕ) → u / 2 ^ n ≡ 0 → u < 2 ^ n
below_one u n e = omega (arith, shr_split u n, mod-lt u (pow_pos n), ap (λ x. x * 2 ^ n) e)

-- where the bits of a number begin with zeros and a 1, the 1 is its highest
zeros_at : (n u j : ℕ) (x : List ℕ) → u < 2 ^ n → bin n u ≡ replicate j 0 ++ 1 ∷ x → (i : ℕ) × (i + suc j ≡ n) × (2 ^ i ≤ u) × (u < 2 ^ suc i)
unfolding digits
zeros_at zero u zero x h e = absurd (let l : ◌≡◌ {A = ℕ} 0 (suc (length x)) = ap length e in omega arith)
zeros_at zero u (suc j) x h e = absurd (let l : ◌≡◌ {A = ℕ} 0 (suc (length (replicate j 0 ++ 1 ∷ x))) = ap length e in omega arith)
zeros_at (suc n) u zero x h e =
    let one : u / 2 ^ n % 2 ≡ 1 = heads e in
    let some : 1 ≤ u / 2 ^ n = omega arith in
    (n, omega arith, at_least_one u n some, h)
zeros_at (suc n) u (suc j) x h e =
    let none : u / 2 ^ n % 2 ≡ 0 = heads e in
    let lt : u / 2 ^ n < 2 = shr_below u 1 n (let s : suc n ≡ 1 + n = omega arith in rw (← s) h) in
    let small : u < 2 ^ n = below_one u n (omega arith) in
    let rest : (i : ℕ) × (i + suc j ≡ n) × (2 ^ i ≤ u) × (u < 2 ^ suc i) = zeros_at n u j x small (tails e) in
    (rest.0, omega (arith, rest.1), rest.2, rest.3)

first_bit : (b : ℕ) (x : List ℕ) → b < 2 ^ 64 → bin 64 b ≡ 1 ∷ x → 2 ^ 63 ≤ b
first_bit b x fits e = at_least_one b 63 (let one : b / 2 ^ 63 % 2 ≡ 1 = heads (sym (bin-suc 63 b) ∙ e) in omega arith)

no_first_bit : (b : ℕ) (x : List ℕ) → b < 2 ^ 64 → bin 64 b ≡ 0 ∷ x → b < 2 ^ 63
no_first_bit b x fits e =
    let none : b / 2 ^ 63 % 2 ≡ 0 = heads (sym (bin-suc 63 b) ∙ e) in
    below_one b 63 (omega arith)

after_first : (b c : ℕ) (x : List ℕ) → bin 64 b ≡ c ∷ x → bin 63 b ≡ x
after_first b c x e = tails (sym (bin-suc 63 b) ∙ e)

after_second : (b c : ℕ) (x : List ℕ) → bin 63 b ≡ c ∷ x → bin 62 b ≡ x
after_second b c x e = tails (sym (bin-suc 62 b) ∙ e)

-- a number that begins with a word begins with one of the length that is found
only_by : (b k z n v : ℕ) (rest : List ℕ) → Found b k z n → b < 2 ^ 64 → Form k v → bin 64 b ≡ code_word k v ++ rest → length (code_word k v) ≡ n
only_by b k z n v rest found fits (first lt) e =
    let e' : bin 64 b ≡ 1 ∷ (bin k v ++ rest) = e ∙ ap (λ w. w ++ rest) (word_first k v lt) in
    let low : 2 ^ 63 ≤ b = first_bit b (bin k v ++ rest) fits e' in
    let zero_is : z ≡ 0 =
    ⊎_elim (λ (h : z < 1). omega arith)
    (λ (h : 1 ≤ z). ⊎_elim (λ (l : z < 2). absurd (omega (arith, found.second (omega arith)))) (λ (l : 2 ≤ z). absurd (omega (arith, long_below b (z - 2) (found.further l)))) (cases_lt z 2))
    (cases_lt z 1) in
    length-first k v lt ∙ omega (arith, found.short (omega arith))
only_by b k z n v rest found fits (second r lt is) e =
    let e' : bin 64 b ≡ 0 ∷ 0 ∷ (bin k r ++ rest) = e ∙ ap (λ w. w ++ rest) (word_second k v r lt is) in
    let high : b < 2 ^ 63 = no_first_bit b (0 ∷ (bin k r ++ rest)) fits e' in
    let none : b / 2 ^ 62 % 2 ≡ 0 = heads (sym (bin-suc 62 b) ∙ after_first b 0 (0 ∷ (bin k r ++ rest)) e') in
    let low : b < 2 ^ 62 = below_one b 62 (omega arith) in
    let one_is : z ≡ 1 =
    ⊎_elim (λ (h : z < 1). absurd (omega (arith, found.first (omega arith))))
    (λ (h : 1 ≤ z). ⊎_elim (λ (l : z < 2). omega arith) (λ (l : 2 ≤ z). absurd (omega (arith, (found.further l).above))) (cases_lt z 2))
    (cases_lt z 1) in
    length-second k v (omega arith) (omega arith) ∙ omega (arith, found.short (omega arith))
only_by b k z n v rest found fits (further j r lt is) e =
    let x : List ℕ = bin (k + j) r ++ rest in
    let e' : bin 64 b ≡ 0 ∷ 1 ∷ (replicate j 0 ++ 1 ∷ x) =
    e ∙ ap (λ w. w ++ rest) (word_further k v j r lt is) ∙ ap (λ w. 0 ∷ 1 ∷ w) (append_assoc (replicate j 0) (1 ∷ bin (k + j) r) rest) in
    let high : b < 2 ^ 63 = no_first_bit b (1 ∷ (replicate j 0 ++ 1 ∷ x)) fits e' in
    let second_is_one : b / 2 ^ 62 % 2 ≡ 1 = heads (sym (bin-suc 62 b) ∙ after_first b 0 (1 ∷ (replicate j 0 ++ 1 ∷ x)) e') in
    let low : 2 ^ 62 ≤ b = at_least_one b 62 (omega arith) in
    let two : 2 ≤ z =
    ⊎_elim (λ (h : z < 1). absurd (omega (arith, found.first (omega arith))))
    (λ (h : 1 ≤ z). ⊎_elim (λ (l : z < 2). absurd (omega (arith, found.second (omega arith)))) (λ (l : 2 ≤ z). l) (cases_lt z 2))
    (cases_lt z 1) in
    let long : StartsLongWord b (z - 2) = found.further two in
    let same : b % 2 ^ 62 ≡ b - 2 ^ 62 = omega arith in
    let tail : bin 62 (b - 2 ^ 62) ≡ replicate j 0 ++ 1 ∷ x =
    ap (bin 62) (sym same) ∙ bin_mod 62 62 b (omega arith) ∙ after_second b 1 (replicate j 0 ++ 1 ∷ x) (after_first b 0 (1 ∷ (replicate j 0 ++ 1 ∷ x)) e') in
    let at : (i : ℕ) × (i + suc j ≡ 62) × (2 ^ i ≤ b - 2 ^ 62) × (b - 2 ^ 62 < 2 ^ suc i) = zeros_at 62 (b - 2 ^ 62) j x (omega arith) tail in
    let up : j ≤ z - 2 = ⊎_elim
    (λ (l : z - 2 < j). absurd (omega (arith, long.one (omega (arith, at.1)), at.3, pow_le (suc at.0) (61 - (z - 2)) (omega (arith, at.1)))))
    (λ (l : j ≤ z - 2). l) (cases_lt (z - 2) j) in
    let down : z - 2 ≤ j = ⊎_elim
    (λ (l : j < z - 2). absurd (omega (arith, long.below, long.few, at.2, pow_le (suc (61 - (z - 2))) at.0 (omega (arith, at.1, long.few)), pow-suc 2 (61 - (z - 2)))))
    (λ (l : z - 2 ≤ j). l) (cases_lt j (z - 2)) in
    ap length (word_further k v j r lt is)
    ∙ omega (arith, length-append (replicate j 0) (1 ∷ bin (k + j) r), length-replicate {A = ℕ} j 0, length-bin (k + j) r, found.long two)

pub only : (b k z n v : ℕ) (rest : List ℕ) → Found b k z n → b < 2 ^ 64 → bin 64 b ≡ code_word k v ++ rest → length (code_word k v) ≡ n
only b k z n v rest found fits e = only_by b k z n v rest found fits (form k v) e

-- ---- the window

pub begins : (n b : ℕ) (window : List ℕ) (word : List ℕ) → window ≡ take (length window) (bin 64 b) → n ≤ length window → length window ≤ 57
    → word ≡ bin n (b / 2 ^ (64 - n)) → window ≡ word ++ drop n window
begins n b window word prefix long few is =
    let k : n + (64 - n) ≡ 64 = omega arith in
    let e : take n window ≡ word =
    ap (take n) prefix ∙ take-take n (length window) (bin 64 b) long ∙ ap (λ i. take n (bin i b)) (sym k) ∙ ap (take n) (bin-add n (64 - n) b)
    ∙ take_at (bin n (b / 2 ^ (64 - n))) (bin (64 - n) b) n (length-bin n (b / 2 ^ (64 - n))) ∙ sym is in
    sym (take-append-drop n window) ∙ ap (λ a. a ++ drop n window) e

pub begins_with_none : (b k z n v : ℕ) (window rest : List ℕ) → Found b k z n → b < 2 ^ 64 → window ≡ take (length window) (bin 64 b) → length window < n → window ≡ code_word k v ++ rest → ⊥
begins_with_none b k z n v window rest found fits prefix short e =
    let whole : bin 64 b ≡ code_word k v ++ (rest ++ drop (length window) (bin 64 b)) =
    sym (take-append-drop (length window) (bin 64 b)) ∙ ap (λ w. w ++ drop (length window) (bin 64 b)) (sym prefix ∙ e) ∙ append_assoc (code_word k v) rest (drop (length window) (bin 64 b)) in
    omega (arith, only b k z n v (rest ++ drop (length window) (bin 64 b)) found fits whole, ap length e, length-append (code_word k v) rest)
