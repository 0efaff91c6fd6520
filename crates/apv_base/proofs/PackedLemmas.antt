-- Bits as bytes.
use Rattle.std.proofs.Common.{◌≡◌, ℕ, zero, suc, ◌-◌, ◌≤◌, ⊎_elim, append-nil, ◌+◌, ◌*◌, ◌/◌, List, [], ◌∷◌, ◌++◌, length, take, drop, replicate, ◌<◌, ◌^◌, refl, sym, ap, ap₂, ◌∙◌, subst, arith, lit<, length-append, append_assoc}
use Rattle.std.proofs.lemmas.Bool.{cases_lt}
use Rattle.std.proofs.lemmas.List.{take_at, drop_at, length-drop, nil_from_length, take-append-le, take-append-drop, replicate-append-replicate, length-replicate}
use Rattle.apv_base.specs.model.Bits.{number, bin, bits, AreDigits, AreBytes, padding}
use Rattle.apv_base.specs.model.Component.{packed, bytes_of_bits}
use Rattle.apv_base.proofs.BitsLemmas.{length-bin, length-bits}
use Rattle.apv_base.proofs.DigitsLemmas.{digits-append, zeros-small, digits-number, digits-drop, digits-take, number-digits, number_below}

-- the number of bytes
pub length-packed : (n : ℕ) (b : List ℕ) → length (packed n b) ≡ n
unfolding packed
length-packed zero b = refl
length-packed (suc n) b = ap suc (length-packed n (drop 8 b))

packed-bits : (xs : List ℕ) → AreBytes xs → packed (length xs) (bits xs) ≡ xs
unfolding packed
packed-bits [] are = refl
packed-bits (x ∷ xs) are =
    let zeros : List ℕ = replicate 8 0 in
    let first : take 8 ((bin 8 x ++ bits xs) ++ zeros) ≡ bin 8 x = ap (take 8) (append_assoc (bin 8 x) (bits xs) zeros) ∙ take_at (bin 8 x) (bits xs ++ zeros) 8 (length-bin 8 x) in
    let later : drop 8 (bin 8 x ++ bits xs) ≡ bits xs = drop_at (bin 8 x) (bits xs) 8 (length-bin 8 x) in
    ap₂ (λ (y : ℕ) (ys : List ℕ). y ∷ ys) (ap (number 2) first ∙ number-digits 2 8 x (lit< tt) (are 0))
    (ap (packed (length xs)) later ∙ packed-bits xs (λ i. are (suc i)))

-- the bits of bytes are packed to them
pub bytes-of-bits : (xs : List ℕ) → AreBytes xs → bytes_of_bits (bits xs) ≡ xs
bytes-of-bits xs are =
    let n : (length (bits xs) + 7) / 8 ≡ length xs = omega (arith, length-bits xs) in
    ap (λ (k : ℕ). packed k (bits xs)) n ∙ packed-bits xs are

packed-suc : (n : ℕ) (b : List ℕ) → bits (packed (suc n) b) ≡ bin 8 (number 2 (take 8 (b ++ replicate 8 0))) ++ bits (packed n (drop 8 b))
unfolding packed
packed-suc n b = refl

packed-zero : (b : List ℕ) → bits (packed zero b) ≡ []
unfolding packed
packed-zero b = refl

eight-bits : (b : List ℕ) → AreDigits 2 b → length b ≡ 8 → bin 8 (number 2 b) ≡ b
eight-bits b h len = rw (← len) (digits-number 2 b (lit< tt) h)

-- the bits of n bytes to which bits are packed are these, and then zeros
pub packed_bits : (n : ℕ) (b : List ℕ) → AreDigits 2 b → length b ≤ 8 * n → 8 * n < length b + 8 → bits (packed n b) ≡ b ++ replicate (8 * n - length b) 0
packed_bits zero b h few many =
    let none : b ≡ [] = nil_from_length b (omega arith) in
    rw (packed-zero b, none) refl
packed_bits (suc n) b h few many =
    ⊎_elim
    (λ (short : length b < 8).
    let last : n ≡ 0 = omega arith in
    let m : 8 * suc n - length b ≡ 8 - length b = omega arith in
    let split : replicate {A = ℕ} 8 0 ≡ replicate (8 - length b) 0 ++ replicate (length b) 0 =
    (let e : 8 - length b + length b ≡ 8 = omega arith in sym (replicate-append-replicate (8 - length b) (length b) 0 ∙ ap (λ i. replicate {A = ℕ} i 0) e)) in
    let len : length (b ++ replicate (8 - length b) 0) ≡ 8 = omega (arith, length-append b (replicate (8 - length b) 0), length-replicate {A = ℕ} (8 - length b) 0) in
    let top : take 8 (b ++ replicate 8 0) ≡ b ++ replicate (8 - length b) 0 =
    ap (λ (c : List ℕ). take 8 (b ++ c)) split ∙ ap (take 8) (sym (append_assoc b (replicate (8 - length b) 0) (replicate (length b) 0)))
    ∙ take_at (b ++ replicate (8 - length b) 0) (replicate (length b) 0) 8 len in
    let rest : bits (packed n (drop 8 b)) ≡ [] = ap (λ i. bits (packed i (drop 8 b))) last ∙ packed-zero (drop 8 b) in
    rw (packed-suc n b, rest, top, m)
    (append-nil (bin 8 (number 2 (b ++ replicate (8 - length b) 0)))
    ∙ eight-bits (b ++ replicate (8 - length b) 0) (digits-append 2 b (replicate (8 - length b) 0) h (zeros-small (8 - length b))) len))
    (λ (long : 8 ≤ length b).
    let top : take 8 (b ++ replicate 8 0) ≡ take 8 b = take-append-le 8 b (replicate 8 0) long in
    let len : length (take 8 b) ≡ 8 = omega (arith, ap length (take-append-drop 8 b), length-append (take 8 b) (drop 8 b), length-drop 8 b) in
    let m : 8 * n - length (drop 8 b) ≡ 8 * suc n - length b = omega (arith, length-drop 8 b) in
    rw (
      packed-suc n b,
      top,
      eight-bits (take 8 b) (digits-take 2 8 b (lit< tt) h) len,
      packed_bits n (drop 8 b) (digits-drop 2 8 b h) (omega (arith, length-drop 8 b)) (omega (arith, length-drop 8 b)),
      m,
    )
    (sym (append_assoc (take 8 b) (drop 8 b) (replicate (8 * suc n - length b) 0)) ∙ ap (λ c. c ++ replicate (8 * suc n - length b) 0) (take-append-drop 8 b)))
    (cases_lt (length b) 8)

-- the same of as many bytes as it takes
pub bits_of_bytes : (b : List ℕ) → AreDigits 2 b → bits (bytes_of_bits b) ≡ b ++ replicate (padding (length b)) 0
bits_of_bytes b h =
    let m : 8 * ((length b + 7) / 8) - length b ≡ padding (length b) = omega arith in
    packed_bits ((length b + 7) / 8) b h (omega arith) (omega arith) ∙ ap (λ n. b ++ replicate n 0) m

-- the bits of the bytes to which whole bytes of bits are packed are these bits
pub bits-of-whole : (n : ℕ) (b : List ℕ) → AreDigits 2 b → length b ≡ 8 * n → bits (bytes_of_bits b) ≡ b
bits-of-whole n b h len =
    let none : padding (length b) ≡ 0 = omega (arith, len) in
    bits_of_bytes b h ∙ ap (λ (k : ℕ). b ++ replicate k 0) none ∙ append-nil b

-- bits are packed to bytes
pub packed-small : (n : ℕ) (b : List ℕ) → AreDigits 2 b → length b ≡ 8 * n → AreBytes (packed n b)
unfolding packed
packed-small zero b h len i = lit< tt
packed-small (suc n) b h len zero =
    let top : take 8 (b ++ replicate 8 0) ≡ take 8 b = take-append-le 8 b (replicate 8 0) (omega (arith, len)) in
    let first : length (take 8 b) ≡ 8 = omega (arith, len, ap length (take-append-drop 8 b), length-append (take 8 b) (drop 8 b), length-drop 8 b) in
    rw top (subst (λ (k : ℕ). number 2 (take 8 b) < 2 ^ k) first (number_below 2 (take 8 b) (digits-take 2 8 b (lit< tt) h)))
packed-small (suc n) b h len (suc i) = packed-small n (drop 8 b) (digits-drop 2 8 b h) (omega (arith, len, length-drop 8 b)) i

-- whole bytes of bits are packed to bytes
pub bytes-small : (n : ℕ) (b : List ℕ) → AreDigits 2 b → length b ≡ 8 * n → AreBytes (bytes_of_bits b)
bytes-small n b h len =
    let count : (length b + 7) / 8 ≡ n = omega (arith, len) in
    subst (λ (k : ℕ). AreBytes (packed k b)) (sym count) (packed-small n b h len)
