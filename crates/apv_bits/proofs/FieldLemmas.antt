-- The steps of a field that is read through a number.
use Rattle.std.proofs.Common.{◌≡◌, ℕ, zero, suc, add-zero, w64, ◌+◌, ◌-◌, ◌*◌, ◌/◌, ◌%◌, ◌^◌, ◌<◌, ◌≤◌, ◌++◌, length, take, drop, List, [], ◌∷◌, get_or, bit_and, bit_or, refl, sym, ap, ap₂, ◌∙◌, arith}
use Rattle.std.proofs.Math.Nat.{div-one, mod-lt, mod-eq_of_lt, pow-le-pow_right, add_comm}
use Rattle.std.proofs.lemmas.Nat.{be_bytes_8, shr-shr, shr_below, shl_whole, mul-add-lt, pow-add, pow_pos, or_shifted, and_mask, one_shl, shl_below, and_le_l, and_le_r, and_comm, or_disjoint, shr_split, and-not, and_block, or_block}
use Rattle.std.proofs.lemmas.List.{take_more_set, take_at, drop_at, append_assoc, length-append, take-append-drop, take_more, append-nil, length-take-le, length-drop, drop-drop}
use Rattle.std.specs.Int.{bytes_high_first, from_be_bytes}
use borrow.Rule.Slice.PartMut.{put_mid}
use Rattle.std.proofs.Math.ListN.{set}
use Rattle.apv_base.specs.model.Bits.{digits, bin, bits, be}
use Rattle.apv_base.proofs.BitsLemmas.{bits-be, bin-add, bin_mod, length-bin, length-bits, bin_replace, bin_parts, bin_push, bin-zero, bits-append, bin_middle, part_rest, bits_from}

-- one more byte in a number of 64 bits
pub pushed : (i all x : ℕ) → i < 8 → all < 2 ^ (8 * i) → x < 256 → bit_or (all * 256 % 2 ^ 64) x ≡ all * 256 + x
pushed i all x hi small hx =
    let top : 2 ^ (8 * i) ≤ 2 ^ 56 = pow-le-pow_right {n = 2} (omega arith) {i = 8 * i} {j = 56} (omega arith) in
    let fits : all * 256 < 2 ^ 64 = omega arith in
    rw (mod-eq_of_lt fits) (or_shifted all 8 x hx)

pub pushed_small : (i all x : ℕ) → all < 2 ^ (8 * i) → x < 256 → all * 256 + x < 2 ^ (8 * (i + 1))
pushed_small i all x small hx =
    let e : 8 * (i + 1) ≡ 8 * i + 8 = omega arith in
    rw (e, pow-add 2 (8 * i) 8) (omega arith)

pub pushed_bits : (i all x : ℕ) (bytes : List ℕ) → i < length bytes → x ≡ get_or bytes i 0 → x < 256
    → bits (take i bytes) ≡ bin (8 * i) all → bits (take (i + 1) bytes) ≡ bin (8 * (i + 1)) (all * 256 + x)
pushed_bits i all x bytes hi hx small before =
    let e : 8 * (i + 1) ≡ 8 * i + 8 = omega arith in
    rw (e, take_more bytes i 0 hi, bits-append (take i bytes) (get_or bytes i 0 ∷ []), before, bin_push (8 * i) 8 all x small, hx, append-nil) refl

-- the mask of n ones
mask : (n x : ℕ) → n ≤ 32 → bit_and x (1 * 2 ^ n % 2 ^ 64 - 1) ≡ x % 2 ^ n
mask n x h = let lt : n < 64 = omega arith in rw (one_shl n 64 lt) (and_mask x n)

-- a field of n bits at the place p, taken from the number w of the bytes from first up to last
pub field_is : (p n first last w : ℕ) (xs : List ℕ) → n ≤ 32 → 8 * first ≤ p → p < 8 * first + 8 → p + n ≤ 8 * last → first ≤ last → last ≤ length xs
    → bits (take (last - first) (drop first xs)) ≡ bin (8 * length (take (last - first) (drop first xs))) w
    → drop p (bits xs) ≡ bin n (bit_and (w / 2 ^ (8 * last - (p + n))) (1 * 2 ^ n % 2 ^ 64 - 1)) ++ drop (p + n) (bits xs)
field_is p n first last w xs small low high end order inside spelled =
    let r : ℕ = p - 8 * first in
    let c : ℕ = 8 * last - (p + n) in
    let len : length (take (last - first) (drop first xs)) ≡ last - first =
    length-take-le (last - first) (drop first xs) (omega (arith, length-drop first xs)) in
    let m : 8 * length (take (last - first) (drop first xs)) ≡ r + n + c = omega arith in
    let prefix : drop (8 * first) (bits xs) ≡ bin (r + n + c) w ++ bits (drop last xs) =
    bits_from first last xs order ∙ ap (λ b. b ++ bits (drop last xs)) (spelled ∙ ap (λ k. bin k w) m) in
    let at : 8 * first + r ≡ p = omega arith in
    let here : drop p (bits xs) ≡ drop r (bin (r + n + c) w ++ bits (drop last xs)) =
    ap (λ q. drop q (bits xs)) (sym at) ∙ sym (drop-drop r (8 * first) (bits xs)) ∙ ap (drop r) prefix in
    let word : take n (drop p (bits xs)) ≡ bin n (w / 2 ^ c % 2 ^ n) = ap (take n) here ∙ bin_middle r n c w (bits (drop last xs)) in
    part_rest p n (bits xs) (bin n (bit_and (w / 2 ^ c) (1 * 2 ^ n % 2 ^ 64 - 1))) (word ∙ ap (bin n) (sym (mask n (w / 2 ^ c) small)))

-- ---- writing

-- one more byte of a number that is written
pub stored : (i len number : ℕ) (xs : List ℕ) → i < len → length xs ≡ len → bits (take i xs) ≡ bin (8 * i) (number / 2 ^ (8 * (len - i)))
    → bits (take (i + 1) (set xs i (bit_and (number / 2 ^ (8 * (len - 1 - i))) 255))) ≡ bin (8 * (i + 1)) (number / 2 ^ (8 * (len - (i + 1))))
stored i len number xs h l before =
    let within : i < length xs = omega arith in
    let e : 8 * (i + 1) ≡ 8 * i + 8 = omega arith in
    let f : len - (i + 1) ≡ len - 1 - i = omega arith in
    let g : 8 * (len - 1 - i) + 8 ≡ 8 * (len - i) = omega arith in
    let q : ℕ = number / 2 ^ (8 * (len - 1 - i)) in
    let low : bin 8 (bit_and q 255) ≡ bin 8 q = ap (bin 8) (and_mask q 8) ∙ bin_mod 8 8 q (omega arith) in
    let high : q / 2 ^ 8 ≡ number / 2 ^ (8 * (len - i)) = shr-shr number (8 * (len - 1 - i)) 8 ∙ ap (λ m. number / 2 ^ m) g in
    rw (take_more_set xs i (bit_and q 255) within, bits-append (take i xs) (bit_and q 255 ∷ []), before, e, f, bin-add (8 * i) 8 q, high, low, append-nil) refl

-- the number w with the n bits above its lowest c replaced by v, as 64 bits compute it
pub replaced : (r n c w v : ℕ) → r + n + c ≤ 64 → c < 64 → w < 2 ^ (r + n + c) → v < 2 ^ n
    → bit_or (bit_or (w / 2 ^ c / 2 ^ n * 2 ^ n % 2 ^ 64) v * 2 ^ c % 2 ^ 64) (bit_and w (1 * 2 ^ c % 2 ^ 64 - 1)) ≡ (w / 2 ^ (n + c) * 2 ^ n + v) * 2 ^ c + w % 2 ^ c
replaced r n c w v fits hc hw hv =
    let q : w / 2 ^ c / 2 ^ n ≡ w / 2 ^ (n + c) = shr-shr w c n ∙ ap (λ i. w / 2 ^ i) (add_comm c n) in
    let sum : r + n + c ≡ r + (n + c) = omega arith in
    let high : w / 2 ^ (n + c) < 2 ^ r = shr_below w r (n + c) (rw (← sum) hw) in
    let a : w / 2 ^ (n + c) * 2 ^ n % 2 ^ 64 ≡ w / 2 ^ (n + c) * 2 ^ n = shl_whole (w / 2 ^ (n + c)) r n 64 high (omega arith) in
    let b : bit_or (w / 2 ^ (n + c) * 2 ^ n) v ≡ w / 2 ^ (n + c) * 2 ^ n + v = or_shifted (w / 2 ^ (n + c)) n v hv in
    let m : w / 2 ^ (n + c) * 2 ^ n + v < 2 ^ (n + r) = rw (pow-add 2 n r) (mul-add-lt (w / 2 ^ (n + c)) (2 ^ n) v (2 ^ r) high hv) in
    let d : (w / 2 ^ (n + c) * 2 ^ n + v) * 2 ^ c % 2 ^ 64 ≡ (w / 2 ^ (n + c) * 2 ^ n + v) * 2 ^ c = shl_whole (w / 2 ^ (n + c) * 2 ^ n + v) (n + r) c 64 m (omega arith) in
    let low : bit_and w (1 * 2 ^ c % 2 ^ 64 - 1) ≡ w % 2 ^ c = rw (one_shl c 64 hc) (and_mask w c) in
    rw (q, a, b, d, low) (or_shifted (w / 2 ^ (n + c) * 2 ^ n + v) c (w % 2 ^ c) (mod-lt w (pow_pos c)))

-- a part of a list replaced by another
splice : (a b m m' c t : List ℕ) (p n : ℕ) → length a + length b ≡ p → length m ≡ n
    → a ++ ((b ++ (m' ++ c)) ++ t) ≡ take p (a ++ ((b ++ (m ++ c)) ++ t)) ++ m' ++ drop (p + n) (a ++ ((b ++ (m ++ c)) ++ t))
splice a b m m' c t p n hp hn =
    let e : a ++ ((b ++ (m ++ c)) ++ t) ≡ (a ++ b) ++ (m ++ (c ++ t)) = simp append_assoc in
    let f : a ++ ((b ++ (m ++ c)) ++ t) ≡ ((a ++ b) ++ m) ++ (c ++ t) = simp append_assoc in
    let prefix : take p (a ++ ((b ++ (m ++ c)) ++ t)) ≡ a ++ b = ap (take p) e ∙ take_at (a ++ b) (m ++ (c ++ t)) p (omega (arith, length-append a b)) in
    let back : drop (p + n) (a ++ ((b ++ (m ++ c)) ++ t)) ≡ c ++ t =
    ap (drop (p + n)) f ∙ drop_at ((a ++ b) ++ m) (c ++ t) (p + n) (omega (arith, length-append (a ++ b) m, length-append a b)) in
    rw (prefix, back) (simp append_assoc)

-- the same with a mask
masked : (r n c w v : ℕ) → r + n + c ≡ 64 → 0 < n → n < 64 → w < 2 ^ 64 → v < 2 ^ n
    → bit_or (bit_and w (2 ^ 64 - 1 - (1 * 2 ^ n % 2 ^ 64 - 1) * 2 ^ c % 2 ^ 64)) (v * 2 ^ c % 2 ^ 64) ≡ (w / 2 ^ (n + c) * 2 ^ n + v) * 2 ^ c + w % 2 ^ c
masked r n c w v sum pos hn hw hv =
    let h : ℕ = w / 2 ^ (n + c) in
    let l : ℕ = w % 2 ^ c in
    let m : ℕ = (2 ^ n - 1) * 2 ^ c in
    let one : 1 * 2 ^ n % 2 ^ 64 ≡ 2 ^ n = one_shl n 64 hn in
    let top : 2 ^ n - 1 < 2 ^ n = omega (arith, pow_pos n) in
    let a : (2 ^ n - 1) * 2 ^ c % 2 ^ 64 ≡ m = shl_whole (2 ^ n - 1) n c 64 top (omega arith) in
    let b : v * 2 ^ c % 2 ^ 64 ≡ v * 2 ^ c = shl_whole v n c 64 hv (omega arith) in
    let less : (2 ^ n - 1) * 2 ^ c < 2 ^ 64 = let e : n + c ≤ 64 = omega arith in omega (arith, shl_below (2 ^ n - 1) n c top, pow-le-pow_right {n = 2} (let t : 0 < 2 = omega arith in t) {i = n + c} {j = 64} e) in
    let q : w / 2 ^ c / 2 ^ n ≡ h = shr-shr w c n ∙ ap (λ i. w / 2 ^ i) (add_comm c n) in
    let s : ℕ = w / 2 ^ c % 2 ^ n in
    let zero_and : bit_and 0 l ≡ 0 = omega (arith, and_le_l 0 l) in
    let field : bit_and m w ≡ s * 2 ^ c =
    ap₂ bit_and (let e : m ≡ m + 0 = omega arith in e) (sym (shr_split w c))
    ∙ and_block c (2 ^ n - 1) (w / 2 ^ c) 0 l (pow_pos c) (mod-lt w (pow_pos c))
    ∙ ap₂ (λ x y. x * 2 ^ c + y) (and_comm (2 ^ n - 1) (w / 2 ^ c) ∙ and_mask (w / 2 ^ c) n) zero_and
    ∙ (let e : s * 2 ^ c + 0 ≡ s * 2 ^ c = omega arith in e) in
    let cleared : bit_and w (2 ^ 64 - 1 - m) ≡ h * 2 ^ n * 2 ^ c + l =
    and_comm w (2 ^ 64 - 1 - m)
    ∙ omega (arith, and-not 64 m w less hw, field, shr_split w c, ap (λ x. x * 2 ^ c) (shr_split (w / 2 ^ c) n), ap (λ x. x * 2 ^ n * 2 ^ c) q) in
    let zero_or : bit_or l 0 ≡ l = or_disjoint l 0 (omega (arith, and_le_r l 0)) ∙ (let e : l + 0 ≡ l = omega arith in e) in
    rw (one, a, b, cleared, (let e : v * 2 ^ c ≡ v * 2 ^ c + 0 = omega arith in e))
    (or_block c (h * 2 ^ n) v l 0 (mod-lt w (pow_pos c)) (pow_pos c) ∙ ap₂ (λ x y. x * 2 ^ c + y) (or_shifted h n v hv) zero_or)

pub put_field_is : (p n first last w v all : ℕ) (xs ys : List ℕ) → v < 2 ^ n → 8 * first ≤ p → p + n ≤ 8 * last → first ≤ last → last ≤ length xs
    → bits (take (last - first) (drop first xs)) ≡ bin (8 * length (take (last - first) (drop first xs))) w
    → all ≡ (w / 2 ^ (n + (8 * last - (p + n))) * 2 ^ n + v) * 2 ^ (8 * last - (p + n)) + w % 2 ^ (8 * last - (p + n))
    → bits ys ≡ bin (8 * length (take (last - first) (drop first xs))) all
    → bits (put_mid first (last - first) xs ys) ≡ take p (bits xs) ++ bin n v ++ drop (p + n) (bits xs)
put_field_is p n first last w v all xs ys hv low end order inside spelled is written =
    let r : ℕ = p - 8 * first in
    let c : ℕ = 8 * last - (p + n) in
    let k : ℕ = last - first in
    let len : length (take k (drop first xs)) ≡ k =
    length-take-le k (drop first xs) (omega (arith, length-drop first xs)) in
    let m : 8 * length (take k (drop first xs)) ≡ r + n + c = omega arith in
    let after : bits ys ≡ bin r (w / 2 ^ (n + c)) ++ (bin n v ++ bin c w) =
    written ∙ ap₂ bin m is ∙ bin_replace r n c w v hv in
    let before : bits (take k (drop first xs)) ≡ bin r (w / 2 ^ (n + c)) ++ (bin n (w / 2 ^ c) ++ bin c w) =
    spelled ∙ ap (λ j. bin j w) m ∙ bin_parts r n c w in
    let prefix : length (bits (take first xs)) ≡ 8 * first = length-bits (take first xs) ∙ ap (λ j. 8 * j) (length-take-le first xs (omega arith)) in
    let whole : bits xs ≡ bits (take first xs) ++ ((bin r (w / 2 ^ (n + c)) ++ (bin n (w / 2 ^ c) ++ bin c w)) ++ bits (drop k (drop first xs))) =
    ap bits (sym (take-append-drop first xs)) ∙ bits-append (take first xs) (drop first xs)
    ∙ ap (λ b. bits (take first xs) ++ b) (ap bits (sym (take-append-drop k (drop first xs))) ∙ bits-append (take k (drop first xs)) (drop k (drop first xs))
    ∙ ap (λ b. b ++ bits (drop k (drop first xs))) before) in
    let new : bits (put_mid first k xs ys) ≡ bits (take first xs) ++ ((bin r (w / 2 ^ (n + c)) ++ (bin n v ++ bin c w)) ++ bits (drop k (drop first xs))) =
    bits-append (take first xs) (ys ++ drop k (drop first xs))
    ∙ ap (λ b. bits (take first xs) ++ b) (bits-append ys (drop k (drop first xs)) ∙ ap (λ b. b ++ bits (drop k (drop first xs))) after) in
    new ∙ splice (bits (take first xs)) (bin r (w / 2 ^ (n + c))) (bin n (w / 2 ^ c)) (bin n v) (bin c w) (bits (drop k (drop first xs))) p n
    (omega (arith, prefix, length-bin r (w / 2 ^ (n + c)))) (length-bin n (w / 2 ^ c))
    ∙ ap (λ b. take p b ++ bin n v ++ drop (p + n) b) (sym whole)

-- ---- eight bytes at once

high_first_is_be : (n v : ℕ) → bytes_high_first n v ≡ be n v
unfolding digits
high_first_is_be zero v = refl
high_first_is_be (suc zero) v = ap (λ x. x % 256 ∷ []) (sym (div-one v))
high_first_is_be (suc (suc n)) v = ap (λ bs. v / 256 ^ suc n % 256 ∷ bs) (high_first_is_be (suc n) v)

pub eight_bytes : (xs : List ℕ) (v : ℕ) → length xs ≡ 8 → ((i : ℕ) → get_or xs i 0 < 256) → v ≡ from_be_bytes w64 xs → bits xs ≡ bin (8 * length xs) v
eight_bytes xs v len fits is =
    rw len (ap bits (sym (be_bytes_8 xs v len fits is) ∙ high_first_is_be 8 v) ∙ bits-be 8 v)

pub nothing_put : (p n v : ℕ) (bs : List ℕ) → n ≡ 0 → bs ≡ take p bs ++ bin n v ++ drop (p + n) bs
nothing_put p n v bs e = rw (e, add-zero, bin-zero v, append-nil) (sym (take-append-drop p bs))

-- eight bytes whose number is masked
pub put_masked : (p n w v : ℕ) (xs ys : List ℕ) → 0 < n → n ≤ 57 → v < 2 ^ n → w < 2 ^ 64 → p / 8 + 8 ≤ length xs
    → bits (take (p / 8 + 8 - p / 8) (drop (p / 8) xs)) ≡ bin (8 * length (take (p / 8 + 8 - p / 8) (drop (p / 8) xs))) w
    → bits ys ≡ bin (8 * length (take (p / 8 + 8 - p / 8) (drop (p / 8) xs)))
    (bit_or (bit_and w (2 ^ 64 - 1 - (1 * 2 ^ n % 2 ^ 64 - 1) * 2 ^ (64 - p % 8 - n) % 2 ^ 64)) (v * 2 ^ (64 - p % 8 - n) % 2 ^ 64))
    → bits (put_mid (p / 8) (p / 8 + 8 - p / 8) xs ys) ≡ take p (bits xs) ++ bin n v ++ drop (p + n) (bits xs)
put_masked p n w v xs ys pos few hv hw inside spelled written =
    let c : ℕ = 64 - p % 8 - n in
    let all : ℕ = bit_or (bit_and w (2 ^ 64 - 1 - (1 * 2 ^ n % 2 ^ 64 - 1) * 2 ^ c % 2 ^ 64)) (v * 2 ^ c % 2 ^ 64) in
    let after : 8 * (p / 8 + 8) - (p + n) ≡ c = omega arith in
    let word : all ≡ (w / 2 ^ (n + c) * 2 ^ n + v) * 2 ^ c + w % 2 ^ c = masked (p % 8) n c w v (omega arith) pos (omega arith) hw hv in
    put_field_is p n (p / 8) (p / 8 + 8) w v all xs ys hv (omega arith) (omega arith) (omega arith) inside spelled
    (rw after word) written
