-- Laws of bin, bits and be.
use Rattle.std.proofs.Common.{◌≡◌, ℕ, zero, suc, ◌+◌, ◌-◌, ◌*◌, ◌/◌, ◌%◌, ◌^◌, ◌<◌, ◌≤◌, List, [], ◌∷◌, ◌++◌, length, replicate, take, drop, get_or, refl, sym, ap, ap₂, ◌∙◌, ⊎_elim, arith, append_assoc, length-append, zero-add, add_comm}
use Rattle.std.proofs.Math.Nat.{div-eq_of_lt, suc-add, mod-lt, div-lt_iff_lt-mul, pow-suc, mul_comm}
use Rattle.std.proofs.lemmas.Nat.{le-div, pow-add, shr_high, shr-shr, pow_pos, shr_split}
use Rattle.std.proofs.lemmas.Nat.Bits.{bit_at_cat_low}
use Rattle.std.proofs.lemmas.List.{length-replicate, get_or-replicate, length-take-le, take-append-drop, take_at, drop_at, drop-drop, drop_all}
use Rattle.std.proofs.lemmas.Grind.{flat_map-append}
use Rattle.std.proofs.lemmas.Bool.{cases_lt}
use Rattle.std.specs.Prelude.{Contains}
use Rattle.apv_base.specs.model.Bits.{digits, bin, bits, be}

pub length-bin : (n v : ℕ) → length (bin n v) ≡ n
unfolding digits
length-bin zero v = refl
length-bin (suc n) v = ap suc (length-bin n v)

pub bin-suc : (n v : ℕ) → bin (suc n) v ≡ v / 2 ^ n % 2 ∷ bin n v
unfolding digits
bin-suc n v = refl

pub bin-zero : (v : ℕ) → bin 0 v ≡ []
unfolding digits
bin-zero v = refl

-- a field of n bits and one of m bits after it
pub bin-add : (n m v : ℕ) → bin (n + m) v ≡ bin n (v / 2 ^ m) ++ bin m v
unfolding digits
bin-add zero m v = rw zero-add refl
bin-add (suc n) m v = rw (suc-add, bin-suc, shr-shr v m n, add_comm m n, bin-add n m v) refl

pub bin_low : (n m a b : ℕ) → n ≤ m → bin n (a * 2 ^ m + b) ≡ bin n b
unfolding digits
bin_low zero m a b h = refl
bin_low (suc n) m a b h = let k : n ≤ m = omega arith in rw (bit_at_cat_low a m b n h, bin_low n m a b k) refl

-- only the low n bits of v count
pub bin_mod : (n m v : ℕ) → n ≤ m → bin n (v % 2 ^ m) ≡ bin n v
bin_mod n m v h = sym (bin_low n m (v / 2 ^ m) (v % 2 ^ m) h) ∙ ap (bin n) (shr_split v m)

-- a number below 2 ^ n is read from its n bits
top_bit : (n v : ℕ) → v < 2 ^ suc n → v / 2 ^ n < 2
top_bit n v h = (div-lt_iff_lt-mul (pow_pos n)).1 (rw (mul_comm 2 (2 ^ n), ← pow-suc 2 n) h)

pub bin_same : (n v w : ℕ) → v < 2 ^ n → w < 2 ^ n → bin n v ≡ bin n w → v ≡ w
unfolding digits
bin_same zero v w hv hw e = omega arith
bin_same (suc n) v w hv hw e =
    let heads : v / 2 ^ n % 2 ≡ w / 2 ^ n % 2 = cc in
    let tails : bin n v ≡ bin n w = cc in
    let tv : v / 2 ^ n < 2 = top_bit n v hv in
    let tw : w / 2 ^ n < 2 = top_bit n w hw in
    let tops : v / 2 ^ n ≡ w / 2 ^ n = omega arith in
    let lows : v % 2 ^ n ≡ w % 2 ^ n =
    bin_same n (v % 2 ^ n) (w % 2 ^ n) (mod-lt v (pow_pos n)) (mod-lt w (pow_pos n))
    (bin_mod n n v (omega arith) ∙ tails ∙ sym (bin_mod n n w (omega arith))) in
    sym (shr_split v n) ∙ ap₂ (λ a b. a * 2 ^ n + b) tops lows ∙ shr_split w n

-- two codes of one length that begin one list are equal
pub same_prefixes : (n v w : ℕ) (x y : List ℕ) → v < 2 ^ n → w < 2 ^ n → bin n v ++ x ≡ bin n w ++ y → (v ≡ w) × (x ≡ y)
same_prefixes n v w x y hv hw e =
    let lv : length (bin n v) ≡ n = length-bin n v in
    let lw : length (bin n w) ≡ n = length-bin n w in (
      bin_same n v w hv hw (sym (take_at (bin n v) x n lv) ∙ ap (take n) e ∙ take_at (bin n w) y n lw),
      sym (drop_at (bin n v) x n lv) ∙ ap (drop n) e ∙ drop_at (bin n w) y n lw,
    )

-- ---- bytes

pub bits-append : (xs ys : List ℕ) → bits (xs ++ ys) ≡ bits xs ++ bits ys
bits-append xs ys = flat_map-append (bin 8) xs ys

pub length-bits : (xs : List ℕ) → length (bits xs) ≡ 8 * length xs
length-bits [] = refl
length-bits (x ∷ xs) = omega (arith, length-append (bin 8 x) (bits xs), length-bin 8 x, length-bits xs)

pub bits-drop : (n : ℕ) (xs : List ℕ) → drop (8 * n) (bits xs) ≡ bits (drop n xs)
bits-drop zero xs = refl
bits-drop (suc n) [] = drop_all (8 * suc n) [] (omega arith)
bits-drop (suc n) (x ∷ xs) =
    let e : 8 * suc n ≡ 8 + 8 * n = omega arith in
    rw (e, ← drop-drop (8 * n) 8 (bin 8 x ++ bits xs), drop_at (bin 8 x) (bits xs) 8 (length-bin 8 x)) (bits-drop n xs)

pub bits-take : (n : ℕ) (xs : List ℕ) → n ≤ length xs → take (8 * n) (bits xs) ≡ bits (take n xs)
bits-take n xs h =
    let l : length (bits (take n xs)) ≡ 8 * n = length-bits (take n xs) ∙ ap (λ m. 8 * m) (length-take-le n xs h) in
    ap (λ ys. take (8 * n) (bits ys)) (sym (take-append-drop n xs)) ∙ ap (take (8 * n)) (bits-append (take n xs) (drop n xs))
    ∙ take_at (bits (take n xs)) (bits (drop n xs)) (8 * n) l

-- bytes are read from their bits
pub bits_same : (xs ys : List ℕ) → ((i : ℕ) → get_or xs i 0 < 256) → ((i : ℕ) → get_or ys i 0 < 256) → bits xs ≡ bits ys → xs ≡ ys
bits_same [] [] hx hy e = refl
bits_same [] (y ∷ ys) hx hy e = absurd (omega (arith, ap length e, length-bits (y ∷ ys)))
bits_same (x ∷ xs) [] hx hy e = absurd (omega (arith, ap length e, length-bits (x ∷ xs)))
bits_same (x ∷ xs) (y ∷ ys) hx hy e =
    let both : (x ≡ y) × (bits xs ≡ bits ys) = same_prefixes 8 x y (bits xs) (bits ys) (hx 0) (hy 0) e in
    ap₂ (λ a b. a ∷ b) both.0 (bits_same xs ys (λ i. hx (suc i)) (λ i. hy (suc i)) both.1)

pub length-be : (n v : ℕ) → length (be n v) ≡ n
unfolding digits
length-be zero v = refl
length-be (suc n) v = ap suc (length-be n v)

pow_bytes : (n : ℕ) → 256 ^ n ≡ 2 ^ (8 * n)
pow_bytes zero = refl
pow_bytes (suc n) =
    let e : 8 * suc n ≡ 8 + 8 * n = omega arith in
    rw (e, pow-add 2 8 (8 * n), ← pow_bytes n, pow-suc 256 n, mul_comm (256 ^ n) 256) refl

pub be-suc : (n v : ℕ) → be (suc n) v ≡ v / 256 ^ n % 256 ∷ be n v
unfolding digits
be-suc n v = refl

pub be-zero : (v : ℕ) → be 0 v ≡ []
unfolding digits
be-zero v = refl

pub bits-be : (n v : ℕ) → bits (be n v) ≡ bin (8 * n) v
bits-be zero v = rw (be-zero v, bin-zero v) refl
bits-be (suc n) v =
    let e : 8 * suc n ≡ 8 + 8 * n = omega arith in
    let p : 256 ^ n ≡ 2 ^ (8 * n) = pow_bytes n in
    rw (be-suc n v, e, bin-add 8 (8 * n) v, ← bits-be n v, ← bin_mod 8 8 (v / 2 ^ (8 * n)) (omega arith), p) refl

-- ---- parts

-- a number with m bits put after its own
pub bin_push : (n m a b : ℕ) → b < 2 ^ m → bin (n + m) (a * 2 ^ m + b) ≡ bin n a ++ bin m b
bin_push n m a b h = rw (bin-add n m (a * 2 ^ m + b), shr_high a m b h, bin_low m m a b (omega arith)) refl

-- the n bits between r bits before and c bits after
pub bin_middle : (r n c w : ℕ) (rest : List ℕ) → take n (drop r (bin (r + n + c) w ++ rest)) ≡ bin n (w / 2 ^ c % 2 ^ n)
bin_middle r n c w rest =
    let e : bin (r + n + c) w ++ rest ≡ bin r (w / 2 ^ c / 2 ^ n) ++ (bin n (w / 2 ^ c) ++ (bin c w ++ rest)) =
    ap (λ b. b ++ rest) (bin-add (r + n) c w ∙ ap (λ b. b ++ bin c w) (bin-add r n (w / 2 ^ c)))
    ∙ append_assoc (bin r (w / 2 ^ c / 2 ^ n) ++ bin n (w / 2 ^ c)) (bin c w) rest
    ∙ append_assoc (bin r (w / 2 ^ c / 2 ^ n)) (bin n (w / 2 ^ c)) (bin c w ++ rest) in
    rw (
      e,
      drop_at (bin r (w / 2 ^ c / 2 ^ n)) (bin n (w / 2 ^ c) ++ (bin c w ++ rest)) r (length-bin r (w / 2 ^ c / 2 ^ n)),
      take_at (bin n (w / 2 ^ c)) (bin c w ++ rest) n (length-bin n (w / 2 ^ c)),
      bin_mod n n (w / 2 ^ c) (omega arith),
    ) refl

-- what is after a part
pub part_rest : (p n : ℕ) (bs word : List ℕ) → take n (drop p bs) ≡ word → drop p bs ≡ word ++ drop (p + n) bs
part_rest p n bs word e = rw (← e, ← drop-drop n p bs, take-append-drop n (drop p bs)) refl

-- the bits of a slice of bytes, and the bits from its start on
pub bits_from : (first last : ℕ) (xs : List ℕ) → first ≤ last
    → drop (8 * first) (bits xs) ≡ bits (take (last - first) (drop first xs)) ++ bits (drop last xs)
bits_from first last xs h =
    let e : drop last xs ≡ drop (last - first) (drop first xs) = let m : first + (last - first) ≡ last = omega arith in rw (drop-drop (last - first) first xs, m) refl in
    rw (e, ← bits-append (take (last - first) (drop first xs)) (drop (last - first) (drop first xs)), take-append-drop (last - first) (drop first xs)) (bits-drop first xs)

-- ---- zeros

zero-div_pow : (n : ℕ) → 0 / 2 ^ n ≡ 0
zero-div_pow n = div-eq_of_lt (pow_pos n)

pub bin-zeros : (n : ℕ) → bin n 0 ≡ replicate n 0
unfolding digits
bin-zeros zero = refl
bin-zeros (suc n) = rw (zero-div_pow n, bin-zeros n) refl

-- a number that isn't 0 has a 1 among its bits
pub bin_has_one : (n v : ℕ) → 0 < v → v < 2 ^ n → Contains (bin n v) 1
unfolding digits
bin_has_one zero v p h = absurd (omega arith)
bin_has_one (suc n) v p h =
    ⊎_elim
    (λ (lt : v < 2 ^ n). let deep : Contains (bin n v) 1 = bin_has_one n v p lt in (suc deep.0, omega (arith, deep.1), deep.2))
    (λ (ge : 2 ^ n ≤ v).
    let top : v / 2 ^ n < 2 = top_bit n v h in
    let pos : 1 ≤ v / 2 ^ n = le-div 1 v (2 ^ n) (pow_pos n) (omega arith) in
    let e : v / 2 ^ n % 2 ≡ 1 = omega arith in
    (0, omega arith, e))
    (cases_lt v (2 ^ n))

pub zeros_have_no_one : (n : ℕ) → Contains {X = ℕ} (replicate n 0) 1 → ⊥
zeros_have_no_one n (k, lt, e) =
    let within : k < n = omega (arith, length-replicate {A = ℕ} n 0) in
    omega (arith, get_or-replicate {A = ℕ} n k 0 1 within, e)

-- the n bits between r bits before and c bits after are replaced by those of v
pub bin_replace : (r n c w v : ℕ) → v < 2 ^ n
    → bin (r + n + c) ((w / 2 ^ (n + c) * 2 ^ n + v) * 2 ^ c + w % 2 ^ c) ≡ bin r (w / 2 ^ (n + c)) ++ (bin n v ++ bin c w)
bin_replace r n c w v h =
    let low : w % 2 ^ c < 2 ^ c = mod-lt w (pow_pos c) in
    rw (bin_push (r + n) c (w / 2 ^ (n + c) * 2 ^ n + v) (w % 2 ^ c) low, bin_push r n (w / 2 ^ (n + c)) v h, bin_mod c c w (omega arith))
    (append_assoc (bin r (w / 2 ^ (n + c))) (bin n v) (bin c w))

-- a number in parts
pub bin_parts : (r n c w : ℕ) → bin (r + n + c) w ≡ bin r (w / 2 ^ (n + c)) ++ (bin n (w / 2 ^ c) ++ bin c w)
bin_parts r n c w =
    let p : w / 2 ^ c / 2 ^ n ≡ w / 2 ^ (n + c) = rw (shr-shr w c n, add_comm c n) refl in
    rw (bin-add (r + n) c w, bin-add r n (w / 2 ^ c), p) (append_assoc (bin r (w / 2 ^ (n + c))) (bin n (w / 2 ^ c)) (bin c w))
