-- The bits of a window: the start of the bits of a number of 64.
use Rattle.std.proofs.Common.{◌≡◌, ℕ, ◌+◌, ◌-◌, ◌*◌, ◌/◌, ◌%◌, ◌^◌, ◌<◌, ◌≤◌, ◌++◌, length, take, drop, List, sym, ap, ◌∙◌, arith}
use Rattle.std.proofs.Math.Nat.{pow-le-pow_right}
use Rattle.std.proofs.lemmas.Nat.{shr-shr, shr_below, pow_pos}
use Rattle.std.proofs.lemmas.List.{length-take-le, length-drop, length-append, take_at, drop_at, take-take, take-append-le, drop-append-le, drop-take, drop-drop}
use Rattle.apv_base.specs.model.Bits.{bin, bits}
use Rattle.apv_bits.specs.Reader.{IsWindow}
use Rattle.apv_base.proofs.BitsLemmas.{length-bin, bin-add, bin_mod, bin_push, bits_from, bits-drop}

pub length-prefix : (n b : ℕ) → n ≤ 57 → length (take n (bin 64 b)) ≡ n
length-prefix n b h = length-take-le n (bin 64 b) (omega (arith, length-bin 64 b))

-- the bits of a number that is shifted to the left
shifted : (b n : ℕ) → n ≤ 64 → bin 64 (b * 2 ^ n % 2 ^ 64) ≡ drop n (bin 64 b) ++ bin n 0
shifted b n h =
    let m : 64 - n + n ≡ 64 = omega arith in
    let k : n + (64 - n) ≡ 64 = omega arith in
    let e : b * 2 ^ n ≡ b * 2 ^ n + 0 = omega arith in
    let low : drop n (bin 64 b) ≡ bin (64 - n) b =
    ap (λ j. drop n (bin j b)) (sym k) ∙ ap (drop n) (bin-add n (64 - n) b) ∙ drop_at (bin n (b / 2 ^ (64 - n))) (bin (64 - n) b) n (length-bin n (b / 2 ^ (64 - n))) in
    bin_mod 64 64 (b * 2 ^ n) (omega arith) ∙ ap (bin 64) e ∙ ap (λ j. bin j (b * 2 ^ n + 0)) (sym m) ∙ bin_push (64 - n) n b 0 (pow_pos n)
    ∙ ap (λ x. x ++ bin n 0) (sym low)

pub skipped : (left n b : ℕ) → n ≤ left → left ≤ 57 → take (left - n) (bin 64 (b * 2 ^ n % 2 ^ 64)) ≡ drop n (take left (bin 64 b))
skipped left n b h few =
    let m : n + (left - n) ≡ left = omega arith in
    let long : left - n ≤ length (drop n (bin 64 b)) = omega (arith, length-drop n (bin 64 b), length-bin 64 b) in
    ap (take (left - n)) (shifted b n (omega arith)) ∙ take-append-le (left - n) (drop n (bin 64 b)) (bin n 0) long
    ∙ sym (drop-take n (left - n) (bin 64 b)) ∙ ap (λ j. drop n (take j (bin 64 b))) m

-- the first n bits as a number
pub top_bits : (left n b : ℕ) → n ≤ left → left ≤ 57 → take n (take left (bin 64 b)) ≡ bin n (b / 2 / 2 ^ (63 - n))
top_bits left n b h few =
    let k : n + (64 - n) ≡ 64 = omega arith in
    let j : 1 + (63 - n) ≡ 64 - n = omega arith in
    let e : b / 2 / 2 ^ (63 - n) ≡ b / 2 ^ (64 - n) = shr-shr b 1 (63 - n) ∙ ap (λ i. b / 2 ^ i) j in
    take-take n left (bin 64 b) h ∙ ap (λ i. take n (bin i b)) (sym k) ∙ ap (take n) (bin-add n (64 - n) b)
    ∙ take_at (bin n (b / 2 ^ (64 - n))) (bin (64 - n) b) n (length-bin n (b / 2 ^ (64 - n))) ∙ ap (bin n) (sym e)

pub top_below : (n b : ℕ) → n ≤ 57 → b < 2 ^ 64 → b / 2 / 2 ^ (63 - n) < 2 ^ n
top_below n b h fits =
    let j : 1 + (63 - n) ≡ 64 - n = omega arith in
    let k : n + (64 - n) ≡ 64 = omega arith in
    let e : b / 2 / 2 ^ (63 - n) ≡ b / 2 ^ (64 - n) = shr-shr b 1 (63 - n) ∙ ap (λ i. b / 2 ^ i) j in
    rw e (shr_below b n (64 - n) (rw k fits))

-- the bits from a place on, taken from the number of eight bytes
window_is : (xs : List ℕ) (place w : ℕ) → drop (8 * (place / 8)) (bits xs) ≡ bin 64 w ++ drop (8 * (place / 8) + 64) (bits xs)
    → take 57 (bin 64 (w * 2 ^ (place % 8) % 2 ^ 64)) ≡ take 57 (drop place (bits xs))
window_is xs place w prefix =
    let r : ℕ = place % 8 in
    let rest : List ℕ = drop (8 * (place / 8) + 64) (bits xs) in
    let at : 8 * (place / 8) + r ≡ place = omega arith in
    let long : 57 ≤ length (drop r (bin 64 w)) = omega (arith, length-drop r (bin 64 w), length-bin 64 w) in
    let here : drop place (bits xs) ≡ drop r (bin 64 w) ++ rest =
    ap (λ q. drop q (bits xs)) (sym at) ∙ sym (drop-drop r (8 * (place / 8)) (bits xs)) ∙ ap (drop r) prefix
    ∙ drop-append-le r (bin 64 w) rest (omega (arith, length-bin 64 w)) in
    ap (take 57) (shifted w r (omega arith)) ∙ take-append-le 57 (drop r (bin 64 w)) (bin r 0) long
    ∙ sym (ap (take 57) here ∙ take-append-le 57 (drop r (bin 64 w)) rest long)

pub shows : (xs : List ℕ) (place w : ℕ) → drop (8 * (place / 8)) (bits xs) ≡ bin 64 w ++ drop (8 * (place / 8) + 64) (bits xs)
    → IsWindow (take 57 (bin 64 (w * 2 ^ (place % 8) % 2 ^ 64))) (drop place (bits xs))
shows xs place w prefix =
    let r : ℕ = place % 8 in
    let at : 8 * (place / 8) + r ≡ place = omega arith in
    let long : 57 ≤ length (drop place (bits xs)) =
    omega (arith, length-drop place (bits xs), ap length prefix, length-drop (8 * (place / 8)) (bits xs), length-append (bin 64 w) (drop (8 * (place / 8) + 64) (bits xs)), length-bin 64 w) in
    record { prefix = window_is xs place w prefix; len = length-prefix 57 (w * 2 ^ r % 2 ^ 64) (omega arith); enough = long }

-- what a window began with and was passed is the start of the bits left
pub seen_prefix : (n : ℕ) (left window rest seen : List ℕ) → IsWindow window left → window ≡ seen ++ rest → n + length rest ≡ 57 → take n left ≡ seen
seen_prefix n left window rest seen is split few =
    let long : length seen ≡ n = omega (arith, is.len, ap length split, length-append seen rest) in
    sym (take-take n 57 left (omega arith)) ∙ ap (take n) (sym is.prefix ∙ split) ∙ take_at seen rest n long

-- the number of eight bytes from one on
pub loaded : (xs : List ℕ) (first w : ℕ) → first + 8 ≤ length xs
    → bits (take 8 (drop first xs)) ≡ bin (8 * length (take 8 (drop first xs))) w
    → drop (8 * first) (bits xs) ≡ bin 64 w ++ drop (8 * first + 64) (bits xs)
loaded xs first w h spelled =
    let len : length (take 8 (drop first xs)) ≡ 8 = length-take-le 8 (drop first xs) (omega (arith, length-drop first xs)) in
    let m : first + 8 - first ≡ 8 = omega arith in
    let e : 8 * (first + 8) ≡ 8 * first + 64 = omega arith in
    let word : bits (take 8 (drop first xs)) ≡ bin 64 w = spelled ∙ ap (λ n. bin (8 * n) w) len in
    bits_from first (first + 8) xs (omega arith) ∙ ap (λ n. bits (take n (drop first xs)) ++ bits (drop (first + 8) xs)) m
    ∙ ap (λ b. b ++ bits (drop (first + 8) xs)) word
    ∙ ap (λ b. bin 64 w ++ b) (sym (bits-drop (first + 8) xs) ∙ ap (λ n. drop n (bits xs)) e)

pub pow_32 : (n : ℕ) → n ≤ 32 → 2 ^ n ≤ 2 ^ 32
pow_32 n h = pow-le-pow_right {n = 2} (omega arith) {i = n} {j = 32} h
