-- Reading the parts of a code word.
use Rattle.std.proofs.Common.{◌≡◌, ℕ, zero, suc, ◌≢◌, ◌+◌, ◌-◌, ◌*◌, ◌/◌, ◌%◌, ◌^◌, ◌<◌, ◌≤◌, ◌++◌, length, replicate, List, [], ◌∷◌, refl, sym, ap, ◌∙◌, arith}
use Rattle.std.proofs.Math.Nat.{pow-le-pow_right}
use Rattle.std.proofs.lemmas.Nat.{one_shl, pow_pos, shl_whole, shl_below, shr_below, shr_high, shr_split}
use Rattle.std.proofs.lemmas.List.{append_cancel_left, append_assoc, append-nil, length-append, nil_from_length}
use Rattle.apv_base.specs.model.Bits.{digits, bin}
use Rattle.apv_base.specs.model.CodeWord.{code_word, long_word_base, EndsInside, HasNone}
use Rattle.apv_base.proofs.CodeWordLemmas.{Form, first, second, further, form, word_first, word_second, word_further, second_word}
use Rattle.apv_base.proofs.BitsLemmas.{bin-add, same_prefixes, length-bin}
use Rattle.apv_hv.specs.declared.reading.Read.{Read}
use Rattle.apv_hv.specs.declared.reading.Read.TheVariants.{Value, Ends, Over}
use Rattle.apv_bits.specs.Reader.{Unread, Takes}
use Rattle.apv_bits.proofs.ReaderLemmas.{takes_both}
use Rattle.apv_hv.specs.Reading.{Code, ReadsCode, ReadsWord, Numbers, LongWords, Words}

-- ---- a number of n bits

-- the number read is too large, and no other is there
pub number_over : (n low limit r : ℕ) (b rest : List ℕ) → r < 2 ^ n → b ≡ bin n r ++ rest → limit < low + r
    → (v : ℕ) (w x y : List ℕ) → v ≤ limit → Numbers n low v w → b ++ x ≡ w ++ y → ⊥
number_over n low limit r b rest small e above v w x y le (s, lt, is, word) same =
    let e' : bin n r ++ (rest ++ x) ≡ bin n s ++ y =
    sym (append_assoc (bin n r) rest x) ∙ ap (λ c. c ++ x) (sym e) ∙ same ∙ ap (λ c. c ++ y) word in
    let both : (r ≡ s) × (rest ++ x ≡ y) = same_prefixes n r s (rest ++ x) y small lt e' in
    omega arith

-- all bits that are left were read
pub all_read : (m p : ℕ) (old mid new : Unread) → mid ≡ old → Takes mid new (bin m p) → m ≡ length mid.left → old.left ≡ bin m p
all_read m p old mid new e t len =
    let none : length new.left ≡ 0 = omega (arith, ap length t.prefix, length-append (bin m p) new.left, length-bin m p) in
    ap (λ u. u.left) (sym e) ∙ t.prefix ∙ ap (λ c. bin m p ++ c) (nil_from_length new.left none) ∙ append-nil (bin m p)

-- the n bits of a number whose low m bits are those of p
pub split_bits : (n m r : ℕ) → m ≤ n → bin n r ≡ bin m (r / 2 ^ (n - m)) ++ bin (n - m) r
split_bits n m r h = let e : n ≡ m + (n - m) = omega arith in ap (λ k. bin k r) e ∙ bin-add m (n - m) r

pub number_ends : (n m low limit p : ℕ) (b : List ℕ) → m < n → p < 2 ^ m → b ≡ bin m p → low + p * 2 ^ (n - m) ≤ limit
    → (v : ℕ) × (v ≤ limit) × (w rest : List ℕ) × Numbers n low v w × (0 < length rest) × (w ≡ b ++ rest)
number_ends n m low limit p b more small e below =
    let r : ℕ = p * 2 ^ (n - m) in
    let lt : r < 2 ^ (m + (n - m)) = shl_below p m (n - m) small in
    let k : m + (n - m) ≡ n = omega arith in
    let lt' : r < 2 ^ n = rw k at lt in
    let q : (r + 0) / 2 ^ (n - m) ≡ p = shr_high p (n - m) 0 (pow_pos (n - m)) in
    let q' : r / 2 ^ (n - m) ≡ p = ap (λ j. j / 2 ^ (n - m)) (let z : r ≡ r + 0 = omega arith in z) ∙ q in (
      low + r,
      below,
      bin n r,
      bin (n - m) r,
      (r, lt', refl, refl),
      omega (arith, length-bin (n - m) r),
      split_bits n m r (omega arith) ∙ ap (λ j. bin m j ++ bin (n - m) r) q' ∙ ap (λ c. c ++ bin (n - m) r) (sym e),
    )

pub number_ends_over : (n m low limit p : ℕ) (b : List ℕ) → m < n → p < 2 ^ m → b ≡ bin m p → limit < low + p * 2 ^ (n - m)
    → (v : ℕ) (w x y : List ℕ) → v ≤ limit → Numbers n low v w → b ++ x ≡ w ++ y → ⊥
number_ends_over n m low limit p b more small e above v w x y le (s, lt, is, word) same =
    let k : m + (n - m) ≡ n = omega arith in
    let top : s / 2 ^ (n - m) < 2 ^ m = shr_below s m (n - m) (rw k lt) in
    let e' : bin m p ++ x ≡ bin m (s / 2 ^ (n - m)) ++ (bin (n - m) s ++ y) =
    ap (λ c. c ++ x) (sym e) ∙ same ∙ ap (λ c. c ++ y) (word ∙ split_bits n m s (omega arith)) ∙ append_assoc (bin m (s / 2 ^ (n - m))) (bin (n - m) s) y in
    let both : (p ≡ s / 2 ^ (n - m)) × (x ≡ bin (n - m) s ++ y) = same_prefixes m p (s / 2 ^ (n - m)) x (bin (n - m) s ++ y) small top e' in
    let part : s / 2 ^ (n - m) * 2 ^ (n - m) ≤ s = omega (arith, shr_split s (n - m)) in
    let part' : p * 2 ^ (n - m) ≤ s = rw both.0 part in
    omega arith

-- the shift loses no bit
pub shifted : (n m p : ℕ) → n ≤ 24 → m < n → p < 2 ^ m → (p * 2 ^ (n - m) % 2 ^ 32 ≡ p * 2 ^ (n - m)) × (p * 2 ^ (n - m) < 2 ^ 24)
shifted n m p hn hm hp =
    let k : m + (n - m) ≡ n = omega arith in
    let lt : p * 2 ^ (n - m) < 2 ^ n = rw k at (shl_below p m (n - m) hp) in
    let top : 2 ^ n ≤ 2 ^ 24 = pow-le-pow_right {n = 2} (omega arith) {i = n} {j = 24} hn in
    (shl_whole p m (n - m) 32 hp (omega arith), omega arith)

-- ---- a part of a code after bits that were read

-- to and from: the words of C that go with the prefix are the prefix and then the words of D
pub lift : (C D : Code) (limit : ℕ) (prefix : List ℕ) (old mid : Unread) → Takes old mid prefix
    → ((v : ℕ) (w : List ℕ) → D v w → C v (prefix ++ w))
    → ((v : ℕ) (w x y : List ℕ) → v ≤ limit → C v w → prefix ++ x ≡ w ++ y → (u : List ℕ) × (w ≡ prefix ++ u) × D v u)
    → (r : Read) (new : Unread) → ReadsCode D limit mid r new → ReadsCode C limit old r new
lift C D limit prefix old mid t to from (Value v) new (le, w, d, s) = (le, prefix ++ w, to v w d, takes_both old mid new prefix w t s)
lift C D limit prefix old mid t to from Ends new (v, le, w, rest, d, pos, e) =
    (v, le, prefix ++ w, rest, to v w d, pos, ap (λ c. prefix ++ c) e ∙ sym (append_assoc prefix mid.left rest) ∙ ap (λ c. c ++ rest) (sym t.prefix))
lift C D limit prefix old mid t to from Over new none = λ v w x y le c same.
    let e : prefix ++ (mid.left ++ x) ≡ w ++ y = sym (append_assoc prefix mid.left x) ∙ ap (λ b. b ++ x) (sym t.prefix) ∙ same in
    let found : (u : List ℕ) × (w ≡ prefix ++ u) × D v u = from v w (mid.left ++ x) y le c e in
    none v found.0 x y le found.2
    (append_cancel_left prefix (mid.left ++ x) (found.0 ++ y) (e ∙ ap (λ b. b ++ y) found.1 ∙ append_assoc prefix found.0 y))

pub one_zero : ◌≡◌ {A = ℕ} 1 0 → ⊥
one_zero e = omega arith

pub heads : {a b : ℕ} {x y : List ℕ} → a ∷ x ≡ b ∷ y → a ≡ b
heads e = cc

-- ---- long words

long_zero_to : (k j v : ℕ) (w : List ℕ) → LongWords k (j + 1) v w → LongWords k j v ((0 ∷ []) ++ w)
long_zero_to k j v w (i, m, r, e, lt, is, word) = (suc i, m, r, omega arith, lt, is, ap (λ c. 0 ∷ c) word)

long_zero_from : (k j limit v : ℕ) (w x y : List ℕ) → v ≤ limit → LongWords k j v w → (0 ∷ []) ++ x ≡ w ++ y → (u : List ℕ) × (w ≡ (0 ∷ []) ++ u) × LongWords k (j + 1) v u
long_zero_from k j limit v w x y le (zero, m, r, e, lt, is, word) same =
    absurd (one_zero (sym (heads (same ∙ ap (λ c. c ++ y) word))))
long_zero_from k j limit v w x y le (suc i, m, r, e, lt, is, word) same =
    (replicate i 0 ++ 1 ∷ bin (k + m) r, word, (i, m, r, omega arith, lt, is, refl))

pub long_zero : (k j limit : ℕ) (old mid : Unread) → Takes old mid (0 ∷ []) → (r : Read) (new : Unread)
    → ReadsCode (LongWords k (j + 1)) limit mid r new → ReadsCode (LongWords k j) limit old r new
long_zero k j limit old mid t = lift (LongWords k j) (LongWords k (j + 1)) limit (0 ∷ []) old mid t (long_zero_to k j) (long_zero_from k j limit)

long_one_to : (k j v : ℕ) (w : List ℕ) → Numbers (k + j) (long_word_base k j) v w → LongWords k j v ((1 ∷ []) ++ w)
long_one_to k j v w (r, lt, is, word) = (0, j, r, omega arith, lt, is, ap (λ c. 1 ∷ c) word)

long_one_from : (k j limit v : ℕ) (w x y : List ℕ) → v ≤ limit → LongWords k j v w → (1 ∷ []) ++ x ≡ w ++ y → (u : List ℕ) × (w ≡ (1 ∷ []) ++ u) × Numbers (k + j) (long_word_base k j) v u
long_one_from k j limit v w x y le (zero, m, r, e, lt, is, word) same =
    let f : m ≡ j = omega arith in
    (bin (k + m) r, word, (r, rw f at lt, rw f at is, ap (λ n. bin (k + n) r) f))
long_one_from k j limit v w x y le (suc i, m, r, e, lt, is, word) same =
    absurd (one_zero (heads (same ∙ ap (λ c. c ++ y) word)))

pub long_one : (k j limit : ℕ) (old mid : Unread) → Takes old mid (1 ∷ []) → (r : Read) (new : Unread)
    → ReadsCode (Numbers (k + j) (long_word_base k j)) limit mid r new → ReadsCode (LongWords k j) limit old r new
long_one k j limit old mid t = lift (LongWords k j) (Numbers (k + j) (long_word_base k j)) limit (1 ∷ []) old mid t (long_one_to k j) (long_one_from k j limit)

-- no value with n zeros is permitted
pub long_over : (k j limit : ℕ) (old new : Unread) → limit < long_word_base k j → ReadsCode (LongWords k j) limit old Over new
long_over k j limit old new above v w x y le (i, m, r, e, lt, is, word) same =
    omega (arith, pow-le-pow_right {n = 2} (let p : 0 < 2 = omega arith in p) {i = k + j} {j = k + m} (let q : k + j ≤ k + m = omega arith in q))

pub long_ends : (k j limit : ℕ) (old new : Unread) → long_word_base k j ≤ limit → length old.left < 1 → ReadsCode (LongWords k j) limit old Ends new
long_ends k j limit old new below none =
    let e : old.left ≡ [] = nil_from_length old.left (omega arith) in (
      long_word_base k j + 0,
      omega arith,
      1 ∷ bin (k + j) 0,
      1 ∷ bin (k + j) 0,
      (0, j, 0, omega arith, pow_pos (k + j), refl, refl),
      omega arith,
      rw e refl,
    )

-- ---- one bit

pub bit_one : (v : ℕ) → v ≡ 1 → bin 1 v ≡ 1 ∷ []
unfolding digits
bit_one v e = rw e refl

pub bit_zero : (v : ℕ) → v < 2 ^ 1 → v ≢ 1 → bin 1 v ≡ 0 ∷ []
unfolding digits
bit_zero v h ne = let e : v ≡ 0 = omega arith in rw e refl

-- the minimum value with j zeros, as 32 bits compute it
pub least : (k j : ℕ) → k + j < 32 → (1 * 2 ^ k % 2 ^ 32) + (1 * 2 ^ (k + j) % 2 ^ 32) ≡ long_word_base k j
least k j h = let hk : k < 32 = omega arith in rw (one_shl k 32 hk, one_shl (k + j) 32 h) refl

-- ---- whole words

word_one_from : (k v : ℕ) (w x y : List ℕ) → Form k v → Words k v w → (1 ∷ []) ++ x ≡ w ++ y → (u : List ℕ) × (w ≡ (1 ∷ []) ++ u) × Numbers k 0 v u
word_one_from k v w x y (first lt) word same = (bin k v, word ∙ word_first k v lt, (v, lt, omega arith, refl))
word_one_from k v w x y (second r lt is) word same = absurd (one_zero (heads (same ∙ ap (λ c. c ++ y) (word ∙ word_second k v r lt is))))
word_one_from k v w x y (further j r lt is) word same = absurd (one_zero (heads (same ∙ ap (λ c. c ++ y) (word ∙ word_further k v j r lt is))))

pub word_one : (k limit : ℕ) (old mid : Unread) → Takes old mid (1 ∷ []) → (r : Read) (new : Unread)
    → ReadsCode (Numbers k 0) limit mid r new → ReadsCode (Words k) limit old r new
word_one k limit old mid t =
    lift (Words k) (Numbers k 0) limit (1 ∷ []) old mid t
    (λ v w (r, lt, is, word). let e : v ≡ r = omega arith in ap (λ c. 1 ∷ c) word ∙ sym (word_first k r lt) ∙ ap (code_word k) (sym e))
    (λ v w x y le word same. word_one_from k v w x y (form k v) word same)

seconds : {a b c d : ℕ} {x y : List ℕ} → a ∷ b ∷ x ≡ c ∷ d ∷ y → b ≡ d
seconds e = cc

word_two_from : (k v : ℕ) (w x y : List ℕ) → Form k v → Words k v w → (0 ∷ 0 ∷ []) ++ x ≡ w ++ y → (u : List ℕ) × (w ≡ (0 ∷ 0 ∷ []) ++ u) × Numbers k (2 ^ k) v u
word_two_from k v w x y (first lt) word same = absurd (one_zero (sym (heads (same ∙ ap (λ c. c ++ y) (word ∙ word_first k v lt)))))
word_two_from k v w x y (second r lt is) word same = (bin k r, word ∙ word_second k v r lt is, (r, lt, is, refl))
word_two_from k v w x y (further j r lt is) word same = absurd (one_zero (sym (seconds (same ∙ ap (λ c. c ++ y) (word ∙ word_further k v j r lt is)))))

pub word_two : (k limit : ℕ) (old mid new₁ : Unread) → Takes old mid (0 ∷ []) → Takes mid new₁ (0 ∷ []) → (r : Read) (new : Unread)
    → ReadsCode (Numbers k (2 ^ k)) limit new₁ r new → ReadsCode (Words k) limit old r new
word_two k limit old mid new₁ s t =
    lift (Words k) (Numbers k (2 ^ k)) limit (0 ∷ 0 ∷ []) old new₁ (takes_both old mid new₁ (0 ∷ []) (0 ∷ []) s t)
    (λ v w (r, lt, is, word). ap (λ c. 0 ∷ 0 ∷ c) word ∙ sym (word_second k v r lt is))
    (λ v w x y le word same. word_two_from k v w x y (form k v) word same)

word_long_from : (k v : ℕ) (w x y : List ℕ) → Form k v → Words k v w → (0 ∷ 1 ∷ []) ++ x ≡ w ++ y → (u : List ℕ) × (w ≡ (0 ∷ 1 ∷ []) ++ u) × LongWords k 0 v u
word_long_from k v w x y (first lt) word same = absurd (one_zero (sym (heads (same ∙ ap (λ c. c ++ y) (word ∙ word_first k v lt)))))
word_long_from k v w x y (second r lt is) word same = absurd (one_zero (seconds (same ∙ ap (λ c. c ++ y) (word ∙ word_second k v r lt is))))
word_long_from k v w x y (further j r lt is) word same =
    (replicate j 0 ++ 1 ∷ bin (k + j) r, word ∙ word_further k v j r lt is, (j, j, r, omega arith, lt, is, refl))

word_long_to : (k v : ℕ) (w : List ℕ) → LongWords k 0 v w → Words k v (0 ∷ 1 ∷ w)
word_long_to k v w (i, m, r, e, lt, is, word) =
    let f : i ≡ m = omega arith in
    ap (λ c. 0 ∷ 1 ∷ c) (word ∙ ap (λ n. replicate n 0 ++ 1 ∷ bin (k + m) r) f) ∙ sym (word_further k v m r lt is)

pub word_long : (k limit : ℕ) (old mid new₁ : Unread) → Takes old mid (0 ∷ []) → Takes mid new₁ (1 ∷ []) → (r : Read) (new : Unread)
    → ReadsCode (LongWords k 0) limit new₁ r new → ReadsCode (Words k) limit old r new
word_long k limit old mid new₁ s t =
    lift (Words k) (LongWords k 0) limit (0 ∷ 1 ∷ []) old new₁ (takes_both old mid new₁ (0 ∷ []) (1 ∷ []) s t)
    (word_long_to k)
    (λ v w x y le word same. word_long_from k v w x y (form k v) word same)

-- no bit is left
pub word_none : (k limit : ℕ) (old new : Unread) → length old.left < 1 → ReadsCode (Words k) limit old Ends new
word_none k limit old new none =
    let e : old.left ≡ [] = nil_from_length old.left (omega arith) in
    (0, omega arith, code_word k 0, code_word k 0, refl, rw (word_first k 0 (pow_pos k)) (omega arith), ap (λ c. c ++ code_word k 0) (sym e))

-- one bit 0 is left
pub only_zero : (old mid : Unread) → Takes old mid (0 ∷ []) → length mid.left < 1 → old.left ≡ 0 ∷ []
only_zero old mid t none = t.prefix ∙ ap (λ c. 0 ∷ c) (nil_from_length mid.left (omega arith))

pub word_zero_ends : (k limit : ℕ) (old new : Unread) → old.left ≡ 0 ∷ [] → 2 ^ k ≤ limit → ReadsCode (Words k) limit old Ends new
word_zero_ends k limit old new e below =
    let w : code_word k (2 ^ k + 0) ≡ 0 ∷ 0 ∷ bin k 0 = second_word k 0 (pow_pos k) in
    (2 ^ k + 0, omega arith, 0 ∷ 0 ∷ bin k 0, 0 ∷ bin k 0, sym w, omega arith, rw e refl)

zero_over : (k limit v : ℕ) (x y : List ℕ) → limit < 2 ^ k → v ≤ limit → Form k v → 0 ∷ x ≡ code_word k v ++ y → ⊥
zero_over k limit v x y above le (first lt) same = one_zero (sym (heads (same ∙ ap (λ c. c ++ y) (word_first k v lt))))
zero_over k limit v x y above le (second r lt is) same = omega arith
zero_over k limit v x y above le (further j r lt is) same = omega arith

pub word_zero_over : (k limit : ℕ) (old new : Unread) → old.left ≡ 0 ∷ [] → limit < 2 ^ k → ReadsCode (Words k) limit old Over new
word_zero_over k limit old new e above v w x y le word same =
    zero_over k limit v x y above le (form k v) (ap (λ c. c ++ x) (sym e) ∙ same ∙ ap (λ c. c ++ y) word)

-- ---- the answer as callers see it

pub value_is : (k limit v : ℕ) (old new : Unread) → ReadsCode (Words k) limit old (Value v) new → ReadsWord k limit old (Value v) new
value_is k limit v old new (le, w, word, t) = (le, rw word at t)

pub ends_is : (k limit : ℕ) (old new : Unread) → ReadsCode (Words k) limit old Ends new → EndsInside (code_word k) limit old.left
ends_is k limit old new (v, le, w, rest, word, pos, e) = (v, le, (rest, pos, sym word ∙ e))

pub over_is : (k limit : ℕ) (old new : Unread) → ReadsCode (Words k) limit old Over new → HasNone (code_word k) limit old.left
over_is k limit old new none = (
  λ v (le, (rest, e)). none v (code_word k v) [] rest le refl (append-nil old.left ∙ e),
  λ (v, le, (rest, pos, e)). none v (code_word k v) rest [] le refl (sym e ∙ sym (append-nil (code_word k v))),
)

-- where the answer is no value the reader is as it was
pub no_value_is : (k limit : ℕ) (old ahead new : Unread) (r : Read) → ahead ≡ old → ((v : ℕ) → r ≡ Value v → ⊥) → ReadsCode (Words k) limit ahead r new → ReadsWord k limit old r old
no_value_is k limit old ahead new (Value v) e none reads = absurd (none v refl)
no_value_is k limit old ahead new Ends e none reads = (rw (← e) (ends_is k limit ahead new reads), refl)
no_value_is k limit old ahead new Over e none reads = (over_is k limit old new (rw e at reads), refl)
