-- To walk a table inverts to spell it.
use Rattle.std.proofs.Common.{◌≡◌, ℕ, zero, suc, ◌+◌, ◌-◌, ◌*◌, ◌/◌, ◌%◌, ◌<◌, ◌≤◌, List, [], ◌∷◌, ◌++◌, length, take, drop, replicate, refl, sym, ap, ◌∙◌, arith, Option, Some, None, Result, Ok, Err, Bool, true, false, cond, nat_eq, nat_lt, ◌⊎◌, inl, inr, append_assoc, length-append}
use Rattle.std.proofs.lemmas.List.{take-append-drop, length-take-le, take_at, drop_at}
use Rattle.std.proofs.lemmas.Bool.{ltb-false, eqb-true, eqb-false, ne_eqb, le-ltb}
use Rattle.apv_base.specs.model.Bits.{digits, number, AreDigits}
use Rattle.apv_base.specs.model.Table.{Table, done, field, coded, plain, head, spell, walk, coded_at, coded_number, counted, with_values, unless_fault, where_read}
use Rattle.apv_base.specs.laws.Table.{Passes}
use Rattle.apv_base.proofs.DigitsLemmas.{length-digits, digits-number, number-digits, digits-drop, digits-take, digits-tail}

pub chosen : {X : Type 0} (b : Bool) (x y z : X) → cond b x y ≡ z → ((b ≡ true) × (x ≡ z)) ⊎ ((b ≡ false) × (y ≡ z))
chosen true x y z e = inl (refl, e)
chosen false x y z e = inr (refl, e)

pub pair_of-Ok : {A B E : Type 0} {a c : A} {b d : B} → ◌≡◌ {A = Result (A × B) E} (Ok (a, b)) (Ok (c, d)) → (a ≡ c) × (b ≡ d)
pair_of-Ok {A} {B} {E} {a} {c} {b} {d} e =
    let p : ◌≡◌ {A = A × B} (a, b) (c, d) = cc in
    (ap (λ (q : A × B). q.0) p, ap (λ (q : A × B). q.1) p)

pub pair_of-Some : {A B : Type 0} {a c : A} {b d : B} → ◌≡◌ {A = Option (A × B)} (Some (a, b)) (Some (c, d)) → (a ≡ c) × (b ≡ d)
pair_of-Some {A} {B} {a} {c} {b} {d} e =
    let p : ◌≡◌ {A = A × B} (a, b) (c, d) = cc in
    (ap (λ (q : A × B). q.0) p, ap (λ (q : A × B). q.1) p)

-- what went on found no fault
pub unless_fault-Ok : {A E : Type 0} (found : Option E) (walked : Result A E) (a : A) → unless_fault found walked ≡ Ok a → (found ≡ None) × (walked ≡ Ok a)
unless_fault-Ok None walked a e = (refl, e)
unless_fault-Ok (Some fault) walked a e = absurd (let no : ⊥ = cc in no)

-- a walk with values before gave values after
pub record Behind {E : Type 0} (prefix : List ℕ) (walked : Result (List ℕ × List ℕ) E) (values rest : List ℕ) : Type 0 where
  pub later : List ℕ
  pub is : walked ≡ Ok (later, rest)
  pub all : values ≡ prefix ++ later

pub with_values-Ok : {E : Type 0} (prefix : List ℕ) (walked : Result (List ℕ × List ℕ) E) (values rest : List ℕ) → with_values prefix walked ≡ Ok (values, rest) → Behind prefix walked values rest
with_values-Ok prefix (Ok (later, after)) values rest e =
    let p = pair_of-Ok e in record { later = later; is = ap (λ (x : List ℕ). Ok (later, x)) p.1; all = sym p.0 }
with_values-Ok prefix (Err fault) values rest e = absurd (let no : ⊥ = cc in no)

pub where_read-Ok : {A E : Type 0} (short : E) (read : Option (ℕ × List ℕ)) (onward : ℕ → List ℕ → Result A E) (a : A) → where_read short read onward ≡ Ok a
    → (n : ℕ) × (after : List ℕ) × (read ≡ Some (n, after)) × (onward n after ≡ Ok a)
where_read-Ok short None onward a e = absurd (let no : ⊥ = cc in no)
where_read-Ok short (Some (n, after)) onward a e = (n, after, refl, e)

-- ---- coded numbers

coded-more : (n : ℕ) → coded_number (255 + n) ≡ 255 ∷ coded_number n
unfolding coded_number
coded-more n =
    let q : (255 + n) / 255 ≡ suc (n / 255) = omega arith in
    let r : (255 + n) % 255 ≡ n % 255 = omega arith in
    rw (q, r) refl

coded-one : (n : ℕ) → n < 255 → coded_number n ≡ n ∷ []
unfolding coded_number
coded-one n lt =
    let q : n / 255 ≡ 0 = omega arith in
    let r : n % 255 ≡ n = omega arith in
    rw (q, r) refl

counted-Some : (n : ℕ) (read : Option (ℕ × List ℕ)) (m : ℕ) (rest : List ℕ) → counted n read ≡ Some (m, rest) → (k : ℕ) × (read ≡ Some (k, rest)) × (n + k ≡ m)
counted-Some n None m rest e = absurd (let no : ⊥ = cc in no)
counted-Some n (Some (k, after)) m rest e = let p = pair_of-Some e in (k, ap (λ (x : List ℕ). Some (k, x)) p.1, p.0)

spelled-more : (xs rest : List ℕ) (x k n : ℕ) → x ≡ 255 → 255 + k ≡ n → xs ≡ coded_number k ++ rest → x ∷ xs ≡ coded_number n ++ rest
spelled-more xs rest x k n e f g = rw (e, ← f, g, coded-more k) refl

spelled-one : (xs rest : List ℕ) (x n : ℕ) → x < 255 → x ≡ n → xs ≡ rest → x ∷ xs ≡ coded_number n ++ rest
spelled-one xs rest x n lt e f = rw (← e, f, coded-one x lt) refl

digits-along : (r : ℕ) (xs ys : List ℕ) → xs ≡ ys → AreDigits r xs → AreDigits r ys
digits-along r xs ys e h = rw (← e) h

-- a number that is read is spelled so
pub coded_at-Some : (r : ℕ) (xs : List ℕ) (n : ℕ) (rest : List ℕ) → r ≤ 256 → AreDigits r xs → coded_at xs ≡ Some (n, rest) → (xs ≡ coded_number n ++ rest) × AreDigits r rest
unfolding coded_at
coded_at-Some r [] n rest le h e = absurd (let no : ⊥ = cc in no)
coded_at-Some r (x ∷ xs) n rest le h e = elim (chosen (nat_eq x 255) _ _ _ e) [
  | inl t ↦ (let found = counted-Some 255 (coded_at xs) n rest t.1 in
      let later = coded_at-Some r xs found.0 rest le (digits-tail r x xs h) found.1 in
      (spelled-more xs rest x found.0 n (eqb-true x 255 t.0) found.2 later.0, later.1))
  | inr t ↦ (let p = pair_of-Some t.1 in
      let small : x < 255 = omega (arith, h 0, eqb-false x 255 t.0) in
      (spelled-one xs rest x n small p.0 p.1, digits-along r xs rest p.1 (digits-tail r x xs h)))
]

-- a number that is spelled is read
coded_at-run : (q m : ℕ) (x : List ℕ) → m < 255 → coded_at (replicate q 255 ++ m ∷ x) ≡ Some (255 * q + m, x)
unfolding coded_at
coded_at-run zero m x lt = let z : 255 * 0 + m ≡ m = omega arith in rw (ne_eqb m 255 (λ e. omega arith), z) refl
coded_at-run (suc q) m x lt =
    let e : 255 + (255 * q + m) ≡ 255 * suc q + m = omega arith in
    let one : ◌≡◌ {A = Option (ℕ × List ℕ)} (counted 255 (coded_at (replicate q 255 ++ m ∷ x))) (Some (255 + (255 * q + m), x)) = ap (counted 255) (coded_at-run q m x lt) in
    let two : ◌≡◌ {A = Option (ℕ × List ℕ)} (Some (255 + (255 * q + m), x)) (Some (255 * suc q + m, x)) = ap (λ (n : ℕ). Some (n, x)) e in
    one ∙ two

pub coded_at-coded_number : (n : ℕ) (x : List ℕ) → coded_at (coded_number n ++ x) ≡ Some (n, x)
unfolding coded_number
coded_at-coded_number n x =
    let small : n % 255 < 255 = omega arith in
    let whole : 255 * (n / 255) + n % 255 ≡ n = omega arith in
    rw (append_assoc (replicate (n / 255) 255) ((n % 255) ∷ []) x, coded_at-run (n / 255) (n % 255) x small, whole) refl

-- ---- what is walked is spelled so

joined : (xs prefix later values rest spelled : List ℕ) (n : ℕ) → take n xs ≡ prefix → drop n xs ≡ spelled ++ rest → xs ≡ (prefix ++ spelled) ++ rest
joined xs prefix later values rest spelled n e f = sym (take-append-drop n xs) ∙ rw (e, f) (sym (append_assoc prefix spelled rest))

after-joined : (xs prefix after rest spelled : List ℕ) → xs ≡ prefix ++ after → after ≡ spelled ++ rest → xs ≡ (prefix ++ spelled) ++ rest
after-joined xs prefix after rest spelled e f = rw (e, f) (sym (append_assoc prefix spelled rest))

pub walked-spelled : {E : Type 0} (r : ℕ) (table : Table E) (xs values rest : List ℕ) → 0 < r → r ≤ 256 → AreDigits r xs → walk r table xs ≡ Ok (values, rest) → xs ≡ spell r table values ++ rest
unfolding walk spell
walked-spelled r done xs values rest lt le h e = let p = pair_of-Ok e in rw p.1 refl
walked-spelled {E} r (field n short check next) xs values rest lt le h e = elim (chosen (nat_lt (length xs) n) _ _ _ e) [
  | inl t ↦ absurd (let no : ⊥ = cc (t.1) in no)
  | inr t ↦ (let value : ℕ = number r (take n xs) in
      let sound = unless_fault-Ok (check value (length xs - n)) (with_values (value ∷ []) (walk r (next value) (drop n xs))) (values, rest) t.1 in
      let b = with_values-Ok (value ∷ []) (walk r (next value) (drop n xs)) values rest sound.1 in
      let ih = walked-spelled r (next value) (drop n xs) b.later rest lt le (digits-drop r n xs h) b.is in
      let len : length (take n xs) ≡ n = length-take-le n xs (ltb-false (length xs) n t.0) in
      let same : take n xs ≡ digits r n value = sym (rw len at (digits-number r (take n xs) lt (digits-take r n xs lt h))) in
      rw (b.all) (joined xs (digits r n value) b.later values rest (spell r (next value) b.later) n same ih))
]
walked-spelled r (coded short next) xs values rest lt le h e =
    let found = where_read-Ok short (coded_at xs) (λ value after. with_values (value ∷ []) (walk r (next value) after)) (values, rest) e in
    let b = with_values-Ok (found.0 ∷ []) (walk r (next found.0) found.1) values rest found.3 in
    let prefix = coded_at-Some r xs found.0 found.1 le h found.2 in
    let ih = walked-spelled r (next found.0) found.1 b.later rest lt le prefix.1 b.is in
    after-joined xs (coded_number found.0) found.1 rest (spell r (next found.0) b.later) prefix.0 ih ∙ ap (λ (vs : List ℕ). spell r (coded short next) vs ++ rest) (sym b.all)
walked-spelled r (plain n short next) xs values rest lt le h e = elim (chosen (nat_lt (length xs) n) _ _ _ e) [
  | inl t ↦ absurd (let no : ⊥ = cc (t.1) in no)
  | inr t ↦ (let b = with_values-Ok (take n xs) (walk r next (drop n xs)) values rest t.1 in
      let ih = walked-spelled r next (drop n xs) b.later rest lt le (digits-drop r n xs h) b.is in
      let len : length (take n xs) ≡ n = length-take-le n xs (ltb-false (length xs) n t.0) in
      rw (b.all, take_at (take n xs) b.later n len, drop_at (take n xs) b.later n len) (joined xs (take n xs) b.later values rest (spell r next b.later) n refl ih))
]

-- ---- what is spelled is walked

pub spelled-walked : {E : Type 0} (r : ℕ) (table : Table E) (values x : List ℕ) → 0 < r → Passes r table values (length x) → walk r table (spell r table values ++ x) ≡ Ok (values, x)
unfolding walk spell
spelled-walked r done values x lt p = rw p refl
spelled-walked {E} r (field n short check next) values x lt p =
    let prefix : List ℕ = digits r n (head values) in
    let later : List ℕ = spell r (next (head values)) (drop 1 values) in
    let len : length prefix ≡ n = length-digits r n (head values) in
    let ih = spelled-walked r (next (head values)) (drop 1 values) x lt p.3 in
    let long : n ≤ length (prefix ++ (later ++ x)) = omega (arith, length-append prefix (later ++ x)) in
    let left : length (prefix ++ (later ++ x)) - n ≡ length later + length x = omega (arith, length-append prefix (later ++ x), length-append later x) in
    rw (append_assoc prefix later x, le-ltb (length (prefix ++ (later ++ x))) n long, take_at prefix (later ++ x) n len, drop_at prefix (later ++ x) n len, number-digits r n (head values) lt p.1, left, p.2, ih)
    (ap (λ (vs : List ℕ). Ok (vs, x)) (sym p.0))
spelled-walked r (coded short next) values x lt p =
    let later : List ℕ = spell r (next (head values)) (drop 1 values) in
    let ih = spelled-walked r (next (head values)) (drop 1 values) x lt p.1 in
    rw (append_assoc (coded_number (head values)) later x, coded_at-coded_number (head values) (later ++ x), ih)
    (ap (λ (vs : List ℕ). Ok (vs, x)) (sym p.0))
spelled-walked r (plain n short next) values x lt p =
    let prefix : List ℕ = take n values in
    let later : List ℕ = spell r next (drop n values) in
    let len : length prefix ≡ n = length-take-le n values p.0 in
    let ih = spelled-walked r next (drop n values) x lt p.1 in
    let long : n ≤ length (prefix ++ (later ++ x)) = omega (arith, length-append prefix (later ++ x)) in
    rw (append_assoc prefix later x, le-ltb (length (prefix ++ (later ++ x))) n long, take_at prefix (later ++ x) n len, drop_at prefix (later ++ x) n len, ih)
    (ap (λ (vs : List ℕ). Ok (vs, x)) (take-append-drop n values))
