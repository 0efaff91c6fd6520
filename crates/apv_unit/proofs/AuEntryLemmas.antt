-- The values of access unit information, from its bytes.
use Rattle.std.proofs.Common.{◌≡◌, ℕ, zero, suc, ◌+◌, ◌-◌, ◌*◌, ◌/◌, ◌^◌, ◌<◌, ◌≤◌, List, [], ◌∷◌, ◌++◌, length, take, drop, get_or, refl, sym, ap, subst, ◌∙◌, arith, false, Option, Some, None, Result, Ok, Err, nat_lt, inl, inr}
use Rattle.std.specs.Prelude.{slice_index}
use Rattle.std.proofs.Math.Nat.{mod-lt, pow-suc, mul_comm}
use Rattle.std.proofs.lemmas.Nat.{pow-add}
use Rattle.std.proofs.lemmas.List.{take_at, drop_at, drop-drop, length-drop, length-append, get_or-drop}
use Rattle.std.proofs.lemmas.Bool.{ltb-false}
use Rattle.apv_base.specs.declared.rules.Rule.TheVariants.{V8, V14}
use Rattle.apv_base.specs.declared.rules.HeadEnd.{HeadEnd}
use Rattle.apv_base.specs.declared.rules.HeadEnd.TheVariants.{Rule as breaks}
use Rattle.apv_base.specs.model.Bits.{digits, bin, bits, number, AreDigits}
use Rattle.apv_base.specs.model.Table.{Table, done, field, no_check, must_be_zero, walk, with_values, unless_fault, spell}
use Rattle.apv_base.specs.model.Header.{free, reserved, info_fields}
use Rattle.apv_base.specs.model.AuInfo.{entry_fields, entries_fields, IsAuInfo}
use Rattle.apv_base.proofs.BitsLemmas.{length-bits, bits-be, bits-drop, bits-take}
use Rattle.apv_base.proofs.DigitsLemmas.{number-digits, digits-number, number_below, digits-take, digits-drop}
use Rattle.apv_base.proofs.PbuLemmas.{number_1}
use Rattle.apv_base.proofs.TableLemmas.{chosen, pair_of-Ok, walked-spelled}
use Rattle.apv_base.proofs.WalkLemmas.{Gives, onward-gives, field-passes}

-- ---- a walk goes over the fields at its start

-- the first value and the walk over the fields after it
record First {E : Type 0} (n : ℕ) (check : ℕ → ℕ → Option E) (next : ℕ → Table E) (xs values rest : List ℕ) : Type 0 where
  later : List ℕ
  all : values ≡ number 2 (take n xs) ∷ later
  enough : n ≤ length xs
  sound : check (number 2 (take n xs)) (length xs - n) ≡ None
  walked : Gives 2 (next (number 2 (take n xs))) (drop n xs) later rest

-- no fault was found, and the walk went on
went_on : {E : Type 0} (found : Option E) (value : ℕ) (walked : Result (List ℕ × List ℕ) E) (values rest : List ℕ)
    → ◌≡◌ {A = Result (List ℕ × List ℕ) E} (unless_fault found (with_values (value ∷ []) walked)) (Ok (values, rest))
    → (found ≡ None) × (later : List ℕ) × (values ≡ value ∷ later) × ◌≡◌ {A = Result (List ℕ × List ℕ) E} walked (Ok (later, rest))
went_on None value (Ok (later, after)) values rest e =
    let p = pair_of-Ok e in (refl, later, sym p.0, ap (λ (x : List ℕ). Ok (later, x)) p.1)
went_on None value (Err fault) values rest e = absurd (let no : ⊥ = cc in no)
went_on (Some fault) value walked values rest e = absurd (let no : ⊥ = cc in no)

first-of : {E : Type 0} (n : ℕ) (short : E) (check : ℕ → ℕ → Option E) (next : ℕ → Table E) (xs values rest : List ℕ)
    → Gives 2 (field n short check next) xs values rest → First n check next xs values rest
unfolding walk
first-of n short check next xs values rest e = elim (chosen (nat_lt (length xs) n) _ _ _ e) [
  | inl t ↦ absurd (let no : ⊥ = cc (t.1) in no)
  | inr t ↦ (let value : ℕ = number 2 (take n xs) in
      let p = went_on (check value (length xs - n)) value (walk 2 (next value) (drop n xs)) values rest t.1 in
      record { later = p.1; all = p.2; enough = ltb-false (length xs) n t.0; sound = p.0; walked = p.3 })
]

-- the table begins with n fields of n bits in all and goes on with another; alone it has these fields
data Leads {E : Type 0} (next : Table E) : ℕ → ℕ → Table E → Table E → Type 0 where
  last : Leads next 0 0 next done
  more : (count n k : ℕ) (short : E) (check : ℕ → ℕ → Option E) (step alone : ℕ → Table E) → ((value : ℕ) → Leads next count n (step value) (alone value))
      → Leads next (suc count) (k + n) (field k short check step) (field k short check alone)

record Split {E : Type 0} (next : Table E) (count n : ℕ) (alone : Table E) (xs values rest : List ℕ) : Type 0 where
  prefix : List ℕ
  later : List ℕ
  all : values ≡ prefix ++ later
  len : length prefix ≡ count
  enough : n ≤ length xs
  walked_prefix : Gives 2 alone xs prefix (drop n xs)
  walked : Gives 2 next (drop n xs) later rest

split : {E : Type 0} (next : Table E) (count n : ℕ) (table alone : Table E) (xs values rest : List ℕ)
    → Leads next count n table alone → Gives 2 table xs values rest → Split next count n alone xs values rest
unfolding walk
split next count n table alone xs values rest last e = record { prefix = []; later = values; all = refl; len = refl; enough = omega arith; walked_prefix = refl; walked = e }
split next count n table alone xs values rest (more few m k short check step aside later) e =
    let value : ℕ = number 2 (take k xs) in
    let f = first-of k short check step xs values rest e in
    let s = split next few m (step value) (aside value) (drop k xs) f.later rest (later value) f.walked in
    let at : drop m (drop k xs) ≡ drop (k + m) xs = drop-drop m k xs in
    record {
      prefix = value ∷ s.prefix;
      later = s.later;
      all = f.all ∙ ap (λ (vs : List ℕ). value ∷ vs) s.all;
      len = ap suc s.len;
      enough = omega (arith, f.enough, s.enough, length-drop k xs);
      walked_prefix = subst (λ (ys : List ℕ). Gives 2 (field k short check aside) xs (value ∷ s.prefix) ys) at
          (onward-gives 2 (field k short check aside) xs (value ∷ []) (aside value) (drop k xs) s.prefix (drop m (drop k xs))
          (field-passes 2 k short check aside xs value (length xs - k) (drop k xs) f.enough refl refl f.sound refl) s.walked_prefix);
      walked = subst (λ (ys : List ℕ). Gives 2 next ys s.later rest) at s.walked;
    }

-- ---- numbers of bits and of bytes

bits-both : (xs ys : List ℕ) → AreDigits 2 xs → AreDigits 2 ys → AreDigits 2 (xs ++ ys)
bits-both [] ys p q i = q i
bits-both (x ∷ xs) ys p q zero = p 0
bits-both (x ∷ xs) ys p q (suc i) = bits-both xs ys (λ j. p (suc j)) q i

bits-bin : (n v : ℕ) → AreDigits 2 (bin n v)
unfolding digits
bits-bin zero v i = omega arith
bits-bin (suc n) v zero = mod-lt (v / 2 ^ n) (omega arith)
bits-bin (suc n) v (suc i) = bits-bin n v i

bits-bits : (xs : List ℕ) → AreDigits 2 (bits xs)
bits-bits [] i = omega arith
bits-bits (x ∷ xs) i = bits-both (bin 8 x) (bits xs) (bits-bin 8 x) (bits-bits xs) i

power_of_bytes : (n : ℕ) → 256 ^ n ≡ 2 ^ (8 * n)
power_of_bytes zero = refl
power_of_bytes (suc n) =
    let e : 8 * suc n ≡ 8 + 8 * n = omega arith in
    rw (e, pow-add 2 8 (8 * n), ← power_of_bytes n, pow-suc 256 n, mul_comm (256 ^ n) 256) refl

bytes-number : (xs : List ℕ) → AreDigits 256 xs → number 2 (bits xs) ≡ number 256 xs
bytes-number xs h =
    let below : number 256 xs < 2 ^ (8 * length xs) = rw (← power_of_bytes (length xs)) (number_below 256 xs h) in
    let same : bits xs ≡ bin (8 * length xs) (number 256 xs) = sym (ap bits (digits-number 256 xs (omega arith) h)) ∙ bits-be (length xs) (number 256 xs) in
    ap (number 2) same ∙ number-digits 2 (8 * length xs) (number 256 xs) (omega arith) below

byte-number : (xs : List ℕ) → AreDigits 256 xs → 1 ≤ length xs → number 2 (take 8 (bits xs)) ≡ get_or xs 0 0
byte-number [] h le = absurd (omega arith)
byte-number (a ∷ xs) h le =
    ap (number 2) (bits-take 1 (a ∷ xs) (omega arith)) ∙ bytes-number (a ∷ []) (digits-take 256 1 (a ∷ xs) (omega arith) h) ∙ number_1 a

word-number : (xs : List ℕ) → AreDigits 256 xs → 2 ≤ length xs → number 2 (take 16 (bits xs)) ≡ number 256 (take 2 xs)
word-number xs h le = ap (number 2) (bits-take 2 xs le) ∙ bytes-number (take 2 xs) (digits-take 256 2 xs (omega arith) h)

-- ---- the number of entries

abbrev info : Table HeadEnd → Table HeadEnd
info next = info_fields false (λ format. next)

whole : (body values : List ℕ) → (is : IsAuInfo body values) → First 16 no_check (λ count. entries_fields count (reserved 8 done)) (bits body) values is.left
whole body values is = first-of 16 (breaks V8) no_check (λ count. entries_fields count (reserved 8 done)) (bits body) values is.left is.walked

pub has-count : (body values : List ℕ) → IsAuInfo body values → 2 ≤ length body
has-count body values is = omega (arith, (whole body values is).enough, length-bits body)

pub count-is : (body values : List ℕ) → AreDigits 256 body → IsAuInfo body values → number 256 (take 2 body) ≡ slice_index values 0
count-is body values h is =
    sym (word-number body h (has-count body values is)) ∙ sym (ap (λ (vs : List ℕ). slice_index vs 0) (whole body values is).all)

-- ---- an entry

leads-info : (next : Table HeadEnd) → Leads next 10 96 (info next) (info done)
leads-info next =
    more 9 88 8 _ _ _ _ (λ profile. more 8 80 8 _ _ _ _ (λ level. more 7 77 3 _ _ _ _ (λ band. more 6 72 5 _ _ _ _ (λ zero. more 5 48 24 _ _ _ _ (λ width.
    more 4 24 24 _ _ _ _ (λ height. more 3 20 4 _ _ _ _ (λ idc. more 2 16 4 _ _ _ _ (λ depth. more 1 8 8 _ _ _ _ (λ capture. more 0 0 8 _ _ _ _ (λ zero. last))))))))))

leads-entry : (next : Table HeadEnd) → Leads next 13 128 (entry_fields next) (entry_fields done)
leads-entry next = more 12 120 8 _ _ _ _ (λ kind. more 11 104 16 _ _ _ _ (λ group. more 10 96 8 _ _ _ _ (λ zero. leads-info next)))

-- the walk over entries comes to the entry of a number
to-entry : (count n : ℕ) (next : Table HeadEnd) (xs values rest : List ℕ) → n < count → Gives 2 (entries_fields count next) xs values rest
    → (after : Table HeadEnd) × Gives 2 (entry_fields after) (drop (128 * n) xs) (drop (13 * n) values) rest
unfolding entries_fields
to-entry zero n next xs values rest lt e = absurd (omega arith)
to-entry (suc count) zero next xs values rest lt e = (entries_fields count next, e)
to-entry (suc count) (suc n) next xs values rest lt e =
    let s = split (entries_fields count next) 13 128 (entry_fields (entries_fields count next)) (entry_fields done) xs values rest (leads-entry (entries_fields count next)) e in
    let found = to-entry count n next (drop 128 xs) s.later rest (omega arith) s.walked in
    let place : 128 + 128 * n ≡ 128 * suc n = omega arith in
    let index : 13 + 13 * n ≡ 13 * suc n = omega arith in
    let at : drop (128 * n) (drop 128 xs) ≡ drop (128 * suc n) xs = drop-drop (128 * n) 128 xs ∙ ap (λ (k : ℕ). drop k xs) place in
    let those : drop (13 * n) s.later ≡ drop (13 * suc n) values =
    sym (ap (drop (13 * n)) (ap (drop 13) s.all ∙ drop_at s.prefix s.later 13 s.len)) ∙ drop-drop (13 * n) 13 values ∙ ap (λ (k : ℕ). drop k values) index in
    (found.0, subst (λ (ys : List ℕ). Gives 2 (entry_fields found.0) ys (drop (13 * suc n) values) rest) at (subst (λ (vs : List ℕ). Gives 2 (entry_fields found.0) (drop (128 * n) (drop 128 xs)) vs rest) those found.1))

-- the values of an entry that is at the start of the bits
record EntryValues (xs values : List ℕ) : Type 0 where
  enough : 128 ≤ length xs
  kind : number 2 (take 8 xs) ≡ get_or values 0 0
  group : number 2 (take 16 (drop 8 xs)) ≡ get_or values 1 0
  info : take 96 (drop 32 xs) ≡ spell 2 (info_fields false (λ format. done)) (take 10 (drop 3 values))

after_three : (values later : List ℕ) (a b c : ℕ) → values ≡ a ∷ b ∷ c ∷ later → drop 3 values ≡ later
after_three values later a b c e = ap (drop 3) e

first_value : (values later : List ℕ) (a : ℕ) → values ≡ a ∷ later → a ≡ get_or values 0 0
first_value values later a e = sym (ap (λ (vs : List ℕ). get_or vs 0 0) e)

second_value : (values later : List ℕ) (a b : ℕ) → values ≡ a ∷ b ∷ later → b ≡ get_or values 1 0
second_value values later a b e = sym (ap (λ (vs : List ℕ). get_or vs 1 0) e)

three_values : (values second third later : List ℕ) (a b c : ℕ) → values ≡ a ∷ second → second ≡ b ∷ third → third ≡ c ∷ later → values ≡ a ∷ b ∷ c ∷ later
three_values values second third later a b c e f g = e ∙ ap (λ (vs : List ℕ). a ∷ vs) (f ∙ ap (λ (vs : List ℕ). b ∷ vs) g)

prefix_of : (n : ℕ) (xs prefix later : List ℕ) → xs ≡ prefix ++ later → length prefix ≡ n → take n xs ≡ prefix
prefix_of n xs prefix later e len = ap (take n) e ∙ take_at prefix later n len

-- what comes before all but n elements
prefix_word : (n : ℕ) (xs word : List ℕ) → n ≤ length xs → xs ≡ word ++ drop n xs → take n xs ≡ word
prefix_word n xs word le e = prefix_of n xs word (drop n xs) e (omega (arith, ap length e, length-append word (drop n xs), length-drop n xs))

-- the ten values of frame_info() at the start
info-values : (next : Table HeadEnd) (xs values rest : List ℕ) → AreDigits 2 xs → Gives 2 (info next) xs values rest
    → (96 ≤ length xs) × (take 96 xs ≡ spell 2 (info done) (take 10 values))
info-values next xs values rest h e =
    let s = split next 10 96 (info next) (info done) xs values rest (leads-info next) e in
    let spelled = walked-spelled 2 (info done) xs s.prefix (drop 96 xs) (omega arith) (omega arith) h s.walked_prefix in
    (s.enough, prefix_word 96 xs (spell 2 (info done) s.prefix) s.enough spelled ∙ ap (spell 2 (info done)) (sym (prefix_of 10 values s.prefix s.later s.all s.len)))

after_header : (xs : List ℕ) → drop 32 xs ≡ drop 8 (drop 16 (drop 8 xs))
after_header xs = sym (ap (drop 8) (drop-drop 16 8 xs) ∙ drop-drop 8 24 xs)

entry-values : (next : Table HeadEnd) (xs values rest : List ℕ) → AreDigits 2 xs → Gives 2 (entry_fields next) xs values rest → EntryValues xs values
entry-values next xs values rest h e =
    let f = first-of 8 (breaks V8) no_check (λ kind. free 16 (λ group. reserved 8 (info next))) xs values rest e in
    let g = first-of 16 (breaks V8) no_check (λ group. reserved 8 (info next)) (drop 8 xs) f.later rest f.walked in
    let z = first-of 8 (breaks V8) (must_be_zero (breaks V14)) (λ zero. info next) (drop 16 (drop 8 xs)) g.later rest g.walked in
    let all = three_values values f.later g.later z.later _ _ _ f.all g.all z.all in
    let walked : Gives 2 (info next) (drop 32 xs) z.later rest = subst (λ (ys : List ℕ). Gives 2 (info next) ys z.later rest) (sym (after_header xs)) z.walked in
    let found = info-values next (drop 32 xs) z.later rest (digits-drop 2 32 xs h) walked in
    record {
      enough = omega (arith, found.0, length-drop 32 xs);
      kind = first_value values f.later _ f.all;
      group = second_value values (number 2 (take 8 (drop 16 (drop 8 xs))) ∷ z.later) _ _ all;
      info = found.1 ∙ ap (λ (vs : List ℕ). spell 2 (info done) (take 10 vs)) (sym (after_three values z.later _ _ _ all));
    }

entry-found : (body values : List ℕ) (n : ℕ) → IsAuInfo body values → n < slice_index values 0 → EntryValues (bits (drop (2 + 16 * n) body)) (drop (1 + 13 * n) values)
entry-found body values n is lt =
    let f = whole body values is in
    let count : ℕ = number 2 (take 16 (bits body)) in
    let inside : n < count = omega (arith, lt, ap (λ (vs : List ℕ). slice_index vs 0) f.all) in
    let found = to-entry count n (reserved 8 done) (drop 16 (bits body)) f.later is.left inside f.walked in
    let place : 16 + 128 * n ≡ 8 * (2 + 16 * n) = omega arith in
    let at : drop (128 * n) (drop 16 (bits body)) ≡ bits (drop (2 + 16 * n) body) = drop-drop (128 * n) 16 (bits body) ∙ ap (λ (k : ℕ). drop k (bits body)) place ∙ bits-drop (2 + 16 * n) body in
    let those : drop (13 * n) f.later ≡ drop (1 + 13 * n) values = sym (ap (drop (13 * n)) (ap (drop 1) f.all)) ∙ drop-drop (13 * n) 1 values in
    entry-values found.0 (bits (drop (2 + 16 * n) body)) (drop (1 + 13 * n) values) is.left (bits-bits (drop (2 + 16 * n) body))
    (subst (λ (ys : List ℕ). Gives 2 (entry_fields found.0) ys (drop (1 + 13 * n) values) is.left) at (subst (λ (vs : List ℕ). Gives 2 (entry_fields found.0) (drop (128 * n) (drop 16 (bits body))) vs is.left) those found.1))

pub has-entry : (body values : List ℕ) (n : ℕ) → IsAuInfo body values → n < slice_index values 0 → 2 + 16 * n + 16 ≤ length body
has-entry body values n is lt = omega (arith, (entry-found body values n is lt).enough, length-bits (drop (2 + 16 * n) body), length-drop (2 + 16 * n) body)

pub kind-is : (body values entry : List ℕ) (n : ℕ) → AreDigits 256 body → IsAuInfo body values → n < slice_index values 0 → entry ≡ drop (2 + 16 * n) body
    → get_or entry 0 0 ≡ slice_index values (1 + 13 * n)
kind-is body values entry n h is lt e =
    let long : 1 ≤ length (drop (2 + 16 * n) body) = omega (arith, has-entry body values n is lt, length-drop (2 + 16 * n) body) in
    let index : 1 + 13 * n + 0 ≡ 1 + 13 * n = omega arith in
    ap (λ (ys : List ℕ). get_or ys 0 0) e ∙ sym (byte-number (drop (2 + 16 * n) body) (digits-drop 256 (2 + 16 * n) body h) long)
    ∙ (entry-found body values n is lt).kind ∙ get_or-drop (1 + 13 * n) values 0 0 ∙ ap (λ (k : ℕ). get_or values k 0) index

pub group-is : (body values entry : List ℕ) (n : ℕ) → AreDigits 256 body → IsAuInfo body values → n < slice_index values 0 → entry ≡ drop (2 + 16 * n) body
    → number 256 (take 2 (drop 1 entry)) ≡ slice_index values (2 + 13 * n)
group-is body values entry n h is lt e =
    let ys : List ℕ = drop (2 + 16 * n) body in
    let long : 2 ≤ length (drop 1 ys) = omega (arith, has-entry body values n is lt, length-drop (2 + 16 * n) body, length-drop 1 ys) in
    let index : 1 + 13 * n + 1 ≡ 2 + 13 * n = omega arith in
    ap (λ (zs : List ℕ). number 256 (take 2 (drop 1 zs))) e
    ∙ sym (word-number (drop 1 ys) (digits-drop 256 1 ys (digits-drop 256 (2 + 16 * n) body h)) long)
    ∙ ap (λ (zs : List ℕ). number 2 (take 16 zs)) (sym (bits-drop 1 ys))
    ∙ (entry-found body values n is lt).group ∙ get_or-drop (1 + 13 * n) values 1 0 ∙ ap (λ (k : ℕ). get_or values k 0) index

pub info-is : (body values entry bytes : List ℕ) (n : ℕ) → IsAuInfo body values → n < slice_index values 0 → entry ≡ drop (2 + 16 * n) body → bytes ≡ take 12 (drop 4 entry)
    → bits bytes ≡ spell 2 (info_fields false (λ format. done)) (take 10 (drop (4 + 13 * n) values))
info-is body values entry bytes n is lt e f =
    let ys : List ℕ = drop (2 + 16 * n) body in
    let long : 12 ≤ length (drop 4 ys) = omega (arith, has-entry body values n is lt, length-drop (2 + 16 * n) body, length-drop 4 ys) in
    let index : 1 + 13 * n + 3 ≡ 4 + 13 * n = omega arith in
    ap bits (f ∙ ap (λ (zs : List ℕ). take 12 (drop 4 zs)) e) ∙ sym (bits-take 12 (drop 4 ys) long) ∙ ap (take 96) (sym (bits-drop 4 ys))
    ∙ (entry-found body values n is lt).info
    ∙ ap (λ (vs : List ℕ). spell 2 (info_fields false (λ format. done)) (take 10 vs)) (drop-drop 3 (1 + 13 * n) values ∙ ap (λ (k : ℕ). drop k values) index)
