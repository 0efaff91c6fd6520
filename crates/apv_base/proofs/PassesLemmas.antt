-- What a walk takes passes the table, and what passes a field, or fields one after another, is their values and others.
use Rattle.std.proofs.Common.{◌≡◌, ℕ, zero, suc, ◌+◌, ◌-◌, ◌^◌, ◌<◌, ◌≤◌, List, [], ◌∷◌, ◌++◌, length, take, drop, refl, sym, ap, ◌∙◌, subst, arith, Option, None, Ok, nat_lt, inl, inr, length-append, length-drop}
use Rattle.std.specs.List.{AllByRecursion}
use Rattle.std.proofs.lemmas.List.{length-take-le, drop_at}
use Rattle.std.proofs.lemmas.Bool.{ltb-false}
use Rattle.apv_base.specs.model.Bits.{number, AreDigits}
use Rattle.apv_base.specs.model.Table.{Table, done, field, coded, plain, spell, walk, coded_at, with_values, fields}
use Rattle.apv_base.specs.laws.Table.{Passes, WalkInvertsSpell}
use Rattle.apv_base.proofs.DigitsLemmas.{digits-drop, digits-take, number_below}
use Rattle.apv_base.proofs.TableLemmas.{chosen, pair_of-Ok, unless_fault-Ok, with_values-Ok, where_read-Ok, coded_at-Some, walked-spelled, spelled-walked}

-- ---- what a walk takes

-- one value, and those after it
passes-field : {E : Type 0} (r n : ℕ) (short : E) (check : ℕ → ℕ → Option E) (next : ℕ → Table E) (values : List ℕ) (left value : ℕ) (later : List ℕ) → values ≡ value ∷ later → value < r ^ n
    → check value (length (spell r (next value) later) + left) ≡ None → Passes r (next value) later left → Passes r (field n short check next) values left
passes-field {E} r n short check next values left value later e below checked p =
    subst (λ (vs : List ℕ). Passes r (field n short check next) vs left) (sym e) (refl, below, checked, p)

passes-coded : {E : Type 0} (r : ℕ) (short : E) (next : ℕ → Table E) (values : List ℕ) (left value : ℕ) (later : List ℕ) → values ≡ value ∷ later → Passes r (next value) later left → Passes r (coded short next) values left
passes-coded {E} r short next values left value later e p = subst (λ (vs : List ℕ). Passes r (coded short next) vs left) (sym e) (refl, p)

passes-plain : {E : Type 0} (r n : ℕ) (short : E) (next : Table E) (values : List ℕ) (left : ℕ) (prefix later : List ℕ) → values ≡ prefix ++ later → length prefix ≡ n → Passes r next later left
    → Passes r (plain n short next) values left
passes-plain {E} r n short next values left prefix later e len p =
    (omega (arith, ap (length {A = ℕ}) e, length-append prefix later, len), subst (λ (vs : List ℕ). Passes r next vs left) (sym (ap (drop n) e ∙ drop_at prefix later n len)) p)

-- the digits after n, which are those of a table and the rest
left-over : (xs spelled rest : List ℕ) (n : ℕ) → drop n xs ≡ spelled ++ rest → length xs - n ≡ length spelled + length rest
left-over xs spelled rest n e = omega (arith, length-drop n xs, ap (length {A = ℕ}) e, length-append spelled rest)

value-below : (r n : ℕ) (xs : List ℕ) → 0 < r → n ≤ length xs → AreDigits r xs → number r (take n xs) < r ^ n
value-below r n xs lt le h =
    subst (λ (k : ℕ). number r (take n xs) < r ^ k) (length-take-le n xs le) (number_below r (take n xs) (digits-take r n xs lt h))

-- what a walk takes passes the table
pub walked-passes : {E : Type 0} (r : ℕ) (table : Table E) (xs values rest : List ℕ) → 0 < r → r ≤ 256 → AreDigits r xs → walk r table xs ≡ Ok (values, rest) → Passes r table values (length rest)
unfolding walk
walked-passes r done xs values rest lt le h e = sym (pair_of-Ok e).0
walked-passes {E} r (field n short check next) xs values rest lt le h e = elim (chosen (nat_lt (length xs) n) _ _ _ e) [
  | inl t ↦ absurd (let no : ⊥ = cc (t.1) in no)
  | inr t ↦ (let value : ℕ = number r (take n xs) in
      let sound = unless_fault-Ok (check value (length xs - n)) (with_values (value ∷ []) (walk r (next value) (drop n xs))) (values, rest) t.1 in
      let b = with_values-Ok (value ∷ []) (walk r (next value) (drop n xs)) values rest sound.1 in
      let spelled = walked-spelled r (next value) (drop n xs) b.later rest lt le (digits-drop r n xs h) b.is in
      let left : length xs - n ≡ length (spell r (next value) b.later) + length rest = left-over xs (spell r (next value) b.later) rest n spelled in
      let ih = walked-passes r (next value) (drop n xs) b.later rest lt le (digits-drop r n xs h) b.is in
      passes-field r n short check next values (length rest) value b.later b.all (value-below r n xs lt (ltb-false (length xs) n t.0) h) (subst (λ (k : ℕ). check value k ≡ None) left sound.0) ih)
]
walked-passes r (coded short next) xs values rest lt le h e =
    let found = where_read-Ok short (coded_at xs) (λ value after. with_values (value ∷ []) (walk r (next value) after)) (values, rest) e in
    let b = with_values-Ok (found.0 ∷ []) (walk r (next found.0) found.1) values rest found.3 in
    let prefix = coded_at-Some r xs found.0 found.1 le h found.2 in
    passes-coded r short next values (length rest) found.0 b.later b.all (walked-passes r (next found.0) found.1 b.later rest lt le prefix.1 b.is)
walked-passes r (plain n short next) xs values rest lt le h e = elim (chosen (nat_lt (length xs) n) _ _ _ e) [
  | inl t ↦ absurd (let no : ⊥ = cc (t.1) in no)
  | inr t ↦ (let b = with_values-Ok (take n xs) (walk r next (drop n xs)) values rest t.1 in
      let ih = walked-passes r next (drop n xs) b.later rest lt le (digits-drop r n xs h) b.is in
      passes-plain r n short next values (length rest) (take n xs) b.later b.all (length-take-le n xs (ltb-false (length xs) n t.0)) ih)
]

-- to walk a table inverts to spell it
pub walk_inverts_spell : {E : Type 0} (r : ℕ) (table : Table E) → 0 < r → r ≤ 256 → WalkInvertsSpell r table
walk_inverts_spell r table lt le = record {
  spelled = λ values x. spelled-walked r table values x lt;
  walked = λ xs values rest. walked-spelled r table xs values rest lt le;
  passes = λ xs values rest. walked-passes r table xs values rest lt le;
}

-- ---- what passes

-- the value of a field, and those after it
pub record FieldIs {E : Type 0} (r n : ℕ) (check : ℕ → ℕ → Option E) (next : ℕ → Table E) (values : List ℕ) (left : ℕ) : Type 0 where
  pub value : ℕ
  pub later : List ℕ
  pub all : values ≡ value ∷ later
  pub below : value < r ^ n
  pub after : ℕ
  pub checked : check value after ≡ None
  pub passes : Passes r (next value) later left

pub field-is : {E : Type 0} (r n : ℕ) (short : E) (check : ℕ → ℕ → Option E) (next : ℕ → Table E) (values : List ℕ) (left : ℕ) → Passes r (field n short check next) values left → FieldIs r n check next values left
field-is r n short check next [] left p = absurd (let e : ◌≡◌ {A = List ℕ} [] (0 ∷ []) = p.0 in let no : ⊥ = cc in no)
field-is r n short check next (value ∷ later) left p = record {
  value = value;
  later = later;
  all = refl;
  below = p.1;
  after = length (spell r (next value) later) + left;
  checked = p.2;
  passes = p.3;
}

-- a value that fits its field, in which the check finds no fault
pub record IsGood {E : Type 0} (r n : ℕ) (check : ℕ → ℕ → Option E) (value : ℕ) : Type 0 where
  pub below : value < r ^ n
  pub after : ℕ
  pub checked : check value after ≡ None

-- the values of fields, and those after them
pub record FieldsAre {E : Type 0} (r n : ℕ) (check : ℕ → ℕ → Option E) (next : List ℕ → Table E) (count : ℕ) (values : List ℕ) (left : ℕ) : Type 0 where
  pub items : List ℕ
  pub later : List ℕ
  pub all : values ≡ items ++ later
  pub long : length items ≡ count
  pub each : AllByRecursion (IsGood r n check) items
  pub passes : Passes r (next items) later left

pub fields-are : {E : Type 0} (r count n : ℕ) (short : E) (check : ℕ → ℕ → Option E) (next : List ℕ → Table E) (values : List ℕ) (left : ℕ) → Passes r (fields count n short check next) values left
    → FieldsAre r n check next count values left
unfolding fields
fields-are r zero n short check next values left p = record { items = []; later = values; all = refl; long = refl; each = tt; passes = p }
fields-are r (suc count) n short check next values left p =
    let f = field-is r n short check (λ value. fields count n short check (λ items. next (value ∷ items))) values left p in
    let more = fields-are r count n short check (λ items. next (f.value ∷ items)) f.later left f.passes in
    record {
      items = f.value ∷ more.items;
      later = more.later;
      all = f.all ∙ ap (λ (xs : List ℕ). f.value ∷ xs) more.all;
      long = ap suc more.long;
      each = (record { below = f.below; after = f.after; checked = f.checked }, more.each);
      passes = more.passes;
    }
