-- Values that fit their fields pass a table, and how long they are spelled.
use Rattle.std.proofs.Common.{◌≡◌, ℕ, zero, suc, ◌+◌, ◌*◌, ◌^◌, ◌<◌, List, [], ◌∷◌, ◌++◌, length, get_or, drop, refl, ap, ◌∙◌, arith, Option, None, length-append}
use Rattle.std.specs.List.{AllByRecursion}
use Rattle.std.proofs.Math.Nat.{mul-suc}
use Rattle.apv_base.proofs.DigitsLemmas.{digits-append, digits-small}
use Rattle.apv_base.specs.model.Bits.{digits, AreDigits}
use Rattle.apv_base.specs.model.Table.{Table, done, field, plain, coded, head, spell, fields}
use Rattle.apv_base.specs.laws.Table.{Passes}
use Rattle.apv_base.proofs.DigitsLemmas.{length-digits}

-- a value that fits a field of n digits, in which the check finds no fault, whatever follows
pub record FitsField {E : Type 0} (r n : ℕ) (check : ℕ → ℕ → Option E) (value : ℕ) : Type 0 where
  pub below : value < r ^ n
  pub checked : (left : ℕ) → check value left ≡ None

pub pass-field : {E : Type 0} (r n : ℕ) (short : E) (check : ℕ → ℕ → Option E) (next : ℕ → Table E) (value : ℕ) (later : List ℕ) (left : ℕ) → FitsField r n check value → Passes r (next value) later left
    → Passes r (field n short check next) (value ∷ later) left
pass-field r n short check next value later left fits p = (refl, fits.below, fits.checked (length (spell r (next value) later) + left), p)

pub length-field : {E : Type 0} (r n : ℕ) (short : E) (check : ℕ → ℕ → Option E) (next : ℕ → Table E) (value : ℕ) (later : List ℕ) → length (spell r (field n short check next) (value ∷ later)) ≡ n + length (spell r (next value) later)
unfolding spell
length-field r n short check next value later = length-append (digits r n value) (spell r (next value) later) ∙ ap (λ (k : ℕ). k + length (spell r (next value) later)) (length-digits r n value)

pub pass-fields : {E : Type 0} (r count n : ℕ) (short : E) (check : ℕ → ℕ → Option E) (next : List ℕ → Table E) (items later : List ℕ) (left : ℕ) → length items ≡ count → AllByRecursion (FitsField r n check) items → Passes r (next items) later left
    → Passes r (fields count n short check next) (items ++ later) left
unfolding fields
pass-fields r zero n short check next [] later left len all p = p
pass-fields r zero n short check next (x ∷ items) later left len all p = absurd (omega arith)
pass-fields r (suc count) n short check next [] later left len all p = absurd (omega arith)
pass-fields r (suc count) n short check next (x ∷ items) later left len all p =
    pass-field r n short check (λ value. fields count n short check (λ values. next (value ∷ values))) x (items ++ later) left all.0 (pass-fields r count n short check (λ values. next (x ∷ values)) items later left (omega arith) all.1 p)

one-more : (n count k : ℕ) → n + (n * count + k) ≡ n * suc count + k
one-more n count k = omega (arith, mul-suc n count)

pub length-fields : {E : Type 0} (r count n : ℕ) (short : E) (check : ℕ → ℕ → Option E) (next : List ℕ → Table E) (items later : List ℕ) → length items ≡ count
    → length (spell r (fields count n short check next) (items ++ later)) ≡ n * count + length (spell r (next items) later)
unfolding fields
length-fields r zero n short check next [] later len = omega arith
length-fields r zero n short check next (x ∷ items) later len = absurd (omega arith)
length-fields r (suc count) n short check next [] later len = absurd (omega arith)
length-fields r (suc count) n short check next (x ∷ items) later len =
    length-field r n short check (λ value. fields count n short check (λ values. next (value ∷ values))) x (items ++ later)
    ∙ ap (λ (k : ℕ). n + k) (length-fields r count n short check (λ values. next (x ∷ values)) items later (omega arith)) ∙ one-more n count (length (spell r (next (x ∷ items)) later))

-- each item of a list that fits at each place
pub all-from : {A : Type 0} (P : A → Type 0) (d : A) (xs : List A) → ((i : ℕ) → i < length xs → P (get_or xs i d)) → AllByRecursion P xs
all-from P d [] each = tt
all-from P d (x ∷ xs) each = (each 0 (omega arith), all-from P d xs (λ i lt. each (suc i) (omega arith)))

pub all-more : {A : Type 0} (P Q : A → Type 0) (xs : List A) → ((a : A) → P a → Q a) → AllByRecursion P xs → AllByRecursion Q xs
all-more P Q [] more all = tt
all-more P Q (x ∷ xs) more all = (more x all.0, all-more P Q xs more all.1)

-- ---- digits

-- along these values the table has numbers alone
abbrev pub HasNumbersAlone : {E : Type 0} → Table E → List ℕ → Type 0
HasNumbersAlone done values = Unit {0}
HasNumbersAlone (field n short check next) values = HasNumbersAlone (next (head values)) (drop 1 values)
HasNumbersAlone (coded short next) values = ⊥
HasNumbersAlone (plain n short next) values = ⊥

pub numbers-in-fields : {E : Type 0} (count n : ℕ) (short : E) (check : ℕ → ℕ → Option E) (next : List ℕ → Table E) (items later : List ℕ) → length items ≡ count → HasNumbersAlone (next items) later
    → HasNumbersAlone (fields count n short check next) (items ++ later)
unfolding fields
numbers-in-fields zero n short check next [] later len p = p
numbers-in-fields zero n short check next (x ∷ items) later len p = absurd (omega arith)
numbers-in-fields (suc count) n short check next [] later len p = absurd (omega arith)
numbers-in-fields (suc count) n short check next (x ∷ items) later len p = numbers-in-fields count n short check (λ values. next (x ∷ values)) items later (omega arith) p

-- numbers are spelled by digits
pub digits-spelled : {E : Type 0} (r : ℕ) (table : Table E) (values : List ℕ) → 0 < r → HasNumbersAlone table values → AreDigits r (spell r table values)
unfolding spell
digits-spelled r done values lt alone i = lt
digits-spelled r (field n short check next) values lt alone i =
    digits-append r (digits r n (head values)) (spell r (next (head values)) (drop 1 values)) (digits-small r n (head values) lt) (digits-spelled r (next (head values)) (drop 1 values) lt alone) i
digits-spelled r (coded short next) values lt alone i = absurd alone
digits-spelled r (plain n short next) values lt alone i = absurd alone
