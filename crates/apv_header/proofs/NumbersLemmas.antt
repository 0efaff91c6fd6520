-- Numbers of a few bytes, one after another, and walks over the fields that have them.
use Rattle.std.proofs.Common.{◌≡◌, ℕ, zero, suc, ◌+◌, ◌-◌, ◌*◌, ◌≤◌, List, [], ◌∷◌, ◌++◌, length, set, get_or, replicate, take, drop, refl, sym, ap, ◌∙◌, arith, Bool, true, false, ◌&&◌, Option, Some, None, ⊎_elim, mul-zero, mul-suc, length-drop}
use Rattle.std.proofs.lemmas.Bool.{cases_Bool}
use Rattle.std.proofs.lemmas.List.{drop-drop, get_or-set_other}
use Rattle.std.proofs.lemmas.List.Sums.{sum_by-append}
use Rattle.std.specs.List.{sum, list_all}
use Rattle.apv_base.specs.model.Bits.{number}
use Rattle.apv_base.specs.model.Table.{Table, fields}
use Rattle.apv_base.proofs.PbuLemmas.{number_1}
use Rattle.apv_base.proofs.WalkLemmas.{Onward, Fails, onward-start, onward-onward, onward-fails, field-passes, field-fault}
use Rattle.apv_header.specs.Walks.{numbers}

-- ---- numbers

pub number_of_1 : (xs : List ℕ) → 1 ≤ length xs → number 256 (take 1 xs) ≡ get_or xs 0 0
number_of_1 [] le = absurd (omega arith)
number_of_1 (a ∷ rest) le = number_1 a

pub numbers-none : (n : ℕ) (xs : List ℕ) → numbers n 0 xs ≡ []
unfolding numbers
numbers-none n xs = refl

-- as many numbers as were asked for
pub length-numbers : (n count : ℕ) (xs : List ℕ) → length (numbers n count xs) ≡ count
unfolding numbers
length-numbers n zero xs = refl
length-numbers n (suc count) xs = ap suc (length-numbers n count (drop n xs))

-- a further number at the end
pub numbers-push : (n count : ℕ) (xs : List ℕ) → numbers n (suc count) xs ≡ numbers n count xs ++ number 256 (take n (drop (n * count) xs)) ∷ []
unfolding numbers
numbers-push n zero xs = rw (mul-zero n) refl
numbers-push n (suc count) xs =
    let e : n + n * count ≡ n * suc count = sym (mul-suc n count ∙ omega arith) in
    let d : drop (n * count) (drop n xs) ≡ drop (n * suc count) xs = drop-drop (n * count) n xs ∙ ap (λ (i : ℕ). drop i xs) e in
    ap (λ (ys : List ℕ). number 256 (take n xs) ∷ ys) (numbers-push n count (drop n xs) ∙ ap (λ (ys : List ℕ). numbers n count (drop n xs) ++ number 256 (take n ys) ∷ []) d)

pub sum-push : (xs : List ℕ) (x : ℕ) → sum (xs ++ x ∷ []) ≡ sum xs + x
sum-push xs x = omega (arith, sum_by-append (λ (y : ℕ). y) xs (x ∷ []))

-- ---- lists of one value

pub zeros : (n k value : ℕ) → get_or (replicate n value) k value ≡ value
zeros zero k value = refl
zeros (suc n) zero value = refl
zeros (suc n) (suc k) value = zeros n k value

-- after another value before them
pub zero-after : (values : List ℕ) (i value : ℕ) → ((k : ℕ) → i ≤ k → get_or values k 0 ≡ 0) → (k : ℕ) → i + 1 ≤ k → get_or (set values i value) k 0 ≡ 0
zero-after values i value others k le = get_or-set_other values i k value 0 (λ e. omega arith) ∙ others k (omega arith)

-- ---- fields whose values are free

pub free-fields : {E : Type 0} (count n : ℕ) (short : E) (check : ℕ → ℕ → Option E) (next : List ℕ → Table E) (xs : List ℕ) → n * count ≤ length xs → ((value left : ℕ) → check value left ≡ None)
    → Onward 256 (fields count n short check next) xs (numbers n count xs) (next (numbers n count xs)) (drop (n * count) xs)
unfolding fields numbers
free-fields zero n short check next xs le free = rw (mul-zero n) (onward-start 256 (next []) xs)
free-fields {E} (suc count) n short check next xs le free =
    let value : ℕ = number 256 (take n xs) in
    let after : List ℕ → Table E = λ (values : List ℕ). next (value ∷ values) in
    let e : n + n * count ≡ n * suc count = sym (mul-suc n count ∙ omega arith) in
    let d : drop (n * count) (drop n xs) ≡ drop (n * suc count) xs = drop-drop (n * count) n xs ∙ ap (λ (i : ℕ). drop i xs) e in
    let first = field-passes 256 n short check (λ (v : ℕ). fields count n short check (λ values. next (v ∷ values))) xs value (length xs - n) (drop n xs) (omega arith) refl refl (free value (length xs - n)) refl in
    let rest : Onward 256 (fields count n short check after) (drop n xs) (numbers n count (drop n xs)) (after (numbers n count (drop n xs))) (drop (n * suc count) xs) =
    rw (← d) (free-fields count n short check after (drop n xs) (omega (arith, length-drop n xs)) free) in
    onward-onward 256 (fields (suc count) n short check next) xs (value ∷ []) (fields count n short check after) (drop n xs) (numbers n count (drop n xs)) (after (numbers n count (drop n xs))) (drop (n * suc count) xs) first rest

-- ---- bytes that are tested

-- each byte passes
pub tested-fields : {E : Type 0} (count : ℕ) (short : E) (check : ℕ → ℕ → Option E) (next : List ℕ → Table E) (xs : List ℕ) (p : ℕ → Bool) → count ≤ length xs → list_all p (take count xs) ≡ true
    → ((value left : ℕ) → p value ≡ true → check value left ≡ None) → Onward 256 (fields count 1 short check next) xs (take count xs) (next (take count xs)) (drop count xs)
unfolding fields
tested-fields zero short check next xs p le all passes = onward-start 256 (next []) xs
tested-fields (suc count) short check next [] p le all passes = absurd (omega arith)
tested-fields {E} (suc count) short check next (x ∷ xs) p le all passes =
    let after : List ℕ → Table E = λ (values : List ℕ). next (x ∷ values) in
    let both = both-true (p x) (list_all p (take count xs)) all in
    let first = field-passes 256 1 short check (λ (v : ℕ). fields count 1 short check (λ values. next (v ∷ values))) (x ∷ xs) x (length xs) xs (omega arith) (omega arith) (number_1 x) (passes x (length xs) both.0) refl in
    let rest = tested-fields count short check after xs p (omega arith) both.1 passes in
    onward-onward 256 (fields (suc count) 1 short check next) (x ∷ xs) (x ∷ []) (fields count 1 short check after) xs (take count xs) (after (take count xs)) (drop count xs) first rest
  where
    both-true : (a b : Bool) → (a && b) ≡ true → (a ≡ true) × (b ≡ true)
    both-true true b e = (refl, e)
    both-true false b e = absurd (let no : ⊥ = cc in no)

-- some byte doesn't, and the first that doesn't is at fault
pub fault-fields : {E : Type 0} (count : ℕ) (short : E) (check : ℕ → ℕ → Option E) (next : List ℕ → Table E) (xs : List ℕ) (p : ℕ → Bool) (fault : E) → count ≤ length xs → list_all p (take count xs) ≡ false
    → ((value left : ℕ) → p value ≡ true → check value left ≡ None) → ((value left : ℕ) → p value ≡ false → check value left ≡ Some fault) → Fails 256 (fields count 1 short check next) xs fault
unfolding fields
fault-fields zero short check next xs p fault le some passes stops = absurd (let no : ⊥ = cc in no)
fault-fields (suc count) short check next [] p fault le some passes stops = absurd (omega arith)
fault-fields {E} (suc count) short check next (x ∷ xs) p fault le some passes stops =
    let after : List ℕ → Table E = λ (values : List ℕ). next (x ∷ values) in
    let table : ℕ → Table E = λ (v : ℕ). fields count 1 short check (λ values. next (v ∷ values)) in
    ⊎_elim
    (λ (t : p x ≡ true).
    let first = field-passes 256 1 short check table (x ∷ xs) x (length xs) xs (omega arith) (omega arith) (number_1 x) (passes x (length xs) t) refl in
    let rest = fault-fields count short check after xs p fault (omega arith) (later (p x) (list_all p (take count xs)) t some) passes stops in
    onward-fails 256 (fields (suc count) 1 short check next) (x ∷ xs) (x ∷ []) (fields count 1 short check after) xs fault first rest)
    (λ (f : p x ≡ false). field-fault 256 1 short check table (x ∷ xs) x (length xs) fault (omega arith) (omega arith) (number_1 x) (stops x (length xs) f))
    (cases_Bool (p x))
  where
    later : (a b : Bool) → a ≡ true → (a && b) ≡ false → b ≡ false
    later true b t e = e
    later false b t e = absurd (let no : ⊥ = cc in no)
