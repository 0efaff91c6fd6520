-- A walk, field by field: what a reader that has taken some fields says of the walk over all of them.
use Rattle.std.proofs.Common.{◌≡◌, ℕ, ◌-◌, ◌<◌, ◌≤◌, List, [], ◌∷◌, ◌++◌, length, take, drop, refl, sym, ap, ◌∙◌, Option, Some, None, Result, Ok, Err, append_assoc, append-nil}
use Rattle.std.proofs.lemmas.Bool.{lt-ltb, le-ltb}
use Rattle.apv_base.specs.model.Bits.{number}
use Rattle.apv_base.specs.model.Table.{Table, done, field, plain, walk, with_values}

-- the walk over a table is these values and the walk over what is left of it
abbrev pub Onward : {E : Type 0} → ℕ → Table E → List ℕ → List ℕ → Table E → List ℕ → Type 0
Onward {E} radix table xs prefix later ys = ◌≡◌ {A = Result (List ℕ × List ℕ) E} (walk radix table xs) (with_values prefix (walk radix later ys))

-- the walk fails
abbrev pub Fails : {E : Type 0} → ℕ → Table E → List ℕ → E → Type 0
Fails {E} radix table xs fault = ◌≡◌ {A = Result (List ℕ × List ℕ) E} (walk radix table xs) (Err fault)

-- the walk gives these values
abbrev pub Gives : {E : Type 0} → ℕ → Table E → List ℕ → List ℕ → List ℕ → Type 0
Gives {E} radix table xs values rest = ◌≡◌ {A = Result (List ℕ × List ℕ) E} (walk radix table xs) (Ok (values, rest))

no-values : {E : Type 0} (walked : Result (List ℕ × List ℕ) E) → with_values [] walked ≡ walked
no-values (Ok r) = refl
no-values (Err fault) = refl

more-values : {E : Type 0} (prefix more : List ℕ) (walked : Result (List ℕ × List ℕ) E) → with_values prefix (with_values more walked) ≡ with_values (prefix ++ more) walked
more-values prefix more (Ok r) = ap (λ (values : List ℕ). Ok (values, r.1)) (sym (append_assoc prefix more r.0))
more-values prefix more (Err fault) = refl

pub onward-start : {E : Type 0} (radix : ℕ) (table : Table E) (xs : List ℕ) → Onward radix table xs [] table xs
onward-start radix table xs = sym (no-values (walk radix table xs))

-- a walk goes on as another goes on
pub onward-onward : {E : Type 0} (radix : ℕ) (table : Table E) (xs prefix : List ℕ) (middle : Table E) (ys more : List ℕ) (later : Table E) (zs : List ℕ)
    → Onward radix table xs prefix middle ys → Onward radix middle ys more later zs → Onward radix table xs (prefix ++ more) later zs
onward-onward radix table xs prefix middle ys more later zs e f = e ∙ ap (with_values prefix) f ∙ more-values prefix more (walk radix later zs)

pub onward-fails : {E : Type 0} (radix : ℕ) (table : Table E) (xs prefix : List ℕ) (middle : Table E) (ys : List ℕ) (fault : E)
    → Onward radix table xs prefix middle ys → Fails radix middle ys fault → Fails radix table xs fault
onward-fails radix table xs prefix middle ys fault e f = e ∙ ap (with_values prefix) f

pub onward-gives : {E : Type 0} (radix : ℕ) (table : Table E) (xs prefix : List ℕ) (middle : Table E) (ys more rest : List ℕ)
    → Onward radix table xs prefix middle ys → Gives radix middle ys more rest → Gives radix table xs (prefix ++ more) rest
onward-gives radix table xs prefix middle ys more rest e f = e ∙ ap (with_values prefix) f

-- no field is left
pub onward-done : {E : Type 0} (radix : ℕ) (table : Table E) (xs prefix ys : List ℕ) → Onward radix table xs prefix done ys → Gives radix table xs prefix ys
unfolding walk
onward-done radix table xs prefix ys e = e ∙ ap (λ (values : List ℕ). Ok (values, ys)) (append-nil prefix)

-- ---- one field

pub field-short : {E : Type 0} (radix n : ℕ) (short : E) (check : ℕ → ℕ → Option E) (next : ℕ → Table E) (xs : List ℕ) → length xs < n → Fails radix (field n short check next) xs short
unfolding walk
field-short radix n short check next xs lt = rw (lt-ltb (length xs) n lt) refl

pub field-fault : {E : Type 0} (radix n : ℕ) (short : E) (check : ℕ → ℕ → Option E) (next : ℕ → Table E) (xs : List ℕ) (value left : ℕ) (fault : E)
    → n ≤ length xs → length xs - n ≡ left → number radix (take n xs) ≡ value → check value left ≡ Some fault → Fails radix (field n short check next) xs fault
unfolding walk
field-fault radix n short check next xs value left fault le l v e = rw (le-ltb (length xs) n le, v, l, e) refl

pub field-passes : {E : Type 0} (radix n : ℕ) (short : E) (check : ℕ → ℕ → Option E) (next : ℕ → Table E) (xs : List ℕ) (value left : ℕ) (ys : List ℕ)
    → n ≤ length xs → length xs - n ≡ left → number radix (take n xs) ≡ value → check value left ≡ None → drop n xs ≡ ys → Onward radix (field n short check next) xs (value ∷ []) (next value) ys
unfolding walk
field-passes radix n short check next xs value left ys le l v e d = rw (le-ltb (length xs) n le, v, l, e, d) refl

pub plain-passes : {E : Type 0} (radix n : ℕ) (short : E) (next : Table E) (xs prefix ys : List ℕ) → n ≤ length xs → take n xs ≡ prefix → drop n xs ≡ ys → Onward radix (plain n short next) xs prefix next ys
unfolding walk
plain-passes radix n short next xs prefix ys le f d = rw (le-ltb (length xs) n le, f, d) refl
