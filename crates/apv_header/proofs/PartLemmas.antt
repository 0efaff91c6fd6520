-- The parts of a frame's header after frame_info().
use Rattle.std.proofs.Common.{⊎_elim, ◌≡◌, ◌≢◌, ℕ, zero, suc, ◌+◌, ◌-◌, ◌*◌, ◌%◌, ◌<◌, ◌≤◌, List, [], ◌∷◌, ◌++◌, length, take, set, get_or, replicate, refl, sym, ap, ◌∙◌, subst, Some, None, Bool, append-nil, arith}
use Rattle.std.specs.Prelude.{Contains}
use Rattle.std.specs.List.{concat}
use Rattle.std.proofs.lemmas.Bool.{ne_eqb}
use Rattle.std.proofs.lemmas.List.{take_more_set, get_or-set_other, get_or-set_same}
use Rattle.std.proofs.lemmas.Bool.{cases_eq}
use Rattle.std.proofs.lemmas.List.Folds.{concat-append}
use Rattle.apv_base.specs.declared.rules.HeadEnd.{HeadEnd}
use Rattle.apv_base.specs.declared.rules.HeadEnd.TheVariants.{Rule as breaks}
use Rattle.apv_base.specs.declared.rules.Rule.TheVariants.{V8, V15, V19}
use Rattle.apv_base.specs.model.Bits.{number, padding}
use Rattle.apv_base.specs.model.Header.{check_matrix_value, flag}
use Rattle.apv_base.specs.model.Table.{Table, no_check, must_be_zero}
use Rattle.apv_base.proofs.DigitsLemmas.{power_above, number-cons}
use Rattle.apv_base.proofs.BitsLemmas.{bin-zeros}
use Rattle.apv_base.proofs.WalkLemmas.{field-fault}
use Rattle.apv_bits.specs.Reader.{Unread, Takes}
use Rattle.apv_header.specs.Fields.{ReadsNumber, WalksBits, BitsBreak}
use Rattle.apv_header.specs.Parts.{matrix_value_fields, tile_size_fields, zero_fields}
use Rattle.apv_header.proofs.FieldLemmas.{fields-none, must_be_zero-fault}

-- a flag that is known
pub flag-read : {old new : Unread} {set known : Bool} → ReadsNumber 1 old (flag set) new → set ≡ known → ReadsNumber 1 old (flag known) new
flag-read {old} {new} {set} {known} reads e = subst (λ (b : Bool). ReadsNumber 1 old (flag b) new) e reads

-- ---- the alignment bits

pub aligned-reads : (n : ℕ) (old new : Unread) → Takes old new (replicate n 0) → ReadsNumber n old 0 new
aligned-reads n old new takes = record { small = power_above 2 n (omega arith); taken = rw (bin-zeros n) takes }

-- a number with a 1 among its digits isn't 0
number-one : (ds : List ℕ) → Contains ds 1 → 0 < number 2 ds
number-one [] (k, lt, e) = absurd (omega arith)
number-one (d ∷ ds) (zero, lt, e) = rw (number-cons 2 d ds) (let p = power_above 2 (length ds) (omega arith) in rw e (omega arith))
number-one (d ∷ ds) (suc k, lt, e) = let p = number-one ds (k, omega arith, e) in rw (number-cons 2 d ds) (omega arith)

pub aligned-breaks : (n : ℕ) (old : Unread) (next : Table HeadEnd) → n ≤ length old.left → Contains (take n old.left) 1 → BitsBreak (zero_fields n next) old (breaks V19)
aligned-breaks n old next long one =
    let some = number-one (take n old.left) one in
    record {
      fails = field-fault 2 n (breaks V8) (must_be_zero (breaks V19)) (λ zero. next) old.left (number 2 (take n old.left)) (length old.left - n) (breaks V19)
          long refl refl (must_be_zero-fault (breaks V19) (number 2 (take n old.left)) (λ e. omega arith) (length old.left - n));
    }

pub padding-fits : (left place : ℕ) → (left + place) % 8 ≡ 0 → padding place ≤ left
padding-fits left place whole = omega arith

-- ---- matrices

pub matrix_value-passes : (value : ℕ) → value ≢ 0 → (left : ℕ) → check_matrix_value value left ≡ None
matrix_value-passes value ne left = rw (ne_eqb value 0 ne) refl

pub matrix_value-fault : (value : ℕ) → value ≡ 0 → (left : ℕ) → check_matrix_value value left ≡ Some (breaks V15)
matrix_value-fault value e left = rw e refl

-- the matrices with one more
pub concat-set : (matrices : List (List ℕ)) (comp : ℕ) (matrix : List ℕ) → comp < length matrices
    → concat (take comp matrices) ++ matrix ≡ concat (take (comp + 1) (set matrices comp matrix))
concat-set matrices comp matrix lt =
    sym (ap concat (take_more_set matrices comp matrix lt) ∙ concat-append (take comp matrices) (matrix ∷ []) ∙ ap (λ (vs : List ℕ). concat (take comp matrices) ++ vs) (append-nil matrix))

-- what is known of the values so far, and of one more
pub set-more : (P : ℕ → Type 0) (values : List ℕ) (place value : ℕ) → place < length values → P value → ((k : ℕ) → k < place → P (get_or values k 0))
    → (k : ℕ) → k < place + 1 → P (get_or (set values place value) k 0)
set-more P values place value lt holds before k near =
    ⊎_elim
    (λ (same : k ≡ place). rw (same, get_or-set_same values place value 0 lt) holds)
    (λ (other : k ≢ place). rw (get_or-set_other values place k value 0 other) (before k (omega arith)))
    (cases_eq k place)

-- no field is left
pub none-left : (n : ℕ) (next : Table HeadEnd) → n ≡ 0 → matrix_value_fields n next ≡ next
none-left n next e = ap (λ (k : ℕ). matrix_value_fields k next) e ∙ fields-none 8 (breaks V8) check_matrix_value next

pub no-size-left : (n : ℕ) (next : Table HeadEnd) → n ≡ 0 → tile_size_fields n next ≡ next
no-size-left n next e = ap (λ (k : ℕ). tile_size_fields k next) e ∙ fields-none 32 (breaks V8) no_check next

-- the matrices of n components, by another name of the number
pub comps-breaks : {old : Unread} {end : HeadEnd} (n m : ℕ) (next : Table HeadEnd) → n ≡ m → BitsBreak (matrix_value_fields (64 * n) next) old end → BitsBreak (matrix_value_fields (64 * m) next) old end
comps-breaks {old} {end} n m next e refuses = subst (λ (k : ℕ). BitsBreak (matrix_value_fields (64 * k) next) old end) e refuses

pub comps-walks : {old new : Unread} (n m : ℕ) (matrices : List (List ℕ)) (next : Table HeadEnd) → n ≡ m
    → WalksBits (matrix_value_fields (64 * n) next) old (512 * n) (concat (take n matrices)) next new → WalksBits (matrix_value_fields (64 * m) next) old (512 * m) (concat (take m matrices)) next new
comps-walks {old} {new} n m matrices next e all = subst (λ (k : ℕ). WalksBits (matrix_value_fields (64 * k) next) old (512 * k) (concat (take k matrices)) next new) e all
