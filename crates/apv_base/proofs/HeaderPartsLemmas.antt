-- Values that pass the parts of a frame's header after frame_info() are those of a sound header.
use Rattle.std.proofs.Common.{◌≡◌, ℕ, zero, suc, ◌-◌, ◌*◌, ◌^◌, ◌<◌, ◌≤◌, List, [], ◌∷◌, ◌++◌, length, get_or, take, drop, replicate, refl, sym, ap, ap₂, ◌∙◌, arith, Option, Some, None, Bool, true, false, cond, nat_eq, ◌⊎◌, inl, inr, length-append, length-drop, IfSome}
use Rattle.std.specs.List.{AllByRecursion, concat}
use Rattle.std.specs.Prelude.{if◌then◌else◌, ◌==◌}
use Rattle.std.proofs.lemmas.Bool.{cases_eq, eq-eqb, ne_eqb, eqb-true, eqb-false}
use Rattle.std.proofs.lemmas.List.{length-take-le, take-append-drop, take_at, get_or-append_right, get_or-replicate, get_or-take, length-replicate}
use Rattle.apv_base.specs.declared.rules.Rule.TheVariants.{V8}
use Rattle.apv_base.specs.declared.rules.HeadEnd.{HeadEnd}
use Rattle.apv_base.specs.declared.rules.HeadEnd.TheVariants.{Rule as breaks}
use Rattle.apv_base.specs.declared.format.Colour.{Colour}
use Rattle.apv_base.specs.model.Header.{check_matrix_value, free, colour_fields, matrix_fields, size_fields, flag, colour_values, matrix_values, size_values, IsSoundColour, flat}
use Rattle.apv_base.specs.model.Quant.{IsMatrix}
use Rattle.apv_base.specs.model.Table.{Table, fields, no_check}
use Rattle.apv_base.specs.laws.Table.{Passes}
use Rattle.apv_base.proofs.HeaderLemmas.{flat-is-matrix}
use Rattle.apv_base.proofs.PassesLemmas.{field-is, fields-are, IsGood}
use Rattle.apv_base.proofs.TableLemmas.{chosen}

-- ---- lists

pub all-at : {A : Type 0} (P : A → Type 0) (d : A) (xs : List A) (i : ℕ) → AllByRecursion P xs → i < length xs → P (get_or xs i d)
all-at P d [] i all lt = absurd (omega arith)
all-at P d (x ∷ xs) zero all lt = all.0
all-at P d (x ∷ xs) (suc i) all lt = all-at P d xs i all.1 (omega arith)

pub all-drop : {A : Type 0} (P : A → Type 0) (n : ℕ) (xs : List A) → AllByRecursion P xs → AllByRecursion P (drop n xs)
all-drop P zero xs all = all
all-drop P (suc n) [] all = tt
all-drop P (suc n) (x ∷ xs) all = all-drop P n xs all.1

pub all-append : {A : Type 0} (P : A → Type 0) (xs ys : List A) → AllByRecursion P xs → AllByRecursion P ys → AllByRecursion P (xs ++ ys)
all-append P [] ys all more = more
all-append P (x ∷ xs) ys all more = (all.0, all-append P xs ys all.1 more)

pub all-replicate : {A : Type 0} (P : A → Type 0) (a : A) (n : ℕ) → P a → AllByRecursion P (replicate n a)
all-replicate P a zero p = tt
all-replicate P a (suc n) p = (p, all-replicate P a n p)

-- what holds of the chosen one
pub chosen-one : {A : Type 0} (P : A → Type 0) (b : Bool) (x y : A) → P (cond b x y) → ((b ≡ true) × P x) ⊎ ((b ≡ false) × P y)
chosen-one P true x y p = inl (refl, p)
chosen-one P false x y p = inr (refl, p)

-- a bit that isn't 1
bit-zero : (bit : ℕ) → bit < 2 ^ 1 → nat_eq bit 1 ≡ false → bit ≡ 0
bit-zero bit lt e = omega (arith, lt, eqb-false bit 1 e)

-- ---- the colour description

-- a bit as a flag
bit-flag : (bit : ℕ) → bit < 2 ^ 1 → bit ≡ flag (nat_eq bit 1)
bit-flag bit lt = elim (cases_eq bit 1) [
  | inl e ↦ e ∙ ap flag (sym (eq-eqb bit 1 e))
  | inr ne ↦ (let zero_is : bit ≡ 0 = omega (arith, lt, ne) in zero_is ∙ ap flag (sym (ne_eqb bit 1 ne)))
]

-- a colour description that is sound, or none, and the values after it
pub record ColourIs (next : ℕ → Table HeadEnd) (values : List ℕ) (left : ℕ) : Type 0 where
  pub colour : Option Colour
  pub sound : IfSome colour IsSoundColour
  pub later : List ℕ
  pub all : values ≡ colour_values colour ++ later
  pub present : ℕ
  pub passes : Passes 2 (next present) later left

-- what follows each field of the colour description
abbrev full_range_next : (ℕ → Table HeadEnd) → ℕ → ℕ → Table HeadEnd
full_range_next next present full_range = next present

abbrev matrix_next : (ℕ → Table HeadEnd) → ℕ → ℕ → Table HeadEnd
matrix_next next present matrix = free 1 (full_range_next next present)

abbrev transfer_next : (ℕ → Table HeadEnd) → ℕ → ℕ → Table HeadEnd
transfer_next next present transfer = free 8 (matrix_next next present)

abbrev primaries_next : (ℕ → Table HeadEnd) → ℕ → ℕ → Table HeadEnd
primaries_next next present primaries = free 8 (transfer_next next present)

abbrev description : (ℕ → Table HeadEnd) → ℕ → Table HeadEnd
description next present = free 8 (primaries_next next present)

abbrev present_next : (ℕ → Table HeadEnd) → ℕ → Table HeadEnd
present_next next present = if present == 1 then description next present else next present

five : (v v1 v2 v3 v4 v5 : List ℕ) (a b c d e : ℕ) → v ≡ a ∷ v1 → v1 ≡ b ∷ v2 → v2 ≡ c ∷ v3 → v3 ≡ d ∷ v4 → v4 ≡ e ∷ v5 → v ≡ a ∷ b ∷ c ∷ d ∷ e ∷ v5
five v v1 v2 v3 v4 v5 a b c d e e1 e2 e3 e4 e5 = cc

colour-described : (next : ℕ → Table HeadEnd) (values later : List ℕ) (left present : ℕ) → values ≡ present ∷ later → present ≡ 1 → Passes 2 (description next present) later left → ColourIs next values left
colour-described next values later left present e one p =
    let primaries = field-is 2 8 (breaks V8) no_check (primaries_next next present) later left p in
    let transfer = field-is 2 8 (breaks V8) no_check (transfer_next next present) primaries.later left primaries.passes in
    let matrix = field-is 2 8 (breaks V8) no_check (matrix_next next present) transfer.later left transfer.passes in
    let full = field-is 2 1 (breaks V8) no_check (full_range_next next present) matrix.later left matrix.passes in
    let all = five values later primaries.later transfer.later matrix.later full.later present primaries.value transfer.value matrix.value full.value e primaries.all transfer.all matrix.all full.all in
    let bit = bit-flag full.value full.below in
    record {
      colour = Some (record { primaries = primaries.value; transfer = transfer.value; matrix = matrix.value; full_range = nat_eq full.value 1 });
      sound = record { primaries = primaries.below; transfer = transfer.below; matrix = matrix.below };
      later = full.later;
      all = all ∙ ap₂ (λ (a b : ℕ). a ∷ primaries.value ∷ transfer.value ∷ matrix.value ∷ b ∷ full.later) one bit;
      present = present;
      passes = full.passes;
    }

-- values that pass the fields of the colour description are those of one, or of none, and others
pub colour-is : (next : ℕ → Table HeadEnd) (values : List ℕ) (left : ℕ) → Passes 2 (colour_fields next) values left → ColourIs next values left
colour-is next values left p =
    let f = field-is 2 1 (breaks V8) no_check (present_next next) values left p in
    elim (chosen-one (λ (t : Table HeadEnd). Passes 2 t f.later left) (nat_eq f.value 1) (description next f.value) (next f.value) f.passes) [
      | inl t ↦ colour-described next values f.later left f.value f.all (eqb-true f.value 1 t.0) t.1
      | inr t ↦ record {
        colour = None;
        sound = tt;
        later = f.later;
        all = f.all ∙ ap (λ (a : ℕ). a ∷ f.later) (bit-zero f.value f.below t.0);
        present = f.value;
        passes = t.1;
      }
    ]

-- ---- the matrices

-- n matrices of 64 values each
chunks : ℕ → List ℕ → List (List ℕ)
chunks zero items = []
chunks (suc n) items = take 64 items ∷ chunks n (drop 64 items)

length-chunks : (n : ℕ) (items : List ℕ) → length (chunks n items) ≡ n
unfolding chunks
length-chunks zero items = refl
length-chunks (suc n) items = ap suc (length-chunks n (drop 64 items))

concat-chunks : (n : ℕ) (items : List ℕ) → length items ≡ 64 * n → concat (chunks n items) ≡ items
unfolding chunks
concat-chunks zero [] len = refl
concat-chunks zero (x ∷ items) len = absurd (omega arith)
concat-chunks (suc n) items len =
    ap (λ (xs : List ℕ). take 64 items ++ xs) (concat-chunks n (drop 64 items) (omega (arith, len, length-drop 64 items))) ∙ take-append-drop 64 items

-- a value that is read isn't 0
good-value : (value : ℕ) → IsGood 2 8 check_matrix_value value → (0 < value) × (value < 256)
good-value value good = elim (chosen (nat_eq value 0) _ _ _ good.checked) [
  | inl t ↦ absurd (let no : ⊥ = cc (t.1) in no)
  | inr t ↦ (omega (arith, eqb-false value 0 t.0), good.below)
]

first-matrix : (items : List ℕ) → 64 ≤ length items → AllByRecursion (IsGood 2 8 check_matrix_value) items → IsMatrix (take 64 items)
first-matrix items long all = record {
  count = length-take-le 64 items long;
  each = λ place lt.
      let at : get_or (take 64 items) place 0 ≡ get_or items place 0 = get_or-take 64 items place 0 lt in
      let good = good-value (get_or items place 0) (all-at (IsGood 2 8 check_matrix_value) 0 items place all (omega (arith, lt, long))) in
      (omega (arith, at, good.0), omega (arith, at, good.1));
}

each-chunk : (n : ℕ) (items : List ℕ) → length items ≡ 64 * n → AllByRecursion (IsGood 2 8 check_matrix_value) items → AllByRecursion IsMatrix (chunks n items)
unfolding chunks
each-chunk zero items len all = tt
each-chunk (suc n) items len all =
    (first-matrix items (omega (arith, len)) all, each-chunk n (drop 64 items) (omega (arith, len, length-drop 64 items)) (all-drop (IsGood 2 8 check_matrix_value) 64 items all))

-- these matrices, and flat ones up to four
abbrev filled : ℕ → List ℕ → List (List ℕ)
filled n items = chunks n items ++ replicate (4 - n) flat

filled-four : (n : ℕ) (items : List ℕ) → n ≤ 4 → length (filled n items) ≡ 4
filled-four n items le = omega (arith, le, length-append (chunks n items) (replicate (4 - n) flat), length-chunks n items, length-replicate (4 - n) flat)

filled-each : (n : ℕ) (items : List ℕ) → length items ≡ 64 * n → AllByRecursion (IsGood 2 8 check_matrix_value) items → AllByRecursion IsMatrix (filled n items)
filled-each n items len all = all-append IsMatrix (chunks n items) (replicate (4 - n) flat) (each-chunk n items len all) (all-replicate IsMatrix flat (4 - n) flat-is-matrix)

filled-flat : (n : ℕ) (items : List ℕ) (comp : ℕ) → comp < 4 → n ≤ comp → get_or (filled n items) comp [] ≡ flat
filled-flat n items comp lt le = get_or-append_right (chunks n items) (replicate (4 - n) flat) n comp [] (length-chunks n items) le ∙ get_or-replicate (4 - n) (comp - n) flat [] (omega arith)

filled-values : (n : ℕ) (items : List ℕ) → length items ≡ 64 * n → concat (take n (filled n items)) ≡ items
filled-values n items len = ap concat (take_at (chunks n items) (replicate (4 - n) flat) n (length-chunks n items)) ∙ concat-chunks n items len

-- matrices, and the values after them
pub record MatricesAre (comps : ℕ) (next : Table HeadEnd) (values : List ℕ) (left : ℕ) : Type 0 where
  pub used : Bool
  pub matrices : List (List ℕ)
  pub later : List ℕ
  pub all : values ≡ matrix_values used comps matrices ++ later
  pub four : length matrices ≡ 4
  pub each : AllByRecursion IsMatrix matrices
  pub flat_others : (comp : ℕ) → comp < 4 → (used ≡ true → comps ≤ comp) → get_or matrices comp [] ≡ flat
  pub passes : Passes 2 next later left

abbrev stated_matrices : ℕ → Table HeadEnd → Table HeadEnd
stated_matrices comps next = fields (64 * comps) 8 (breaks V8) check_matrix_value (λ values. next)

abbrev use_next : ℕ → Table HeadEnd → ℕ → Table HeadEnd
use_next comps next present = if present == 1 then stated_matrices comps next else next

matrices-stated : (comps : ℕ) (next : Table HeadEnd) (values later : List ℕ) (left present : ℕ) → comps ≤ 4 → values ≡ present ∷ later → present ≡ 1 → Passes 2 (stated_matrices comps next) later left → MatricesAre comps next values left
matrices-stated comps next values later left present few e one p =
    let f = fields-are 2 (64 * comps) 8 (breaks V8) check_matrix_value (λ items. next) later left p in
    record {
      used = true;
      matrices = filled comps f.items;
      later = f.later;
      all = e ∙ ap₂ (λ (a : ℕ) (xs : List ℕ). a ∷ xs) one (f.all ∙ ap (λ (xs : List ℕ). xs ++ f.later) (sym (filled-values comps f.items f.long)));
      four = filled-four comps f.items few;
      each = filled-each comps f.items f.long f.each;
      flat_others = λ comp lt above. filled-flat comps f.items comp lt (above refl);
      passes = f.passes;
    }

-- values that pass the fields of the matrices are those of matrices, and others
pub matrices-are : (comps : ℕ) (next : Table HeadEnd) (values : List ℕ) (left : ℕ) → comps ≤ 4 → Passes 2 (matrix_fields comps next) values left → MatricesAre comps next values left
matrices-are comps next values left few p =
    let f = field-is 2 1 (breaks V8) no_check (use_next comps next) values left p in
    elim (chosen-one (λ (t : Table HeadEnd). Passes 2 t f.later left) (nat_eq f.value 1) (stated_matrices comps next) next f.passes) [
      | inl t ↦ matrices-stated comps next values f.later left f.value few f.all (eqb-true f.value 1 t.0) t.1
      | inr t ↦ record {
        used = false;
        matrices = filled 0 [];
        later = f.later;
        all = f.all ∙ ap (λ (a : ℕ). a ∷ f.later) (bit-zero f.value f.below t.0);
        four = filled-four 0 [] (omega arith);
        each = filled-each 0 [] refl tt;
        flat_others = λ comp lt above. filled-flat 0 [] comp lt (omega arith);
        passes = t.1;
      }
    ]

-- ---- the sizes of the tiles

-- the sizes of the tiles, where they are stated, and the values after them
pub record SizesAre (count : ℕ) (next : Table HeadEnd) (values : List ℕ) (left : ℕ) : Type 0 where
  pub present : Bool
  pub sizes : List ℕ
  pub later : List ℕ
  pub all : values ≡ size_values present sizes ++ later
  pub long : present ≡ true → length sizes ≡ count
  pub passes : Passes 2 next later left

abbrev stated_sizes : ℕ → Table HeadEnd → Table HeadEnd
stated_sizes count next = fields count 32 (breaks V8) no_check (λ sizes. next)

abbrev sizes_next : ℕ → Table HeadEnd → ℕ → Table HeadEnd
sizes_next count next present = if present == 1 then stated_sizes count next else next

sizes-stated : (count : ℕ) (next : Table HeadEnd) (values later : List ℕ) (left present : ℕ) → values ≡ present ∷ later → present ≡ 1 → Passes 2 (stated_sizes count next) later left → SizesAre count next values left
sizes-stated count next values later left present e one p =
    let f = fields-are 2 count 32 (breaks V8) no_check (λ items. next) later left p in
    record {
      present = true;
      sizes = f.items;
      later = f.later;
      all = e ∙ ap₂ (λ (a : ℕ) (xs : List ℕ). a ∷ xs) one f.all;
      long = λ stated. f.long;
      passes = f.passes;
    }

-- values that pass the fields of the sizes are sizes, or none, and others
pub sizes-are : (count : ℕ) (next : Table HeadEnd) (values : List ℕ) (left : ℕ) → Passes 2 (size_fields count next) values left → SizesAre count next values left
sizes-are count next values left p =
    let f = field-is 2 1 (breaks V8) no_check (sizes_next count next) values left p in
    elim (chosen-one (λ (t : Table HeadEnd). Passes 2 t f.later left) (nat_eq f.value 1) (stated_sizes count next) next f.passes) [
      | inl t ↦ sizes-stated count next values f.later left f.value f.all (eqb-true f.value 1 t.0) t.1
      | inr t ↦ record {
        present = false;
        sizes = [];
        later = f.later;
        all = f.all ∙ ap (λ (a : ℕ). a ∷ f.later) (bit-zero f.value f.below t.0);
        long = λ stated. absurd (let no : ⊥ = cc (stated) in no);
        passes = t.1;
      }
    ]
