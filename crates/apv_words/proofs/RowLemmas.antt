-- Values by rows of a table that have no fault, and settings by what is found.
use Rattle.std.proofs.Common.{◌≡◌, ◌∙◌, ◌<◌, not, cond, ℕ, zero, suc, Bool, true, false, refl, sym, ap, subst, inr, arith, List, [], ◌∷◌, length, get_or, Option, Some, None, is_some, option_map, true≢false}
use Rattle.std.specs.Prelude.{filter, option_and_then}
use Rattle.std.specs.List.{list_all}
use Rattle.std.specs.Option.{option_map_or, unwrap_or}
use Rattle.std.specs.Str.{bytes_eq}
use Rattle.std.proofs.lemmas.Bool.{and_parts}
use Rattle.std.proofs.lemmas.Slice.Eq.{bytes_eq-Decides}
use Rattle.clap.specs.Matches.{first_value, found_of}
use Rattle.apv_base.specs.declared.options.Opt.TheVariants.{Input}
use Rattle.apv_base.specs.declared.options.UsageKind.{UsageKind}
use Rattle.apv_base.specs.declared.options.WordsEnd.{WordsEnd}
use Rattle.apv_words.specs.Cut.{Cut, Pair}
use Rattle.apv_words.specs.Ends.{Refuses}
use Rattle.apv_words.specs.Fault.{HasFault, fault_by, fault_of, is_bad, is_clashing, is_missing}
use Rattle.apv_words.specs.Given.{is_given, pair_of, value_of}
use Rattle.apv_words.specs.Options.{HasPairs, fault_in, given_in, table_in, value_by, value_in}
use Rattle.apv_words.specs.Settings.{Gives, HasRows, SettingsBy, rows_of}
use Rattle.apv_words.specs.Table.{Flag, OptionRow, Text, optional, row_by_name, takes_value}
use Rattle.apv_words.specs.Values.{is_good}
use Rattle.apv_words.specs.declared.reading.Options.{Options}
use Rattle.apv_words.proofs.Found.{given_kind}
use Rattle.apv_words.proofs.Settled.{all_good, faults_are, given_are, good_value, none_clashing, none_missing, values_are}

-- what holds of the rows that pass a test holds of a row that passes it
at_place : (p q : OptionRow → Bool) (rows : List OptionRow) (i : ℕ) (d : OptionRow) → list_all p (filter q rows) ≡ true → i < length rows → q (get_or rows i d) ≡ true
    → p (get_or rows i d) ≡ true
at_place p q [] i d all lt on = absurd (omega arith)
at_place p q (row ∷ rows) zero d all lt on = (and_parts _ _ (ap (list_all p) (ap (λ (b : Bool). cond b (row ∷ filter q rows) (filter q rows)) (sym on)) ∙ all)).0
at_place p q (row ∷ rows) (suc i) d all lt on = go (q row) all (λ a. at_place p q rows i d a (omega arith) on)
  where
    go : (b : Bool) → list_all p (cond b (row ∷ filter q rows) (filter q rows)) ≡ true → (list_all p (filter q rows) ≡ true → p (get_or rows i d) ≡ true) → p (get_or rows i d) ≡ true
    go true a rest = rest (and_parts _ _ a).1
    go false a rest = rest a

-- rows whose names pass a test have none of a name that doesn't
no_row : (test : Text → Bool) (name : Text) (rows : List OptionRow) → test name ≡ false → row_by_name (rows_of test rows) name ≡ None
no_row test name [] off = refl
no_row test name (row ∷ rows) off = go (test row.name) (bytes_eq row.name name) refl refl (no_row test name rows off)
  where
    go : (b c : Bool) → test row.name ≡ b → bytes_eq row.name name ≡ c → row_by_name (rows_of test rows) name ≡ None
        → row_by_name (cond b (row ∷ rows_of test rows) (rows_of test rows)) name ≡ None
    go false c on is rest = rest
    go true true on is rest =
        let same : row.name ≡ name = (bytes_eq-Decides row.name name).0 is in
        absurd (true≢false (sym on ∙ ap test same ∙ off))
    go true false on is rest = ap (λ (c : Bool). cond c (Some row) (row_by_name (rows_of test rows) name)) is ∙ rest

pub some_row : OptionRow
some_row = optional Input [] Flag

pub default_is : {A : Type 0} (f : Text → A) (v : Option Text) (d : A) → unwrap_or (option_map f v) d ≡ option_map_or f v d
default_is f None d = refl
default_is f (Some text) d = refl

-- ---- a row that passes the test, where there is no fault

module _ (all : List OptionRow) (test : Text → Bool) (value : Text → Option Text) (given : Text → Bool) (ok : fault_by value given (rows_of test all) ≡ None) where
  pub good_row : (i : ℕ) → i < length all → test (get_or all i some_row).name ≡ true → (text : Text) → value (get_or all i some_row).name ≡ Some text
      → is_good (get_or all i some_row).kind text ≡ true
  good_row i lt on = good_value _ _ (at_place (λ row. not (is_bad value given row)) (λ row. test row.name) all i some_row (all_good value given (rows_of test all) ok) lt on)

  pub not_missing : (i : ℕ) → i < length all → test (get_or all i some_row).name ≡ true → not (is_missing value given (get_or all i some_row)) ≡ true
  not_missing i lt on = at_place (λ row. not (is_missing value given row)) (λ row. test row.name) all i some_row (none_missing value given (rows_of test all) ok) lt on

  pub not_clashing : (i : ℕ) → i < length all → test (get_or all i some_row).name ≡ true → not (is_clashing value given (get_or all i some_row)) ≡ true
  not_clashing i lt on = at_place (λ row. not (is_clashing value given row)) (λ row. test row.name) all i some_row (none_clashing value given (rows_of test all) ok) lt on

-- ---- the value of a row of a table, where options by some of its rows have no fault

module _ (all : List OptionRow) (options : Options) (rows : HasRows all (table_in options)) (ok : fault_in options ≡ None) where
  -- an option that isn't in the table has no value
  no_value : (name : Text) → rows.0 name ≡ false → value_in options name ≡ None
  no_value name off = ap (λ (row : Option OptionRow). value_by row (first_value (found_of options.matches) name))
      (ap (λ (t : List OptionRow). row_by_name t name) rows.1 ∙ no_row rows.0 name all off)

  pub good_at : (i : ℕ) → i < length all → (text : Text) → value_in options (get_or all i some_row).name ≡ Some text → is_good (get_or all i some_row).kind text ≡ true
  good_at i lt text is = go (rows.0 (get_or all i some_row).name) refl
    where
      go : (b : Bool) → rows.0 (get_or all i some_row).name ≡ b → is_good (get_or all i some_row).kind text ≡ true
      go true on = good_row all rows.0 (value_in options) (given_in options)
          (subst (λ (t : List OptionRow). fault_by (value_in options) (given_in options) t ≡ None) rows.1 ok) i lt on text is
      go false off = let bad : ◌≡◌ {A = Option Text} None (Some text) = sym (no_value _ off) ∙ is in absurd (true≢false (cc))

-- ---- what is answered by what is found

module _ (words rest : List Text) (options : Options) (found : (pairs : List Pair) × HasPairs rest options pairs) (same : rest ≡ words)
    (table : List OptionRow) (is_table : table_in options ≡ table) where
  words_cut : Cut table words found.0
  words_cut = subst (λ (t : List OptionRow). Cut t words found.0) is_table (subst (λ (ws : List Text). Cut (table_in options) ws found.0) same found.1.cut)

  -- the fault of what is found is that of what is given
  same_fault : fault_in options ≡ fault_of table found.0
  same_fault = faults_are rest options found.0 found.1 (table_in options) ∙ ap (λ (t : List OptionRow). fault_of t found.0) is_table

  pub refusal : (kind : UsageKind) → fault_in options ≡ Some kind → HasFault table words kind
  refusal kind fault = inr (found.0, words_cut, sym same_fault ∙ fault)

  pub answer : {S : Type 0} (by : SettingsBy S) (settings : S) → fault_in options ≡ None → settings ≡ by (value_in options) (given_in options) → Gives by table words settings
  answer by settings fault is = (
    found.0,
    words_cut,
    sym same_fault ∙ fault,
    is ∙ (λ i. by (values_are rest options found.0 found.1 i) (given_are rest options found.0 found.1 i)),
  )

-- a refusal by another table and other words that are the same
pub refused_by : (end : WordsEnd) {one other : List OptionRow} {ws words : List Text} → one ≡ other → ws ≡ words → Refuses (HasFault one ws) end → Refuses (HasFault other words) end
refused_by end tables same r = subst (λ (p : List OptionRow × List Text). Refuses (HasFault p.0 p.1) end) (λ i. (tables i, same i)) r

-- ---- what is given of words that are cut

module _ (table : List OptionRow) (words : List Text) (pairs : List Pair) (cut : Cut table words pairs) where
  -- an option with a value has one exactly where it is given
  pub has_value : (name : Text) → option_map (λ row. takes_value row.kind) (row_by_name table name) ≡ Some true → is_some (value_of pairs name) ≡ is_given pairs name
  has_value name takes = go (pair_of pairs name) refl
    where
      go : (found : Option Pair) → pair_of pairs name ≡ found → is_some (value_of pairs name) ≡ is_given pairs name
      go None none = ap (λ (q : Option Pair). is_some (option_and_then (λ (x : Pair). x.value) q)) none ∙ sym (ap (λ (q : Option Pair). is_some q) none)
      go (Some p) there =
          let kind : Some true ≡ Some (is_some p.value) = sym takes ∙ given_kind table pairs words name p cut.spelled there in
          let value : is_some p.value ≡ true = cc in
          ap (λ (q : Option Pair). is_some (option_and_then (λ (x : Pair). x.value) q)) there ∙ value ∙ sym (ap (λ (q : Option Pair). is_some q) there)

  -- an option that isn't in the table isn't given
  pub not_given : (name : Text) → row_by_name table name ≡ None → is_given pairs name ≡ false
  not_given name none = go (pair_of pairs name) refl
    where
      go : (found : Option Pair) → pair_of pairs name ≡ found → is_given pairs name ≡ false
      go None is = ap (λ (p : Option Pair). is_some p) is
      go (Some p) is =
          let bad : ◌≡◌ {A = Option Bool} None (Some (is_some p.value)) = sym (ap (option_map (λ (row : OptionRow). takes_value row.kind)) none) ∙ given_kind table pairs words name p cut.spelled is in
          absurd (true≢false (cc))
