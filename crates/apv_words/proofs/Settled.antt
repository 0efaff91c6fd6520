-- Options without a fault have good values, and what is found of options that the words are cut into is what is given.
use Rattle.std.proofs.Common.{◌≡◌, ◌∙◌, ◌&&◌, not, cond, Bool, true, false, refl, sym, ap, List, [], ◌∷◌, Option, Some, None, true≢false}
use Rattle.std.specs.List.{find, list_all}
use Rattle.std.specs.Option.{option_map_or}
use Rattle.std.proofs.lemmas.Bool.{and_from, not_from_false}
use Rattle.apv_base.specs.declared.options.UsageKind.{UsageKind}
use Rattle.apv_base.specs.declared.options.UsageKind.TheVariants.{Clash, Missing, Value}
use Rattle.apv_words.specs.Cut.{Pair}
use Rattle.apv_words.specs.Fault.{fault_or, fault_by, fault_of, clash, is_bad, is_clashing, is_missing, missing, same_name}
use Rattle.apv_words.specs.Given.{is_given, value_of}
use Rattle.apv_words.specs.Options.{HasPairs, given_in, value_in}
use Rattle.apv_words.specs.Table.{OptionRow, Text, ValueKind}
use Rattle.apv_words.specs.Values.{is_good}
use Rattle.apv_words.specs.declared.reading.Options.{Options}

none_found : (p : OptionRow → Bool) (rows : List OptionRow) → find p rows ≡ None → list_all (λ row. not (p row)) rows ≡ true
none_found p [] e = refl
none_found p (row ∷ rows) e = go (p row) refl e (none_found p rows)
  where
    go : (b : Bool) → p row ≡ b → cond b (Some row) (find p rows) ≡ None → (find p rows ≡ None → list_all (λ r. not (p r)) rows ≡ true)
        → (not (p row) && list_all (λ r. not (p r)) rows) ≡ true
    go true is f rest = let bad : ◌≡◌ {A = Option OptionRow} (Some row) None = f in cc
    go false is f rest = and_from _ _ (not_from_false _ is) (rest f)

pub twice : (b : Bool) → not (not b) ≡ true → b ≡ true
twice true f = refl
twice false f = absurd (true≢false (sym f))

-- no value is bad where there is no fault
pub all_good : (value : Text → Option Text) (given : Text → Bool) (table : List OptionRow) → fault_by value given table ≡ None
    → list_all (λ row. not (is_bad value given row)) table ≡ true
all_good value given table e = none_found (is_bad value given) table (go (find (is_bad value given) table) e)
  where
    go : (found : Option OptionRow) → fault_or Value found (missing value given table) ≡ None → found ≡ None
    go None f = refl
    go (Some row) f = let bad : ◌≡◌ {A = Option UsageKind} (Some (Value row.opt)) None = f in cc

-- no option is missing where there is no fault
pub none_missing : (value : Text → Option Text) (given : Text → Bool) (table : List OptionRow) → fault_by value given table ≡ None
    → list_all (λ row. not (is_missing value given row)) table ≡ true
none_missing value given table e = none_found (is_missing value given) table (go (find (is_bad value given) table) (find (is_missing value given) table) e)
  where
    go : (bad found : Option OptionRow) → fault_or Value bad (fault_or Missing found (clash value given table)) ≡ None → found ≡ None
    go None None f = refl
    go None (Some row) f = let bad : ◌≡◌ {A = Option UsageKind} (Some (Missing row.opt)) None = f in cc
    go (Some row) found f = let bad : ◌≡◌ {A = Option UsageKind} (Some (Value row.opt)) None = f in absurd (true≢false (cc))

-- no option clashes where there is no fault
pub none_clashing : (value : Text → Option Text) (given : Text → Bool) (table : List OptionRow) → fault_by value given table ≡ None
    → list_all (λ row. not (is_clashing value given row)) table ≡ true
none_clashing value given table e =
    none_found (is_clashing value given) table (go (find (is_bad value given) table) (find (is_missing value given) table) (find (is_clashing value given) table) e)
  where
    go : (bad gone found : Option OptionRow) → fault_or Value bad (fault_or Missing gone (fault_or Clash found (same_name value given table))) ≡ None → found ≡ None
    go None None None f = refl
    go None None (Some row) f = let bad : ◌≡◌ {A = Option UsageKind} (Some (Clash row.opt)) None = f in cc
    go None (Some row) found f = let bad : ◌≡◌ {A = Option UsageKind} (Some (Missing row.opt)) None = f in absurd (true≢false (cc))
    go (Some row) found other f = let bad : ◌≡◌ {A = Option UsageKind} (Some (Value row.opt)) None = f in absurd (true≢false (cc))

pub good_value : (kind : ValueKind) (value : Option Text) → not (option_map_or (λ text. not (is_good kind text)) value false) ≡ true
    → (text : Text) → value ≡ Some text → is_good kind text ≡ true
good_value kind value e text is =
    let here : not (not (is_good kind text)) ≡ true = sym (ap (λ (v : Option Text). not (option_map_or (λ t. not (is_good kind t)) v false)) is) ∙ e in
    twice (is_good kind text) here

-- ---- what is found is what is given

module _ (words : List Text) (options : Options) (pairs : List Pair) (has : HasPairs words options pairs) where
  pub values_are : value_in options ≡ value_of pairs
  values_are = λ i name. has.values name i

  pub given_are : given_in options ≡ is_given pairs
  given_are = λ i name. has.given name i

  pub faults_are : (table : List OptionRow) → fault_by (value_in options) (given_in options) table ≡ fault_of table pairs
  faults_are table = λ i. fault_by (values_are i) (given_are i) table
