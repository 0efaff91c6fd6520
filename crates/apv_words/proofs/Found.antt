-- What is found of an option among the rows of `clap`: its value, and whether it is given.
use Rattle.std.proofs.Common.{◌≡◌, ◌∙◌, ◌&&◌, ◌||◌, not, Bool, true, false, cond, refl, sym, ap, subst, List, [], ◌∷◌, ◌++◌, Option, Some, None, is_some, codes, true≢false}
use Rattle.std.specs.Prelude.{option_and_then, slice_get}
use Rattle.std.specs.Option.{option_map}
use Rattle.std.specs.List.{find, fold, list_all, list_any}
use Rattle.std.specs.Str.{bytes_eq}
use Rattle.std.proofs.lemmas.Slice.Eq.{bytes_eq-Decides}
use Rattle.std.proofs.lemmas.Bool.{and_from, and_parts, or_left, or_parts, or_right, not_from_false}
use Rattle.clap.specs.Walk.{Row, default_rows, first_of, has_row, more_values, with_default}
use Rattle.clap.specs.declared.builder.value_parser.Reading.{Reading}
use Rattle.clap.specs.declared.builder.value_parser.Reading.TheVariants.{AsWritten}
use Rattle.clap.specs.declared.parser.matches.ValueSource.TheVariants.{DefaultValue}
use Rattle.clap.proofs.WalkLemmas.{find-map}
use Rattle.apv_words.specs.Table.{OptionRow, Text, names_of, repeats, row_by_name, takes_value}
use Rattle.apv_words.specs.Cut.{Cut, Pair, SpellsOptions}
use Rattle.apv_words.specs.Given.{is_given, pair_of, value_of}
use Rattle.apv_words.specs.Options.{is_from_words, value_by}
use Rattle.apv_words.proofs.Rules.{rule_at, rules_at}
use Rattle.apv_words.proofs.WalkedWords.{absent, pair_row}
use Rattle.apv_words.proofs.WalkedAll.{pair_rows}

-- the row of that id
abbrev row_at : Text → List Row → Option Row
row_at id rows = find (λ r. bytes_eq r.id id) rows

found_before : (id : Text) (rows more : List Row) (r : Row) → row_at id rows ≡ Some r → row_at id (rows ++ more) ≡ Some r
found_before id [] more r e = let bad : ◌≡◌ {A = Option Row} None (Some r) = e in cc
found_before id (x ∷ xs) more r e = go (bytes_eq x.id id) e (found_before id xs more r)
  where
    go : (b : Bool) → cond b (Some x) (row_at id xs) ≡ Some r → (row_at id xs ≡ Some r → row_at id (xs ++ more) ≡ Some r)
        → cond b (Some x) (row_at id (xs ++ more)) ≡ Some r
    go true f rest = f
    go false f rest = rest f

found_after : (id : Text) (rows more : List Row) → row_at id rows ≡ None → row_at id (rows ++ more) ≡ row_at id more
found_after id [] more e = refl
found_after id (x ∷ xs) more e = go (bytes_eq x.id id) e (found_after id xs more)
  where
    go : (b : Bool) → cond b (Some x) (row_at id xs) ≡ None → (row_at id xs ≡ None → row_at id (xs ++ more) ≡ row_at id more)
        → cond b (Some x) (row_at id (xs ++ more)) ≡ row_at id more
    go true f rest = let bad : ◌≡◌ {A = Option Row} (Some x) None = f in cc
    go false f rest = rest f

none_has : (id : Text) (rows : List Row) → row_at id rows ≡ None → has_row id rows ≡ false
none_has id [] e = refl
none_has id (x ∷ xs) e = go (bytes_eq x.id id) e (none_has id xs)
  where
    go : (b : Bool) → cond b (Some x) (row_at id xs) ≡ None → (row_at id xs ≡ None → has_row id xs ≡ false) → (b || has_row id xs) ≡ false
    go true f rest = let bad : ◌≡◌ {A = Option Row} (Some x) None = f in cc
    go false f rest = rest f

-- ---- defaults

-- the row of a default
abbrev default_row : Text → Reading → List Text → Row
default_row id how values = record { id = id; values = values; count = None; source = Some DefaultValue; reading = how }

-- an argument with no row gets its default at the end
defaults_added : (id : Text) (how : Reading) (v : Text) (vs : List Text) (rows : List Row) → has_row id rows ≡ false
    → default_rows id how (v ∷ vs) rows ≡ rows ++ default_row id how (v ∷ vs) ∷ []
defaults_added id how v vs rows e = absent id (more_values DefaultValue (v ∷ vs)) (default_row id how (v ∷ vs) ∷ []) rows e

default_keeps : (id : Text) (name : Text) (takes : Bool) (rows : List Row) (r : Row) → row_at id rows ≡ Some r → row_at id (with_default rows (rule_at name takes)) ≡ Some r
default_keeps id name true rows r e = go (has_row name rows)
  where
    go : (b : Bool) → row_at id (cond b rows rows) ≡ Some r
    go true = e
    go false = e
default_keeps id name false rows r e = go (has_row name rows) refl
  where
    go : (b : Bool) → has_row name rows ≡ b → row_at id (cond b rows (default_rows name AsWritten (codes "false" ∷ []) rows)) ≡ Some r
    go true is = e
    go false is = rw (defaults_added name AsWritten (codes "false") [] rows is) (found_before id rows _ r e)

kept : (id : Text) (table : List OptionRow) (rows : List Row) (r : Row) → row_at id rows ≡ Some r → row_at id (fold with_default rows (rules_at table)) ≡ Some r
kept id [] rows r e = e
kept id (row ∷ more) rows r e =
    kept id more (with_default rows (rule_at row.name (takes_value row.kind))) r (default_keeps id row.name (takes_value row.kind) rows r e)

-- a default of another option doesn't count
default_none : (id : Text) (name : Text) (takes : Bool) (rows : List Row) → bytes_eq name id ≡ false → row_at id rows ≡ None
    → row_at id (with_default rows (rule_at name takes)) ≡ None
default_none id name true rows other e = go (has_row name rows)
  where
    go : (b : Bool) → row_at id (cond b rows rows) ≡ None
    go true = e
    go false = e
default_none id name false rows other e = go (has_row name rows) refl
  where
    go : (b : Bool) → has_row name rows ≡ b → row_at id (cond b rows (default_rows name AsWritten (codes "false" ∷ []) rows)) ≡ None
    go true is = e
    go false is = rw (defaults_added name AsWritten (codes "false") [] rows is, found_after id rows _ e, other) refl

-- an option with a value has no default
value_has_none : (id : Text) (table : List OptionRow) (rows : List Row) → list_all (λ row. takes_value row.kind || not (bytes_eq row.name id)) table ≡ true
    → row_at id rows ≡ None → row_at id (fold with_default rows (rules_at table)) ≡ None
value_has_none id [] rows all e = e
value_has_none id (row ∷ more) rows all e =
    value_has_none id more (with_default rows (rule_at row.name (takes_value row.kind))) (and_parts _ _ all).1
    (go (takes_value row.kind) (bytes_eq row.name id) refl (and_parts _ _ all).0)
  where
    go : (takes same : Bool) → bytes_eq row.name id ≡ same → (takes || not same) ≡ true → row_at id (with_default rows (rule_at row.name takes)) ≡ None
    go true same is t = both (has_row row.name rows)
      where
        both : (b : Bool) → row_at id (cond b rows rows) ≡ None
        both true = e
        both false = e
    go false true is t = absurd (true≢false (sym t))
    go false false is t = default_none id row.name false rows is e

-- a row that the words didn't give stays one
default_is_none : (id : Text) (rows : List Row) (r : Row) → r.source ≡ Some DefaultValue → is_from_words (option_and_then (λ (x : Row). x.source) (row_at id rows)) ≡ false
    → is_from_words (option_and_then (λ (x : Row). x.source) (row_at id (rows ++ r ∷ []))) ≡ false
default_is_none id rows r source e = go (row_at id rows) refl e
  where
    last : (b : Bool) → is_from_words (option_and_then (λ (x : Row). x.source) (cond b (Some r) None)) ≡ false
    last true = ap is_from_words source
    last false = refl

    go : (found : Option Row) → row_at id rows ≡ found → is_from_words (option_and_then (λ (x : Row). x.source) found) ≡ false
        → is_from_words (option_and_then (λ (x : Row). x.source) (row_at id (rows ++ r ∷ []))) ≡ false
    go None is f = rw (found_after id rows (r ∷ []) is) (last (bytes_eq r.id id))
    go (Some x) is f = rw (found_before id rows (r ∷ []) x is) f

default_isnt_given : (id name : Text) (takes : Bool) (rows : List Row) → is_from_words (option_and_then (λ (x : Row). x.source) (row_at id rows)) ≡ false
    → is_from_words (option_and_then (λ (x : Row). x.source) (row_at id (with_default rows (rule_at name takes)))) ≡ false
default_isnt_given id name true rows e = go (has_row name rows)
  where
    go : (b : Bool) → is_from_words (option_and_then (λ (x : Row). x.source) (row_at id (cond b rows rows))) ≡ false
    go true = e
    go false = e
default_isnt_given id name false rows e = go (has_row name rows) refl
  where
    go : (b : Bool) → has_row name rows ≡ b
        → is_from_words (option_and_then (λ (x : Row). x.source) (row_at id (cond b rows (default_rows name AsWritten (codes "false" ∷ []) rows)))) ≡ false
    go true is = e
    go false is = rw (defaults_added name AsWritten (codes "false") [] rows is) (default_is_none id rows (default_row name AsWritten (codes "false" ∷ [])) refl e)

not_given : (id : Text) (table : List OptionRow) (rows : List Row) → is_from_words (option_and_then (λ (x : Row). x.source) (row_at id rows)) ≡ false
    → is_from_words (option_and_then (λ (x : Row). x.source) (row_at id (fold with_default rows (rules_at table)))) ≡ false
not_given id [] rows e = e
not_given id (row ∷ more) rows e = not_given id more _ (default_isnt_given id row.name (takes_value row.kind) rows e)

-- ---- the options that are given

pairs_found : (pairs : List Pair) (id : Text) → row_at id (pair_rows pairs) ≡ option_map pair_row (pair_of pairs id)
pairs_found pairs id = sym (find-map (λ r. bytes_eq r.id id) pair_row pairs)

pub given_kind : (table : List OptionRow) (pairs : List Pair) (words : List Text) (id : Text) (p : Pair) → SpellsOptions table pairs words → pair_of pairs id ≡ Some p
    → option_map (λ row. takes_value row.kind) (row_by_name table id) ≡ Some (is_some p.value)
given_kind table [] words id p spelled e = let bad : ◌≡◌ {A = Option Pair} None (Some p) = e in cc
given_kind table (q ∷ qs) words id p spelled e = go (bytes_eq q.name id) refl e (given_kind table qs spelled.1.0 id p spelled.1.2)
  where
    go : (b : Bool) → bytes_eq q.name id ≡ b → cond b (Some q) (pair_of qs id) ≡ Some p
        → (pair_of qs id ≡ Some p → option_map (λ row. takes_value row.kind) (row_by_name table id) ≡ Some (is_some p.value))
        → option_map (λ row. takes_value row.kind) (row_by_name table id) ≡ Some (is_some p.value)
    go true is f rest =
        let same : q.name ≡ id = (bytes_eq-Decides q.name id).0 is in
        let itself : q ≡ p = cc in
        ap (λ (n : Text). option_map (λ row. takes_value row.kind) (row_by_name table n)) (sym same) ∙ spelled.0 ∙ ap (λ (x : Pair). Some (is_some x.value)) itself
    go false is f rest = rest f

-- ---- names of a table

others_differ : (name : Text) (table : List OptionRow) → list_any (bytes_eq name) (names_of table) ≡ false
    → list_all (λ row. takes_value row.kind || not (bytes_eq row.name name)) table ≡ true
others_differ name [] e = refl
others_differ name (row ∷ more) e =
    let parts = or_parts _ _ e in
    let other : bytes_eq row.name name ≡ false = turned (bytes_eq row.name name) refl parts.0 in
    and_from _ _ (or_right (takes_value row.kind) _ (not_from_false _ other)) (others_differ name more parts.1)
  where
    turned : (b : Bool) → bytes_eq row.name name ≡ b → bytes_eq name row.name ≡ false → b ≡ false
    turned false is f = refl
    turned true is f =
        let back : bytes_eq name row.name ≡ true = (bytes_eq-Decides name row.name).1 (sym ((bytes_eq-Decides row.name name).0 is)) in
        absurd (true≢false (sym back ∙ f))

value_only : (table : List OptionRow) (id : Text) → repeats (names_of table) ≡ false → option_map (λ row. takes_value row.kind) (row_by_name table id) ≡ Some true
    → list_all (λ row. takes_value row.kind || not (bytes_eq row.name id)) table ≡ true
value_only [] id once o = refl
value_only (row ∷ more) id once o = go (bytes_eq row.name id) refl o (value_only more id (or_parts _ _ once).1)
  where
    go : (b : Bool) → bytes_eq row.name id ≡ b → option_map (λ r. takes_value r.kind) (cond b (Some row) (row_by_name more id)) ≡ Some true
        → (option_map (λ r. takes_value r.kind) (row_by_name more id) ≡ Some true → list_all (λ r. takes_value r.kind || not (bytes_eq r.name id)) more ≡ true)
        → ((takes_value row.kind || not (bytes_eq row.name id)) && list_all (λ r. takes_value r.kind || not (bytes_eq r.name id)) more) ≡ true
    go true is f rest =
        let same : row.name ≡ id = (bytes_eq-Decides row.name id).0 is in
        let kind : takes_value row.kind ≡ true = cc in
        and_from _ _ (or_left (takes_value row.kind) _ kind)
        (others_differ id more (subst (λ (n : Text). list_any (bytes_eq n) (names_of more) ≡ false) same (or_parts _ _ once).0))
    go false is f rest = and_from _ _ (or_right (takes_value row.kind) _ (not_from_false _ is)) (rest f)

-- ---- what the getters of `clap` read

abbrev pub rows_for : List OptionRow → List Pair → List Row
rows_for table pairs = fold with_default (pair_rows pairs) (rules_at table)

-- the value of an option that takes one
pub value_found : (table : List OptionRow) (words : List Text) (pairs : List Pair) (id : Text) → repeats (names_of table) ≡ false → Cut table words pairs
    → option_map (λ row. takes_value row.kind) (row_by_name table id) ≡ Some true → first_of id (rows_for table pairs) ≡ value_of pairs id
value_found table words pairs id once cut o = go (pair_of pairs id) refl
  where
    read : (p : Pair) (v : Option Text) → p.value ≡ v → is_some v ≡ true → slice_get (pair_row p).values 0 ≡ v
    read p None is some = absurd (true≢false (sym some))
    read p (Some v) is some = rw is refl

    go : (found : Option Pair) → pair_of pairs id ≡ found → first_of id (rows_for table pairs) ≡ value_of pairs id
    go None is =
        let none : row_at id (rows_for table pairs) ≡ None = value_has_none id table (pair_rows pairs) (value_only table id once o) (pairs_found pairs id ∙ ap (option_map pair_row) is) in
        ap (option_and_then (λ (r : Row). slice_get r.values 0)) none ∙ sym (ap (option_and_then (λ (p : Pair). p.value)) is)
    go (Some p) is =
        let some : row_at id (rows_for table pairs) ≡ Some (pair_row p) = kept id table (pair_rows pairs) (pair_row p) (pairs_found pairs id ∙ ap (option_map pair_row) is) in
        let kind : is_some p.value ≡ true = (let both : Some (is_some p.value) ≡ Some true = sym (given_kind table pairs words id p cut.spelled is) ∙ o in cc) in
        ap (option_and_then (λ (r : Row). slice_get r.values 0)) some ∙ read p p.value refl kind ∙ sym (ap (option_and_then (λ (p : Pair). p.value)) is)

-- the value of the option of a name, if it takes one
pub value_by_row : (table : List OptionRow) (words : List Text) (pairs : List Pair) (id : Text) → repeats (names_of table) ≡ false → Cut table words pairs
    → value_by (row_by_name table id) (first_of id (rows_for table pairs)) ≡ value_of pairs id
value_by_row table words pairs id once cut = of_row (row_by_name table id) refl
  where
    unknown : (found : Option Pair) → pair_of pairs id ≡ found → row_by_name table id ≡ None → None ≡ option_and_then (λ (p : Pair). p.value) found
    unknown None is none = refl
    unknown (Some p) is none =
        let bad : ◌≡◌ {A = Option Bool} None (Some (is_some p.value)) = sym (ap (option_map (λ (row : OptionRow). takes_value row.kind)) none) ∙ given_kind table pairs words id p cut.spelled is in
        absurd (true≢false (cc))

    flag : (found : Option Pair) → pair_of pairs id ≡ found → option_map (λ row. takes_value row.kind) (row_by_name table id) ≡ Some false
        → None ≡ option_and_then (λ (p : Pair). p.value) found
    flag None is o = refl
    flag (Some p) is o = bare p.value (let both : Some (is_some p.value) ≡ Some false = sym (given_kind table pairs words id p cut.spelled is) ∙ o in cc)
      where
        bare : (v : Option Text) → is_some v ≡ false → None ≡ v
        bare None e = refl
        bare (Some v) e = absurd (true≢false e)

    by_kind : (row : OptionRow) (takes : Bool) → row_by_name table id ≡ Some row → takes_value row.kind ≡ takes
        → cond takes (first_of id (rows_for table pairs)) None ≡ value_of pairs id
    by_kind row true is kind = value_found table words pairs id once cut (ap (option_map (λ (r : OptionRow). takes_value r.kind)) is ∙ ap Some kind)
    by_kind row false is kind = flag (pair_of pairs id) refl (ap (option_map (λ (r : OptionRow). takes_value r.kind)) is ∙ ap Some kind)

    of_row : (o : Option OptionRow) → row_by_name table id ≡ o → value_by o (first_of id (rows_for table pairs)) ≡ value_of pairs id
    of_row None is = unknown (pair_of pairs id) refl is
    of_row (Some row) is = by_kind row (takes_value row.kind) is refl

-- whether an option is given
pub given_found : (table : List OptionRow) (pairs : List Pair) (id : Text)
    → is_from_words (option_and_then (λ (r : Row). r.source) (find (λ r. bytes_eq r.id id) (rows_for table pairs))) ≡ is_given pairs id
given_found table pairs id = go (pair_of pairs id) refl
  where
    go : (found : Option Pair) → pair_of pairs id ≡ found
        → is_from_words (option_and_then (λ (r : Row). r.source) (row_at id (rows_for table pairs))) ≡ is_some found
    go None is =
        not_given id table (pair_rows pairs) (ap (λ (o : Option Row). is_from_words (option_and_then (λ (r : Row). r.source) o)) (pairs_found pairs id ∙ ap (option_map pair_row) is))
    go (Some p) is =
        ap (λ (o : Option Row). is_from_words (option_and_then (λ (r : Row). r.source) o))
        (kept id table (pair_rows pairs) (pair_row p) (pairs_found pairs id ∙ ap (option_map pair_row) is))
