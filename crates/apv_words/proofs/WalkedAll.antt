-- The walk of `clap` over words that are options of the table and their values: they pass, and its rows are these
-- options.
use Rattle.std.proofs.Common.{◌≡◌, ◌∙◌, ◌&&◌, ◌||◌, not, ℕ, Bool, true, false, refl, sym, ap, ap₂, subst, inl, inr, List, [], ◌∷◌, ◌++◌, map, append-nil, append_assoc, Option, Some, None, is_some, true≢false}
use Rattle.std.specs.Option.{option_map}
use Rattle.std.specs.List.{fold, list_all, list_any}
use Rattle.std.specs.Str.{bytes_eq}
use Rattle.std.proofs.lemmas.Slice.Eq.{bytes_eq-Decides}
use Rattle.std.proofs.lemmas.Bool.{and_parts, or_from, or_parts}
use Rattle.std.proofs.lemmas.List.{map-append}
use Rattle.clap.specs.Walk.{Held, Row, arg_by_id, arg_by_long, has_row, walk_from, walked}
use Rattle.clap.specs.Takes.{walk_passes}
use Rattle.clap.specs.Simple.{Shape}
use Rattle.apv_words.specs.Table.{OptionRow, Text, is_option_name, names_of, repeats, row_by_name, takes_value}
use Rattle.apv_words.specs.Cut.{Pair, SpellsOptions, SpellsOption, given_names}
use Rattle.apv_words.proofs.Rules.{known, rules_at}
use Rattle.apv_words.proofs.WalkedWords.{Comes, Holds, apart_comes, flag_comes, joined_comes, pair_row}

abbrev pub pair_rows : List Pair → List Row
pair_rows pairs = map pair_row pairs

-- the name of an option of the table is the name of an option
pub option_name : (table : List OptionRow) (name : Text) (takes : Bool) → list_all is_option_name (names_of table) ≡ true
    → option_map (λ row. takes_value row.kind) (row_by_name table name) ≡ Some takes → is_option_name name ≡ true
option_name [] name takes all e = let bad : ◌≡◌ {A = Option Bool} None (Some takes) = e in cc
option_name (row ∷ rows) name takes all e = go (bytes_eq row.name name) refl e (option_name rows name takes (and_parts _ _ all).1)
  where
    go : (b : Bool) → bytes_eq row.name name ≡ b → option_map (λ r. takes_value r.kind) (Rattle.std.proofs.Common.cond b (Some row) (row_by_name rows name)) ≡ Some takes
        → (option_map (λ r. takes_value r.kind) (row_by_name rows name) ≡ Some takes → is_option_name name ≡ true) → is_option_name name ≡ true
    go true is f rest = subst (λ (text : Text). is_option_name text ≡ true) ((bytes_eq-Decides row.name name).0 is) (and_parts _ _ all).0
    go false is f rest = rest f

-- ---- options that occur once

none_at : (text : Text) (done : List Pair) (p : Pair) (ps : List Pair) → list_any (bytes_eq text) (given_names (done ++ p ∷ ps)) ≡ false → bytes_eq text p.name ≡ false
none_at text [] p ps e = (or_parts _ _ e).0
none_at text (d ∷ ds) p ps e = none_at text ds p ps (or_parts _ _ e).1

fresh : (done : List Pair) (p : Pair) (ps : List Pair) → repeats (given_names (done ++ p ∷ ps)) ≡ false → has_row p.name (pair_rows done) ≡ false
fresh [] p ps e = refl
fresh (d ∷ ds) p ps e =
    let parts = or_parts _ _ e in
    or_from _ _ (none_at d.name ds p ps parts.0) (fresh ds p ps parts.1)

-- ---- the walk

at_words : (s : Shape) (h after : Held) (words ws rest : List Text) (rows : List Row) → words ≡ ws → Comes s h ws rest after rows → Comes s h words rest after rows
at_words s h after words ws rest rows e comes = subst (λ (xs : List Text). Comes s h xs rest after rows) (sym e) comes

then_comes : (s : Shape) (h between after : Held) (words rest : List Text) (rows rows_after : List Row) → Comes s h words rest between rows
    → Comes s between rest [] after rows_after → Comes s h words [] after rows_after
then_comes s h between after words rest rows rows_after first second = record {
  walked = first.walked ∙ second.walked;
  passes = first.passes ∙ second.passes;
  holds = second.holds;
}

module _ (table : List OptionRow) (s : Shape) (rules : s.rules ≡ rules_at table) (names : list_all is_option_name (names_of table) ≡ true) where
  one : (h : Held) (rows : List Row) (name : Text) (value : Option Text) (words rest : List Text) → Holds s h rows
      → option_map (λ row. takes_value row.kind) (row_by_name table name) ≡ Some (is_some value) → SpellsOption name value words rest → has_row name rows ≡ false
      → (after : Held) × Comes s h words rest after (rows ++ pair_row (record { name = name; value = value }) ∷ [])
  one h rows name None words rest holds is_option spelled new =
      let found = ap (λ c. arg_by_long c name) rules ∙ (known table name false is_option).0 in
      (_, at_words s h _ words _ rest _ spelled (flag_comes s h rows holds name (option_name table name false names is_option) new rest found))
  one h rows name (Some value) words rest holds is_option spelled new =
      let is_name = option_name table name true names is_option in
      let long = ap (λ c. arg_by_long c name) rules ∙ (known table name true is_option).0 in
      let by_id = ap (λ c. arg_by_id c name) rules ∙ (known table name true is_option).1 in
      elim spelled [
        | inl e ↦ (_, at_words s h _ words _ rest _ e (joined_comes s h rows holds name is_name new value rest long))
        | inr p ↦ (_, at_words s h _ words _ rest _ p.0 (apart_comes s h rows holds name is_name new value rest p.1 long by_id))
      ]

  pub all_comes : (pairs done : List Pair) (h : Held) (words : List Text) → Holds s h (pair_rows done) → SpellsOptions table pairs words
      → repeats (given_names (done ++ pairs)) ≡ false → (after : Held) × Comes s h words [] after (pair_rows (done ++ pairs))
  all_comes [] done h words holds spelled once = (
    h,
    record {
      walked = ap (λ (ws : List Text). fold (walked s.rules []) (walk_from h) ws) spelled;
      passes = ap (λ (ws : List Text). walk_passes s [] (walk_from h) ws) spelled;
      holds = subst (λ (ps : List Pair). Holds s h (pair_rows ps)) (sym (append-nil done)) holds;
    },
  )
  all_comes (p ∷ ps) done h words holds spelled once =
      let step = one h (pair_rows done) p.name p.value words spelled.1.0 holds spelled.0 spelled.1.1 (fresh done p ps once) in
      let rows : pair_rows done ++ pair_row p ∷ [] ≡ pair_rows (done ++ p ∷ []) = sym (map-append pair_row done (p ∷ [])) in
      let joins : (done ++ p ∷ []) ++ ps ≡ done ++ p ∷ ps = append_assoc done (p ∷ []) ps in
      let more = all_comes ps (done ++ p ∷ []) step.0 spelled.1.0 (subst (Holds s step.0) rows step.1.holds) spelled.1.2
      (ap (λ (qs : List Pair). repeats (given_names qs)) joins ∙ once) in
      (more.0, subst (λ (qs : List Pair). Comes s h words [] more.0 (pair_rows qs)) joins (then_comes s h step.0 more.0 words spelled.1.0 _ _ step.1 more.1))
