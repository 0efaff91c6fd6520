-- What a call of `clap` gives on words that can be cut.
use Rattle.std.proofs.Common.{◌≡◌, ◌∙◌, true, false, refl, sym, ap, List, [], ◌∷◌, Option, Some, None, option_map, ◌<◌, arith, length, drop}
use Rattle.std.specs.Prelude.{codes, option_and_then}
use Rattle.std.specs.List.{find}
use Rattle.std.specs.Str.{bytes_eq}
use Rattle.std.specs.Borrow.{Bor}
use Rattle.std.proofs.lemmas.Bool.{and_parts, not-true}
use Rattle.clap.specs.Facts.{Entry}
use Rattle.clap.specs.Matches.{found_of, matched_of}
use Rattle.clap.specs.Simple.{App, HasMatchesOf, is_simple, matches_of}
use Rattle.clap.specs.Takes.{takes}
use Rattle.clap.specs.Walk.{Row, first_of, row_of as row_of_entry, rows_of}
use Rattle.clap.specs.declared.parser.matches.Found.{Found}
use Rattle.clap.specs.declared.parser.matches.MatchedArg.{MatchedArg}
use Rattle.clap.proofs.WalkLemmas.{find_row, first_value-rows}
use Rattle.apv_words.specs.Clap.{IsAfterProgram, app_for}
use Rattle.apv_words.specs.Cut.{Cut, Pair}
use Rattle.apv_words.specs.View.{table_view, texts_of}
use Rattle.apv_words.specs.Options.{HasPairs, is_from_words, value_by}
use Rattle.apv_words.specs.Table.{OptionRow, Text, is_table, names_of, repeats, row_by_name}
use Rattle.apv_words.specs.declared.reading.Options.{Options}
use Rattle.apv_words.proofs.Found.{given_found, rows_for, value_by_row}
use Rattle.apv_words.proofs.FirstOptionLemmas.{table_names}
use Rattle.apv_words.proofs.Parsed.{app_is_simple, finds_rows, takes_words}

pub after_first : (words rest : List (Bor Text)) → 0 < length words → rest ≡ drop 1 words → IsAfterProgram (texts_of rest) (texts_of words)
after_first [] rest some is = absurd (omega arith)
after_first (w ∷ ws) rest some is = (w.now, ap (λ (xs : List (Bor Text)). w.now ∷ texts_of xs) (sym is))

names_once : (table : List OptionRow) → is_table table ≡ true → repeats (names_of table) ≡ false
names_once table ok = not-true _ (and_parts _ _ ok).1

pub taken : (a : App) (table : List OptionRow) (words rest : List Text) (pairs : List Pair) → a ≡ app_for (codes "apv") table → is_table table ≡ true
    → IsAfterProgram rest words → Cut table rest pairs → takes a words ≡ true
taken a table words rest pairs is ok after cut =
    ap (λ (x : App). takes x words) is ∙ ap (takes (app_for (codes "apv") table)) after.1 ∙ takes_words (codes "apv") after.0 table rest pairs (table_names table ok) cut

source_found : (f : Found) (id : Text) → option_and_then (λ (a : MatchedArg). a.source) (matched_of f id)
    ≡ option_and_then (λ (r : Row). r.source) (find (λ r. bytes_eq r.id id) (rows_of f))
source_found f id = go (find (λ e. bytes_eq e.0.now id) f.entries.items) ∙ ap (option_and_then (λ (r : Row). r.source)) (sym (find_row f.entries.items id))
  where
    go : (o : Option Entry) → option_and_then (λ (a : MatchedArg). a.source) (option_map (λ e. e.1) o)
        ≡ option_and_then (λ (r : Row). r.source) (option_map row_of_entry o)
    go None = refl
    go (Some e) = refl

pub matched : (a : App) (options : Options) (words rest : List Text) (pairs : List Pair) → a ≡ app_for (codes "apv") (table_view options.table.now) → is_table (table_view options.table.now) ≡ true
    → IsAfterProgram rest words → Cut (table_view options.table.now) rest pairs → HasMatchesOf a words options.matches → HasPairs rest options pairs
matched a options words rest pairs is ok after cut has =
    let table = (table_view options.table.now) in
    let exact = has (ap is_simple is ∙ app_is_simple (codes "apv") table) in
    let rows : rows_of (found_of options.matches) ≡ rows_for table pairs =
    exact.0 ∙ ap (λ (x : App). matches_of x words) is ∙ ap (matches_of (app_for (codes "apv") table)) after.1
    ∙ finds_rows (codes "apv") after.0 table rest pairs (table_names table ok) cut in
    record {
      cut = cut;
      values = λ name. ap (value_by (row_by_name table name)) (first_value-rows (found_of options.matches) name ∙ ap (first_of name) rows)
          ∙ value_by_row table rest pairs name (names_once table ok) cut;
      given = λ name. ap is_from_words (source_found (found_of options.matches) name ∙ ap (λ (rs : List Row). option_and_then (λ (r : Row). r.source) (find (λ r. bytes_eq r.id name) rs)) rows)
          ∙ given_found table pairs name;
    }
