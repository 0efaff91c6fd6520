-- The command that `clap` is given for a table of options: it takes words that can be cut, and what it finds are the
-- rows of these options and the defaults of the flags that aren't given.
use Rattle.std.proofs.Common.{◌≡◌, ◌∙◌, ◌||◌, not, ℕ, Bool, true, false, refl, ap, List, [], ◌∷◌}
use Rattle.std.specs.List.{fold, list_all, list_any}
use Rattle.std.proofs.lemmas.Bool.{and_from}
use Rattle.clap.specs.Walk.{Held, Row, Rule, finished, is_early_multiple, nothing_held, walk, with_default}
use Rattle.clap.specs.Takes.{default_passes, is_given, is_valid, level_passes, settle_passes, takes, walk_passes}
use Rattle.clap.specs.Simple.{App, Shape, built, is_simple, matches_of}
use Rattle.clap.proofs.TakesLemmas.{leaf_takes}
use Rattle.apv_words.specs.Table.{OptionRow, Text, is_option_name, names_of, takes_value}
use Rattle.apv_words.specs.Clap.{app_for, plain_rules, shape_with}
use Rattle.apv_words.specs.Cut.{Cut, Pair}
use Rattle.apv_words.proofs.Rules.{filled_rules, rule_at, rules_at}
use Rattle.apv_words.proofs.WalkedWords.{Comes}
use Rattle.apv_words.proofs.WalkedAll.{all_comes, pair_rows}

-- the command once `clap` has built it
abbrev pub built_shape : Text → List Rule → Shape
built_shape program rules = record (shape_with program rules) { disable_help_subcommand = true; is_built = true }

abbrev pub built_for : Text → List OptionRow → App
built_for program table = record { top = built_shape program (rules_at table); subs = [] }

is_built : (program : Text) (table : List OptionRow) → built (app_for program table) ≡ built_for program table
is_built program table = ap (λ (rules : List Rule). record { top = built_shape program rules; subs = [] }) (filled_rules 1 table)

plain_are_simple : (table : List OptionRow) → list_all (λ a. a.is_simple) (plain_rules table) ≡ true
plain_are_simple [] = refl
plain_are_simple (row ∷ rows) = plain_are_simple rows

rules_are_simple : (table : List OptionRow) → list_all (λ a. a.is_simple) (rules_at table) ≡ true
rules_are_simple [] = refl
rules_are_simple (row ∷ rows) = rules_are_simple rows

rules_are_free : (table : List OptionRow) → list_all (λ a. a.is_free) (rules_at table) ≡ true
rules_are_free [] = refl
rules_are_free (row ∷ rows) = rules_are_free rows

none_is_early : (n : ℕ) (table : List OptionRow) → list_any (is_early_multiple n) (rules_at table) ≡ false
none_is_early n [] = refl
none_is_early n (row ∷ rows) = none_is_early n rows

none_is_required : (found : List Row) (table : List OptionRow) → list_all (λ a. not a.required || is_given a.id found) (rules_at table) ≡ true
none_is_required found [] = refl
none_is_required found (row ∷ rows) = none_is_required found rows

valid : (program : Text) (table : List OptionRow) (found : List Row) → is_valid (built_shape program (rules_at table)) found false ≡ true
valid program table found = and_from _ _ (rules_are_free table) (none_is_required found table)

default_passes_at : (name : Text) (takes : Bool) → default_passes (rule_at name takes) ≡ true
default_passes_at name true = refl
default_passes_at name false = refl

defaults_pass : (table : List OptionRow) → list_all default_passes (rules_at table) ≡ true
defaults_pass [] = refl
defaults_pass (row ∷ rows) = and_from _ _ (default_passes_at row.name (takes_value row.kind)) (defaults_pass rows)

pub app_is_simple : (program : Text) (table : List OptionRow) → is_simple (app_for program table) ≡ true
app_is_simple program table = rw (plain_are_simple table, filled_rules 1 table, rules_are_simple table, none_is_early _ table) refl

module _ (program first : Text) (table : List OptionRow) (words : List Text) (pairs : List Pair) (names : list_all is_option_name (names_of table) ≡ true) (cut : Cut table words pairs) where
  comes : (after : Held) × Comes (built_shape program (rules_at table)) nothing_held words [] after (pair_rows pairs)
  comes = all_comes table (built_shape program (rules_at table)) refl names pairs [] nothing_held words (record { settled = refl; passes = refl }) cut.spelled cut.once

  held_is : (walk (rules_at table) [] nothing_held words).held ≡ comes.0
  held_is = ap (λ w. w.held) comes.1.walked

  pub level : level_passes (built_shape program (rules_at table)) [] nothing_held words false ≡ true
  unfolding walk_passes
  level = and_from _ _ comes.1.passes (and_from _ _ (rw held_is comes.1.holds.passes)
      (and_from _ _ (defaults_pass table) (valid program table _)))

  -- `clap` takes the words
  pub takes_words : takes (app_for program table) (first ∷ words) ≡ true
  takes_words = and_from _ _ (app_is_simple program table)
      (ap (λ (a : App). Rattle.clap.specs.Takes.built_takes a nothing_held words) (is_built program table)
      ∙ leaf_takes (built_for program table) nothing_held words refl level)

  -- and finds these rows
  pub finds_rows : matches_of (app_for program table) (first ∷ words) ≡ fold with_default (pair_rows pairs) (rules_at table)
  finds_rows =
      ap (λ (rules : List Rule). finished rules (walk rules [] nothing_held words).held) (filled_rules 1 table)
      ∙ ap (λ (h : Held). finished (rules_at table) h) held_is
      ∙ ap (λ (rows : List Row). fold with_default rows (rules_at table)) comes.1.holds.settled
