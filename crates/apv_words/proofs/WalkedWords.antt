-- What `clap` makes of the words of one option, and of its value.
use Rattle.std.proofs.Common.{◌≡◌, ◌≢◌, ◌∙◌, ◌&&◌, ◌==◌, not, ℕ, zero, suc, Bool, true, false, refl, sym, ap, ap₂, arith, List, [], ◌∷◌, ◌++◌, append-nil, Option, Some, None, codes, true≢false}
use Rattle.std.specs.Option.{option_map_or}
use Rattle.std.specs.List.{fold, list_all}
use Rattle.std.specs.Str.{bytes_eq}
use Rattle.std.proofs.lemmas.Slice.Eq.{bytes_eq-Decides}
use Rattle.std.proofs.lemmas.Bool.{and_parts, or_parts}
use Rattle.clap.specs.Lexer.{long_of, short_of}
use Rattle.clap.specs.Walk.{Held, Row, Rule, Walk, after_flag, after_step, arg_by_id, arg_by_long, at_row, has_row, idle, long_met, more_values, option, reacted, settled, settled_rows, used, walk_from, walked, with_values, without}
use Rattle.clap.specs.Takes.{long_passes, settle_passes, step_passes, turn_passes, use_passes, walk_passes}
use Rattle.clap.specs.Simple.{Shape}
use Rattle.clap.specs.declared.builder.value_parser.Reading.TheVariants.{AsWritten}
use Rattle.clap.specs.declared.parser.matches.ValueSource.TheVariants.{CommandLine}
use Rattle.clap.proofs.CutLemmas.{Lacks}
use Rattle.clap.proofs.LexerLemmas.{name_and_value-at, name_and_value-without}
use Rattle.apv_words.specs.Table.{Text, is_option_name}
use Rattle.apv_words.specs.Cut.{Pair, dashed, joined, may_stand_alone}
use Rattle.apv_words.proofs.Rules.{rule_at}

-- ---- what a word looks like

differs : (x : ℕ) → not (x == 61) ≡ true → x ≢ 61
differs x t e = absurd (true≢false (sym t ∙ ap (λ n. not (n == 61)) e))

lacks_from : (text : List ℕ) → list_all (λ x. not (x == 61)) text ≡ true → Lacks 61 text
lacks_from [] t i lt = absurd (omega arith)
lacks_from (x ∷ xs) t zero lt = differs x (and_parts _ _ t).0
lacks_from (x ∷ xs) t (suc i) lt = lacks_from xs (and_parts _ _ t).1 i (omega arith)

-- the word is a flag of that name, with that value
pub record IsFlag (word name : Text) (value : Option Text) : Type 0 where
  pub long : long_of word ≡ Some (name, value)
  pub dashes : bytes_eq word (45 ∷ 45 ∷ []) ≡ false

pub joined_flag : (name value : Text) → is_option_name name ≡ true → IsFlag (joined name value) name (Some value)
joined_flag [] value e = absurd (true≢false (sym e))
joined_flag (n ∷ ns) value e = record { long = ap Some (name_and_value-at (n ∷ ns) value (lacks_from (n ∷ ns) e)); dashes = refl }

pub dashed_flag : (name : Text) → is_option_name name ≡ true → IsFlag (dashed name) name None
dashed_flag [] e = absurd (true≢false (sym e))
dashed_flag (n ∷ ns) e = record { long = ap Some (name_and_value-without (n ∷ ns) (lacks_from (n ∷ ns) e)); dashes = refl }

-- a value of its own is no flag
pub record IsNoFlag (word : Text) : Type 0 where
  pub long : long_of word ≡ None
  pub short : short_of word ≡ None
  pub dashes : bytes_eq word (45 ∷ 45 ∷ []) ≡ false

pub alone : (word : Text) → may_stand_alone word ≡ true → IsNoFlag word
alone [] e = record { long = refl; short = refl; dashes = refl }
alone (b ∷ []) e = go (b == 45) refl
  where
    go : (t : Bool) → (b == 45) ≡ t → IsNoFlag (b ∷ [])
    go true is = record { long = rw is; short = rw is; dashes = rw is }
    go false is = record { long = rw is; short = rw is; dashes = rw is }
alone (b ∷ c ∷ rest) e = go (b == 45) refl e
  where
    go : (t : Bool) → (b == 45) ≡ t → not t ≡ true → IsNoFlag (b ∷ c ∷ rest)
    go true is f = absurd (true≢false (sym f))
    go false is f = record { long = rw is; short = rw is; dashes = rw is }

-- ---- one use of an option

-- the row of an option that is given
abbrev pub pair_row : Pair → Row
pair_row pair = record {
  id = pair.name;
  values = option_map_or (λ v. v ∷ []) pair.value (codes "true" ∷ []);
  count = None;
  source = Some CommandLine;
  reading = AsWritten;
}

abbrev pub flag_row : Text → Row
flag_row name = pair_row (record { name = name; value = None })

abbrev pub value_row : Text → Text → Row
value_row name value = pair_row (record { name = name; value = Some value })

pub absent : (id : Text) (change : Row → List Row) (missing rows : List Row) → has_row id rows ≡ false → at_row id change missing rows ≡ rows ++ missing
absent id change missing [] e = refl
absent id change missing (r ∷ rs) e =
    let parts = or_parts _ _ e in
    let miss : bytes_eq r.id id ≡ false = parts.0 in
    rw miss (ap (λ xs. r ∷ xs) (absent id change missing rs parts.1))

added : (id : Text) (values : List Text) (rows : List Row) → has_row id rows ≡ false
    → with_values id AsWritten CommandLine values (without id rows)
    ≡ rows ++ record { id = id; values = values; count = None; source = Some CommandLine; reading = AsWritten } ∷ []
added id values rows e =
    ap (with_values id AsWritten CommandLine values) (absent id (λ _. []) [] rows e ∙ append-nil rows)
    ∙ absent id (more_values CommandLine values) _ rows e

value_used : (name value : Text) (rows : List Row) → has_row name rows ≡ false → used (rule_at name true) (value ∷ []) rows ≡ rows ++ value_row name value ∷ []
value_used name value rows e = added name (value ∷ []) rows e

flag_used : (name : Text) (rows : List Row) → has_row name rows ≡ false → used (rule_at name false) [] rows ≡ rows ++ flag_row name ∷ []
flag_used name rows e = added name (codes "true" ∷ []) rows e

value_passes : (again : Bool) (name value : Text) (rows : List Row) → has_row name rows ≡ false → use_passes again (rule_at name true) (value ∷ []) rows ≡ true
value_passes again name value rows e = rw e refl

flag_passes : (again : Bool) (name : Text) (rows : List Row) → has_row name rows ≡ false → use_passes again (rule_at name false) [] rows ≡ true
flag_passes again name rows e = rw e refl

-- ---- the words of one option

-- what is held are these rows, once what waits is used, and that use passes
pub record Holds (s : Shape) (h : Held) (rows : List Row) : Type 0 where
  pub settled : settled_rows s.rules h.pending h.rows ≡ rows
  pub passes : settle_passes s.rules s.args_override_self h ≡ true

-- the walk over these words comes to these rows before the rest
pub record Comes (s : Shape) (h : Held) (words rest : List Text) (after : Held) (rows : List Row) : Type 0 where
  pub walked : fold (walked s.rules []) (walk_from h) words ≡ fold (walked s.rules []) (walk_from after) rest
  pub passes : walk_passes s [] (walk_from h) words ≡ walk_passes s [] (walk_from after) rest
  pub holds : Holds s after rows

-- one more word, where its turn passes
one_word : (s : Shape) (h after : Held) (word : Text) (rest : List Text) (rows : List Row) → walked s.rules [] (walk_from h) word ≡ walk_from after
    → turn_passes s [] (walk_from h) word ≡ true → Holds s after rows → Comes s h (word ∷ rest) rest after rows
unfolding walk_passes
one_word s h after word rest rows is turn holds = record {
  walked = ap (λ (w : Walk). fold (walked s.rules []) w rest) is;
  passes = ap₂ (λ (b : Bool) (w : Walk). b && walk_passes s [] w rest) turn is;
  holds = holds;
}

flag_walked : (c : List Rule) (h : Held) (word name : Text) (value : Option Text) (a : Rule) → IsFlag word name value → arg_by_long c name ≡ Some a
    → walked c [] (walk_from h) word
    ≡ after_step c word (walk_from h) (after_flag c idle word (long_met c (Some a) value h).0 (long_met c (Some a) value h).1).0
    (after_flag c idle word (long_met c (Some a) value h).0 (long_met c (Some a) value h).1).1
unfolding walked
flag_walked c h word name value a flag found = rw (flag.dashes, flag.long, found) refl

flag_turn : (s : Shape) (h : Held) (word name : Text) (value : Option Text) (a : Rule) → IsFlag word name value → arg_by_long s.rules name ≡ Some a
    → turn_passes s [] (walk_from h) word
    ≡ (long_passes s.rules s.args_override_self (Some a) value h
    && step_passes s 1 (after_flag s.rules idle word (long_met s.rules (Some a) value h).0 (long_met s.rules (Some a) value h).1).0
    (after_flag s.rules idle word (long_met s.rules (Some a) value h).0 (long_met s.rules (Some a) value h).1).1)
flag_turn s h word name value a flag found = rw (flag.dashes, flag.long, found) refl

react_holds : (s : Shape) (h : Held) (a : Rule) (values : List Text) (rows new : List Row) → Holds s h rows → used a values rows ≡ new → Holds s (reacted s.rules a values h) new
react_holds s h a values rows new holds is = record { settled = ap (used a values) holds.settled ∙ is; passes = refl }

module _ (s : Shape) (h : Held) (rows : List Row) (holds : Holds s h rows) (name : Text) (is_name : is_option_name name ≡ true) (new : has_row name rows ≡ false) where
  -- `--name=value`
  pub joined_comes : (value : Text) (rest : List Text) → arg_by_long s.rules name ≡ Some (rule_at name true)
      → Comes s h (joined name value ∷ rest) rest (reacted s.rules (rule_at name true) (value ∷ []) h) (rows ++ value_row name value ∷ [])
  joined_comes value rest found =
      let flag = joined_flag name value is_name in
      let passes : settle_passes s.rules s.args_override_self h && use_passes s.args_override_self (rule_at name true) (value ∷ []) (settled s.rules h).rows ≡ true =
      rw (holds.passes, holds.settled) (value_passes s.args_override_self name value rows new) in
      one_word s h _ (joined name value) rest _ (flag_walked s.rules h (joined name value) name (Some value) (rule_at name true) flag found)
      (flag_turn s h (joined name value) name (Some value) (rule_at name true) flag found ∙ ap (λ b. b && true) passes)
      (react_holds s h (rule_at name true) (value ∷ []) rows _ holds (value_used name value rows new))

  -- `--name` of a flag
  pub flag_comes : (rest : List Text) → arg_by_long s.rules name ≡ Some (rule_at name false)
      → Comes s h (dashed name ∷ rest) rest (reacted s.rules (rule_at name false) [] h) (rows ++ flag_row name ∷ [])
  flag_comes rest found =
      let flag = dashed_flag name is_name in
      let passes : settle_passes s.rules s.args_override_self h && use_passes s.args_override_self (rule_at name false) [] (settled s.rules h).rows ≡ true =
      rw (holds.passes, holds.settled) (flag_passes s.args_override_self name rows new) in
      one_word s h _ (dashed name) rest _ (flag_walked s.rules h (dashed name) name None (rule_at name false) flag found)
      (flag_turn s h (dashed name) name None (rule_at name false) flag found ∙ ap (λ b. b && true) passes)
      (react_holds s h (rule_at name false) [] rows _ holds (flag_used name rows new))

-- the walk between an option and a value of its own
abbrev waits_from : Held → Text → Walk
waits_from h name = record { held = h; waiting = option name; position = 1; is_trailing = false; stopped = None }

-- the option's own value
abbrev given_to : Text → Text → Held → Held
given_to name value h = record h { pending = Some (name, value ∷ []) }

plain_walked : (c : List Rule) (h : Held) (name value : Text) → IsNoFlag value → arg_by_id c name ≡ Some (rule_at name true)
    → walked c [] (waits_from (record h { pending = Some (name, []) }) name) value ≡ walk_from (given_to name value h)
unfolding walked
plain_walked c h name value plain found =
    let same : bytes_eq name name ≡ true = (bytes_eq-Decides name name).1 refl in
    rw (plain.dashes, plain.long, plain.short, found, same) refl

plain_turn : (s : Shape) (h : Held) (name value : Text) → IsNoFlag value
    → turn_passes s [] (waits_from (record h { pending = Some (name, []) }) name) value ≡ true
plain_turn s h name value plain = rw (plain.dashes, plain.long, plain.short) refl

module _ (s : Shape) (h : Held) (rows : List Row) (holds : Holds s h rows) (name : Text) (is_name : is_option_name name ≡ true) (new : has_row name rows ≡ false) where
  -- `--name value`
  pub apart_comes : (value : Text) (rest : List Text) → may_stand_alone value ≡ true → arg_by_long s.rules name ≡ Some (rule_at name true)
      → arg_by_id s.rules name ≡ Some (rule_at name true)
      → Comes s h (dashed name ∷ value ∷ rest) rest (given_to name value (settled s.rules h)) (rows ++ value_row name value ∷ [])
  unfolding walk_passes
  apart_comes value rest may long by_id =
      let flag = dashed_flag name is_name in
      let plain = alone value may in
      let between : Held = record (settled s.rules h) { pending = Some (name, []) } in
      let first : walked s.rules [] (walk_from h) (dashed name) ≡ waits_from between name = flag_walked s.rules h (dashed name) name None (rule_at name true) flag long in
      let second : walked s.rules [] (waits_from between name) value ≡ walk_from (given_to name value (settled s.rules h)) =
      plain_walked s.rules (settled s.rules h) name value plain by_id in
      let first_turn : turn_passes s [] (walk_from h) (dashed name) ≡ true =
      flag_turn s h (dashed name) name None (rule_at name true) flag long ∙ ap (λ b. b && true) holds.passes in
      let second_turn : turn_passes s [] (waits_from between name) value ≡ true = plain_turn s (settled s.rules h) name value plain in
      let uses : settled_rows s.rules (Some (name, value ∷ [])) (settled s.rules h).rows ≡ rows ++ value_row name value ∷ [] =
      rw (by_id, holds.settled) (value_used name value rows new) in
      let passes : settle_passes s.rules s.args_override_self (given_to name value (settled s.rules h)) ≡ true =
      rw (by_id, holds.settled) (value_passes s.args_override_self name value rows new) in
      record {
        walked = ap (λ (w : Walk). fold (walked s.rules []) (walked s.rules [] w value) rest) first ∙ ap (λ (w : Walk). fold (walked s.rules []) w rest) second;
        passes = ap₂ (λ (b : Bool) (w : Walk). b && (turn_passes s [] w value && walk_passes s [] (walked s.rules [] w value) rest)) first_turn first
            ∙ ap₂ (λ (b : Bool) (w : Walk). b && walk_passes s [] w rest) second_turn second;
        holds = record { settled = uses; passes = passes };
      }
