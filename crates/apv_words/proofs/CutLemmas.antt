-- The cut of words, option by option; there is one at most.
use Rattle.std.proofs.Common.{◌≡◌, ◌∙◌, ◌||◌, ℕ, Bool, true, false, refl, sym, ap, subst, List, [], ◌∷◌, ◌++◌, drop, append-nil, append_assoc, Some, None, true≢false}
use Rattle.std.specs.List.{list_any}
use Rattle.std.specs.Str.{bytes_eq}
use Rattle.std.proofs.lemmas.Bool.{or_from, or_left, or_parts, or_right}
use Rattle.std.proofs.lemmas.List.{map-append}
use Rattle.apv_words.specs.Table.{OptionRow, Text, is_table, repeats}
use Rattle.apv_words.specs.Cut.{Cut, NoCut, Pair, SpellsOptions, given_names}
use Rattle.apv_words.specs.FirstOption.{FirstOption, first_option}
use Rattle.apv_words.proofs.FirstOptionLemmas.{first_option_found, first_option_is}

-- ---- options that occur once

abbrev is_among : List Text → Text → Bool
is_among names name = list_any (λ text. bytes_eq text name) names

any_push : (text name : Text) (names : List Text) → list_any (bytes_eq text) names ≡ false → bytes_eq text name ≡ false → list_any (bytes_eq text) (names ++ name ∷ []) ≡ false
any_push text name [] e f = or_from _ _ f refl
any_push text name (x ∷ xs) e f = or_from _ _ (or_parts _ _ e).0 (any_push text name xs (or_parts _ _ e).1 f)

once_more : (names : List Text) (name : Text) → repeats names ≡ false → is_among names name ≡ false → repeats (names ++ name ∷ []) ≡ false
once_more [] name e f = refl
once_more (x ∷ xs) name e f =
    let parts = or_parts _ _ e in
    let other = or_parts _ _ f in
    or_from _ _ (any_push x name xs parts.0 other.0) (once_more xs name parts.1 other.1)

any_at : (text : Text) (names : List Text) (name : Text) (more : List Text) → bytes_eq text name ≡ true → list_any (bytes_eq text) (names ++ name ∷ more) ≡ true
any_at text [] name more e = or_left _ _ e
any_at text (x ∷ xs) name more e = or_right _ _ (any_at text xs name more e)

again : (names : List Text) (name : Text) (more : List Text) → is_among names name ≡ true → repeats (names ++ name ∷ more) ≡ true
again [] name more e = absurd (true≢false (sym e))
again (x ∷ xs) name more e = go (bytes_eq x name) refl e (again xs name more)
  where
    go : (b : Bool) → bytes_eq x name ≡ b → (b || is_among xs name) ≡ true → (is_among xs name ≡ true → repeats (xs ++ name ∷ more) ≡ true)
        → (list_any (bytes_eq x) (xs ++ name ∷ more) || repeats (xs ++ name ∷ more)) ≡ true
    go true is f rest = or_left _ _ (any_at x xs name more is)
    go false is f rest = or_right _ _ (rest f)

-- ---- one option after another

-- the words up to the rest are these options, in every cut
pub record Cutting (table : List OptionRow) (words rest : List Text) (pairs : List Pair) : Type 0 where
  pub whole : (more : List Pair) → SpellsOptions table more rest → SpellsOptions table (pairs ++ more) words
  pub only : (all : List Pair) → SpellsOptions table all words → (more : List Pair) × (all ≡ pairs ++ more) × SpellsOptions table more rest
  pub once : repeats (given_names pairs) ≡ false

pub start : (table : List OptionRow) (words : List Text) → Cutting table words words []
start table words = record { whole = λ more s. s; only = λ all s. (all, refl, s); once = refl }

-- in every cut of words the option at their start comes first
first_only : (table : List OptionRow) (rest : List Text) (pair : Pair) (n : ℕ) → is_table table ≡ true → first_option table rest ≡ Some (pair, n) → (all : List Pair) → SpellsOptions table all rest
    → (more : List Pair) × (all ≡ pair ∷ more) × SpellsOptions table more (drop n rest)
first_only table [] pair n ok begins all s = let bad : ◌≡◌ {A = FirstOption} None (Some (pair, n)) = begins in absurd (true≢false (cc))
first_only table (first ∷ rest) pair n ok begins [] s = let bad : ◌≡◌ {A = List Text} (first ∷ rest) [] = s in absurd (true≢false (cc))
first_only table (first ∷ rest) pair n ok begins (p ∷ ps) s =
    let found = first_option_found table (first ∷ rest) s.1.0 p ok s.0 s.1.1 in
    let both : Some (pair, n) ≡ Some (p, found.0) = sym begins ∙ found.1 in
    let inner : (pair, n) ≡ (p, found.0) = cc in
    let same : p ≡ pair = sym (ap (λ (x : Pair × ℕ). x.0) inner) in
    let size : found.0 ≡ n = sym (ap (λ (x : Pair × ℕ). x.1) inner) in
    (ps, ap (λ (q : Pair). q ∷ ps) same, subst (SpellsOptions table ps) (found.2 ∙ ap (λ (k : ℕ). drop k (first ∷ rest)) size) s.1.2)

pub step : (table : List OptionRow) (words rest : List Text) (pairs : List Pair) (pair : Pair) (n : ℕ) → is_table table ≡ true → Cutting table words rest pairs
    → first_option table rest ≡ Some (pair, n) → is_among (given_names pairs) pair.name ≡ false → Cutting table words (drop n rest) (pairs ++ pair ∷ [])
step table words rest pairs pair n ok so_far begins new =
    let is = first_option_is table rest pair n begins in
    record {
      whole = λ more s. subst (λ (ps : List Pair). SpellsOptions table ps words) (sym (append_assoc pairs (pair ∷ []) more)) (so_far.whole (pair ∷ more) (is.option, (drop n rest, is.spells, s)));
      only = λ all s.
          let before = so_far.only all s in
          let here = first_only table rest pair n ok begins before.0 before.2 in
          (here.0, before.1 ∙ ap (λ (ps : List Pair). pairs ++ ps) here.1 ∙ sym (append_assoc pairs (pair ∷ []) here.0), here.2);
      once = ap repeats (map-append (λ (p : Pair). p.name) pairs (pair ∷ [])) ∙ once_more (given_names pairs) pair.name so_far.once new;
    }

pub ends : (table : List OptionRow) (words : List Text) (pairs : List Pair) → Cutting table words [] pairs → Cut table words pairs
ends table words pairs so_far = record { spelled = subst (λ (ps : List Pair). SpellsOptions table ps words) (append-nil pairs) (so_far.whole [] refl); once = so_far.once }

pub none_first : (table : List OptionRow) (words rest : List Text) (pairs : List Pair) → is_table table ≡ true → Cutting table words rest pairs → (rest ≡ [] → ⊥)
    → first_option table rest ≡ None → NoCut table words
none_first table words rest pairs ok so_far some begins all cut = go (so_far.only all cut.spelled)
  where
    at_start : (more : List Pair) → SpellsOptions table more rest → ⊥
    at_start [] s = some s
    at_start (p ∷ ps) s =
        let found = first_option_found table rest s.1.0 p ok s.0 s.1.1 in
        let both : ◌≡◌ {A = FirstOption} None (Some (p, found.0)) = sym begins ∙ found.1 in
        cc

    go : (more : List Pair) × (all ≡ pairs ++ more) × SpellsOptions table more rest → ⊥
    go (more, e, s) = at_start more s

pub first_again : (table : List OptionRow) (words rest : List Text) (pairs : List Pair) (pair : Pair) (n : ℕ) → is_table table ≡ true → Cutting table words rest pairs
    → first_option table rest ≡ Some (pair, n) → is_among (given_names pairs) pair.name ≡ true → NoCut table words
first_again table words rest pairs pair n ok so_far begins seen all cut =
    let before = so_far.only all cut.spelled in
    let here = first_only table rest pair n ok begins before.0 before.2 in
    let names : given_names all ≡ given_names pairs ++ pair.name ∷ given_names here.0 =
    ap given_names (before.1 ∙ ap (λ (ps : List Pair). pairs ++ ps) here.1) ∙ map-append (λ (p : Pair). p.name) pairs (pair ∷ here.0) in
    true≢false (sym (again (given_names pairs) pair.name (given_names here.0) seen) ∙ sym (ap repeats names) ∙ cut.once)

-- ---- one cut

one_spelling : (table : List OptionRow) (ps qs : List Pair) (words : List Text) → is_table table ≡ true → SpellsOptions table ps words → SpellsOptions table qs words → ps ≡ qs
one_spelling table [] [] words ok s t = refl
one_spelling table [] (q ∷ qs) words ok s t =
    let found = first_option_found table words t.1.0 q ok t.0 t.1.1 in
    let none : first_option table words ≡ None = ap (first_option table) s in
    let bad : ◌≡◌ {A = FirstOption} None (Some (q, found.0)) = sym none ∙ found.1 in
    absurd (true≢false (cc))
one_spelling table (p ∷ ps) qs words ok s t =
    let found = first_option_found table words s.1.0 p ok s.0 s.1.1 in
    let here = first_only table words p found.0 ok found.1 qs t in
    let rest : ps ≡ here.0 = one_spelling table ps here.0 s.1.0 ok s.1.2 (subst (SpellsOptions table here.0) (sym found.2) here.2) in
    ap (λ (xs : List Pair). p ∷ xs) rest ∙ sym here.1

pub one_cut : (table : List OptionRow) (words : List Text) (ps qs : List Pair) → is_table table ≡ true → Cut table words ps → Cut table words qs → ps ≡ qs
one_cut table words ps qs ok s t = one_spelling table ps qs words ok s.spelled t.spelled
