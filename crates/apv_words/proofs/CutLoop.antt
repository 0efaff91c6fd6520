-- The loop that cuts words.
use Rattle.std.proofs.Common.{◌≡◌, ◌∙◌, ◌+◌, ◌<◌, ◌≤◌, ℕ, Bool, true, false, sym, ap, subst, arith, List, [], ◌∷◌, ◌++◌, length, drop, Some, None}
use Rattle.std.specs.List.{list_any}
use Rattle.std.specs.Str.{bytes_eq}
use Rattle.std.specs.Borrow.{Bor}
use Rattle.std.proofs.lemmas.List.{drop-drop, drop-map, drop_all, length-drop, length-map, map-append}
use Rattle.clap.proofs.WalkLemmas.{list_any-map}
use Rattle.apv_words.specs.Table.{OptionRow, Text, is_table}
use Rattle.apv_words.specs.Cut.{Cut, NoCut, Pair, given_names}
use Rattle.apv_words.specs.FirstOption.{first_option, pair_at, pairs_at}
use Rattle.apv_words.specs.View.{texts_of}
use Rattle.apv_words.specs.declared.cutting.Given.{Given}
use Rattle.apv_words.proofs.FirstOptionLemmas.{first_option_is}
use Rattle.apv_words.proofs.CutLemmas.{Cutting, ends, first_again, none_first, step}

module _ (table : List OptionRow) (words : List (Bor Text)) (taken : ℕ) (givens : List Given) (ok : is_table table ≡ true)
    (so_far : Cutting table (texts_of words) (drop taken (texts_of words)) (pairs_at givens)) where
  pub cut_ends : length words ≤ taken → Cut table (texts_of words) (pairs_at givens)
  cut_ends past =
      let all : drop taken (texts_of words) ≡ [] = drop_all taken (texts_of words) (omega (arith, length-map words (λ (w : Bor Text). w.now))) in
      ends table (texts_of words) (pairs_at givens) (subst (λ (ws : List Text). Cutting table (texts_of words) ws (pairs_at givens)) all so_far)

  module _ (rest : List (Bor Text)) (is : rest ≡ drop taken words) where
    first_there : first_option table (drop taken (texts_of words)) ≡ first_option table (texts_of rest)
    first_there = ap (first_option table) (drop-map (λ (w : Bor Text). w.now) taken words ∙ sym (ap texts_of is))

    pub cut_fails : taken < length words → first_option table (texts_of rest) ≡ None → NoCut table (texts_of words)
    cut_fails more none =
        none_first table (texts_of words) (drop taken (texts_of words)) (pairs_at givens) ok so_far
        (λ e. let size : length (drop taken (texts_of words)) ≡ 0 = ap length e in
        absurd (omega (arith, length-drop taken (texts_of words), length-map words (λ (w : Bor Text). w.now))))
        (first_there ∙ none)

    names_are : (given : Given) (b : Bool) → list_any (λ other. bytes_eq other.name.now given.name.now) givens ≡ b
        → list_any (λ text. bytes_eq text (pair_at given).name) (given_names (pairs_at givens)) ≡ b
    names_are given b e =
        sym (list_any-map (λ text. bytes_eq text given.name.now) (λ (p : Pair). p.name) (pairs_at givens))
        ∙ sym (list_any-map (λ (p : Pair). bytes_eq p.name given.name.now) pair_at givens) ∙ e

    pub cut_repeats : (given : Given) (n : ℕ) → first_option table (texts_of rest) ≡ Some (pair_at given, n)
        → list_any (λ other. bytes_eq other.name.now given.name.now) givens ≡ true → NoCut table (texts_of words)
    cut_repeats given n begins seen =
        first_again table (texts_of words) (drop taken (texts_of words)) (pairs_at givens) (pair_at given) n ok so_far (first_there ∙ begins) (names_are given true seen)

    pub first_within : (given : Given) (n : ℕ) → first_option table (texts_of rest) ≡ Some (pair_at given, n) → (0 < n) × (n ≤ length rest)
    first_within given n begins =
        let at = first_option_is table (texts_of rest) (pair_at given) n begins in
        (at.some, omega (arith, at.within, length-map rest (λ (w : Bor Text). w.now)))

    pub cut_more : (given : Given) (n : ℕ) → first_option table (texts_of rest) ≡ Some (pair_at given, n)
        → list_any (λ other. bytes_eq other.name.now given.name.now) givens ≡ false
        → Cutting table (texts_of words) (drop (taken + n) (texts_of words)) (pairs_at (givens ++ given ∷ []))
    cut_more given n begins new =
        let next = step table (texts_of words) (drop taken (texts_of words)) (pairs_at givens) (pair_at given) n ok so_far (first_there ∙ begins) (names_are given false new) in
        let more : Cutting table (texts_of words) (drop (taken + n) (texts_of words)) (pairs_at givens ++ pair_at given ∷ []) =
        subst (λ (ws : List Text). Cutting table (texts_of words) ws (pairs_at givens ++ pair_at given ∷ [])) (drop-drop n taken (texts_of words)) next in
        subst (λ (ps : List Pair). Cutting table (texts_of words) (drop (taken + n) (texts_of words)) ps) (sym (map-append pair_at givens (given ∷ []))) more
