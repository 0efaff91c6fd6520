-- Words have one cut at most and one answer.
use Rattle.std.proofs.Common.{◌≡◌, ◌∙◌, ◌≤◌, ℕ, zero, suc, Bool, true, false, refl, sym, ap, arith, inl, inr, List, [], ◌∷◌, length, drop, Option, Some, None}
use Rattle.std.specs.List.{list_any}
use Rattle.std.specs.Str.{bytes_eq}
use Rattle.std.proofs.lemmas.List.{length-drop}
use Rattle.apv_base.specs.declared.options.UsageKind.{UsageKind}
use Rattle.apv_base.specs.declared.options.UsageKind.TheVariants.{Words}
use Rattle.apv_words.specs.Cut.{Cut, Pair, given_names}
use Rattle.apv_words.specs.Decoder.{settings_by}
use Rattle.apv_words.specs.Fault.{HasFault, fault_of}
use Rattle.apv_words.specs.FirstOption.{FirstOption, first_option}
use Rattle.apv_words.specs.Given.{is_given, value_of}
use Rattle.apv_words.specs.Laws.{HasOneFault, HasOneSettings, HasSettingsOrFault, HasSomeCut}
use Rattle.apv_words.specs.Settings.{Gives, SettingsBy}
use Rattle.apv_words.specs.Table.{OptionRow, Text, is_table}
use Rattle.apv_words.proofs.CutLemmas.{Cutting, ends, first_again, none_first, one_cut, start, step}
use Rattle.apv_words.proofs.FirstOptionLemmas.{first_option_is}

-- the cut of the rest, which is at most n words
cut_rest : (table : List OptionRow) (words : List Text) → is_table table ≡ true → (n : ℕ) (rest : List Text) (pairs : List Pair) → length rest ≤ n
    → Cutting table words rest pairs → HasSomeCut table words
cut_rest table words ok n [] pairs short so_far = inl (pairs, ends table words pairs so_far)
cut_rest table words ok zero (first ∷ more) pairs short so_far = absurd (omega arith)
cut_rest table words ok (suc n) (first ∷ more) pairs short so_far = by_first (first_option table (first ∷ more)) refl (cut_rest table words ok n)
  where
    by_name : (pair : Pair) (k : ℕ) (seen : Bool) → first_option table (first ∷ more) ≡ Some (pair, k)
        → list_any (λ text. bytes_eq text pair.name) (given_names pairs) ≡ seen
        → ((rest : List Text) (ps : List Pair) → length rest ≤ n → Cutting table words rest ps → HasSomeCut table words) → HasSomeCut table words
    by_name pair k true begins seen go = inr (first_again table words (first ∷ more) pairs pair k ok so_far begins seen)
    by_name pair k false begins seen go =
        let at = first_option_is table (first ∷ more) pair k begins in
        let shorter : length (drop k (first ∷ more)) ≤ n = omega (arith, length-drop k (first ∷ more), at.some, at.within, short) in
        go (drop k (first ∷ more)) _ shorter (step table words (first ∷ more) pairs pair k ok so_far begins seen)

    by_first : (begins : FirstOption) → first_option table (first ∷ more) ≡ begins
        → ((rest : List Text) (ps : List Pair) → length rest ≤ n → Cutting table words rest ps → HasSomeCut table words) → HasSomeCut table words
    by_first None is go = inr (none_first table words (first ∷ more) pairs ok so_far (λ e. let bad : ◌≡◌ {A = List Text} (first ∷ more) [] = e in cc) is)
    by_first (Some (pair, k)) is go = by_name pair k (list_any (λ text. bytes_eq text pair.name) (given_names pairs)) is refl go

pub some_cut : (table : List OptionRow) → is_table table ≡ true → (words : List Text) → HasSomeCut table words
some_cut table ok words = cut_rest table words ok (length words) words [] (omega arith) (start table words)

pub one_fault : (table : List OptionRow) → is_table table ≡ true → (words : List Text) → HasOneFault table words
one_fault table ok words one other (inl a) (inl b) = a.0 ∙ sym b.0
one_fault table ok words one other (inl a) (inr b) = absurd (a.1 b.0 b.1)
one_fault table ok words one other (inr a) (inl b) = absurd (b.1 a.0 a.1)
one_fault table ok words one other (inr a) (inr b) =
    let same = one_cut table words a.0 b.0 ok a.1 b.1 in
    let kinds : Some one ≡ Some other = sym a.2 ∙ ap (fault_of table) same ∙ b.2 in
    cc

-- settings of any program
module _ {S : Type 0} (by : SettingsBy S) (table : List OptionRow) (ok : is_table table ≡ true) (words : List Text) where
  pub one_given : HasOneSettings by table words
  one_given =
      (λ one other a b. a.3 ∙ ap (λ (ps : List Pair). by (value_of ps) (is_given ps)) (one_cut table words a.0 b.0 ok a.1 b.1) ∙ sym b.3, λ settings kind a f. apart a f)
    where
      apart : {settings : S} {kind : UsageKind} → Gives by table words settings → HasFault table words kind → ⊥
      apart a (inl b) = b.1 a.0 a.1
      apart {kind = kind} a (inr b) =
          let same = one_cut table words a.0 b.0 ok a.1 b.1 in
          let bad : ◌≡◌ {A = Option UsageKind} None (Some kind) = sym a.2 ∙ ap (fault_of table) same ∙ b.2 in
          cc

  pub some_given : HasSettingsOrFault by table words
  some_given = by_cut (some_cut table ok words)
    where
      by_fault : (pairs : List Pair) → Cut table words pairs → (fault : Option UsageKind) → fault_of table pairs ≡ fault → HasSettingsOrFault by table words
      by_fault pairs cut None is = inl (by (value_of pairs) (is_given pairs), (pairs, cut, is, refl))
      by_fault pairs cut (Some kind) is = inr (kind, inr (pairs, cut, is))

      by_cut : HasSomeCut table words → HasSettingsOrFault by table words
      by_cut (inl p) = by_fault p.0 p.1 (fault_of table p.0) refl
      by_cut (inr none) = inr (Words, inl (refl, none))

-- settings of the decoder
pub one_settings : (table : List OptionRow) → is_table table ≡ true → (words : List Text) → HasOneSettings settings_by table words
one_settings = one_given settings_by
