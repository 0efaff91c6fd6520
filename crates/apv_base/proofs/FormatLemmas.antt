-- Formats agree, or differ in one way.
use Rattle.std.proofs.Common.{◌≡◌, ◌≢◌, ℕ, List, [], ◌∷◌, ◌++◌, refl, sym, ap, ap₂, ◌∙◌, subst, Option, Some, None, ◌⊎◌, inl, inr}
use Rattle.std.specs.List.{AllByRecursion}
use Rattle.std.proofs.lemmas.Bool.{cases_eq}
use Rattle.apv_base.specs.declared.exits.Exit.{Exit}
use Rattle.apv_base.specs.declared.exits.Exit.TheVariants.{NoTag, FormatChange}
use Rattle.apv_base.specs.declared.format.Chroma.{Chroma}
use Rattle.apv_base.specs.declared.format.Format.{Format}
use Rattle.apv_base.specs.laws.Answer.{HasOneAnswer, HasSomeAnswer}
use Rattle.apv_base.specs.model.Format.{idc_of, chroma_of}
use Rattle.apv_base.specs.model.Output.{AreOne, FormatsDiffer, no_tag, other_format}
use Rattle.apv_base.specs.model.Video.{tag_of}
use Rattle.apv_base.proofs.HeaderLemmas.{chroma-idc}
use Rattle.apv_base.proofs.SplitLemmas.{splits, same, first, second}

-- ---- one format or another

some-same : (a b : Chroma) → ◌≡◌ {A = Option Chroma} (Some a) (Some b) → a ≡ b
some-same a b e = cc

-- a chroma format is determined by its code
pub one-chroma : (a b : Chroma) → idc_of a ≡ idc_of b → a ≡ b
one-chroma a b e = some-same a b (sym (chroma-idc a) ∙ ap chroma_of e ∙ chroma-idc b)

one-format : (f g : Format) → f.width ≡ g.width → f.height ≡ g.height → f.chroma ≡ g.chroma → f.depth ≡ g.depth → f ≡ g
one-format f g w h c d =
    let one : ◌≡◌ {A = Format} f (record { width = g.width; height = g.height; chroma = f.chroma; depth = f.depth }) = ap₂ {C = Format} (λ (x y : ℕ). record { width = x; height = y; chroma = f.chroma; depth = f.depth }) w h in
    let two : ◌≡◌ {A = Format} (record { width = g.width; height = g.height; chroma = f.chroma; depth = f.depth }) g = ap₂ {C = Format} (λ (x : Chroma) (y : ℕ). record { width = g.width; height = g.height; chroma = x; depth = y }) c d in
    one ∙ two

cases_Format : (f g : Format) → (f ≡ g) ⊎ (f ≢ g)
cases_Format f g = elim (cases_eq f.width g.width) [
  | inr ne ↦ inr (λ e. ne (ap (λ (x : Format). x.width) e))
  | inl w ↦ elim (cases_eq f.height g.height) [
    | inr ne ↦ inr (λ e. ne (ap (λ (x : Format). x.height) e))
    | inl h ↦ elim (cases_eq (idc_of f.chroma) (idc_of g.chroma)) [
      | inr ne ↦ inr (λ e. ne (ap (λ (x : Format). idc_of x.chroma) e))
      | inl c ↦ elim (cases_eq f.depth g.depth) [
        | inr ne ↦ inr (λ e. ne (ap (λ (x : Format). x.depth) e))
        | inl d ↦ inl (one-format f g w h (one-chroma f.chroma g.chroma c) d)
      ]
    ]
  ]
]

-- ---- formats

-- all are the first one
abbrev AreSame : Format → List Format → Type 0
AreSame one formats = AllByRecursion (λ format. format ≡ one) formats

same-at : (one : Format) (prefix : List Format) (other : Format) (more : List Format) → AreSame one (prefix ++ other ∷ more) → other ≡ one
same-at one [] other more all = all.0
same-at one (format ∷ prefix) other more all = same-at one prefix other more all.1

-- formats that are one have no other one
one-or-other : {A : Type 0} (all : List Format) (one : Format) (prefix : List Format) (other : Format) (more : List Format) → all ≡ one ∷ (prefix ++ other ∷ more) → AreOne all → other ≢ one → A
one-or-other all one prefix other more e o ne = absurd (ne (same-at one prefix other more (subst AreOne e o).1))

-- they have a tag
one-tag : {A : Type 0} (all : List Format) (one : Format) (more : List Format) → all ≡ one ∷ more → AreOne all → tag_of one ≡ None → A
one-tag all one more e o none = absurd ((subst AreOne e o).0 none)

pub agree-or-differ : {A : Type 0} (all : List Format) (exit : Exit) → AreOne all → FormatsDiffer all exit → A
agree-or-differ all exit o (no_tag one more e none) = one-tag all one more e o none
agree-or-differ all exit o (other_format one prefix other more e are ne) = one-or-other all one prefix other more e o ne

change-along : (f g a b : Format) → f ≡ g → a ≡ b → FormatChange f a ≡ FormatChange g b
change-along f g a b e e' = ap₂ {C = Exit} (λ (x y : Format). FormatChange x y) e e'

-- no other format is among the same ones
among-same : {A : Type 0} (one other first_one : Format) (prefix more same_ones : List Format) → first_one ≡ one → same_ones ≡ prefix ++ other ∷ more → AreOne (first_one ∷ same_ones) → other ≢ one → A
among-same one other first_one prefix more same_ones e parts are ne = absurd (ne (same-at first_one prefix other more (subst (AreSame first_one) parts are.1) ∙ e))

one-change : (a b : Format) (s t : List Format) (x y : Format) (m l : List Format) → a ∷ (s ++ x ∷ m) ≡ b ∷ (t ++ y ∷ l) → AreOne (a ∷ s) → AreOne (b ∷ t) → x ≢ a → y ≢ b → FormatChange a x ≡ FormatChange b y
one-change a b s t x y m l e p q ne ne' =
    let heads : a ≡ b = cc in
    let tails : s ++ x ∷ m ≡ t ++ y ∷ l = cc in
    elim (splits s x m t y l tails) [
      | same f g ↦ change-along a b x y heads g
      | first more f ↦ among-same a x b s more t (sym heads) f q ne
      | second more f ↦ among-same b y a t more s heads f p ne'
    ]

no-tag-first : (one : Format) (same_ones : List Format) → AreOne (one ∷ same_ones) → tag_of one ≢ None
no-tag-first one same_ones are = are.0

tag-or-none : {A : Type 0} (a b : Format) (xs ys zs : List Format) → a ∷ xs ≡ b ∷ ys → tag_of a ≡ None → AreOne (b ∷ zs) → A
tag-or-none a b xs ys zs e none are = let heads : a ≡ b = cc in absurd (are.0 (ap tag_of (sym heads) ∙ none))

pub one-difference : (all : List Format) (e f : Exit) → FormatsDiffer all e → FormatsDiffer all f → e ≡ f
one-difference all e f (no_tag a m p none) (no_tag b m' p' none') = let heads : a ≡ b = cc (p, p') in ap (λ (x : Format). NoTag x) heads
one-difference all e f (no_tag a m p none) (other_format b t y l p' q ne) = tag-or-none a b m (t ++ y ∷ l) t (sym p ∙ p') none q
one-difference all e f (other_format a s x m p q ne) (no_tag b m' p' none) = tag-or-none b a m' (s ++ x ∷ m) s (sym p' ∙ p) none q
one-difference all e f (other_format a s x m p q ne) (other_format b t y l p' q' ne') = one-change a b s t x y m l (sym p ∙ p') q q' ne ne'

-- all are the same, or another one follows some
data SameOr (one : Format) (formats : List Format) : Type 0 where
  all_same : AreSame one formats → SameOr one formats
  other_one : (prefix : List Format) (other : Format) (more : List Format) → formats ≡ prefix ++ other ∷ more → AreSame one prefix → other ≢ one → SameOr one formats

same-more : (one f : Format) (formats : List Format) → f ≡ one → SameOr one formats → SameOr one (f ∷ formats)
same-more one f formats e (all_same all) = all_same (e, all)
same-more one f formats e (other_one prefix other more p all ne) = other_one (f ∷ prefix) other more (ap (λ (xs : List Format). f ∷ xs) p) (e, all) ne

same-or : (one : Format) (formats : List Format) → SameOr one formats
same-or one [] = all_same tt
same-or one (f ∷ formats) = elim (cases_Format f one) [
  | inl e ↦ same-more one f formats e (same-or one formats)
  | inr ne ↦ other_one [] f formats refl tt ne
]

cases_tag : (tag : Option (List ℕ)) → (tag ≡ None) ⊎ (tag ≢ None)
cases_tag None = inl refl
cases_tag (Some tag) = inr (λ e. let no : ⊥ = cc in no)

agree-tagged : (one : Format) (more : List Format) → tag_of one ≢ None → SameOr one more → AreOne (one ∷ more) ⊎ ((exit : Exit) × FormatsDiffer (one ∷ more) exit)
agree-tagged one more tag (all_same all) = inl (tag, all)
agree-tagged one more tag (other_one prefix other later p all ne) = inr (FormatChange one other, other_format one prefix other later (ap (λ (xs : List Format). one ∷ xs) p) (tag, all) ne)

-- formats agree or differ
pub agree-or : (all : List Format) → AreOne all ⊎ ((exit : Exit) × FormatsDiffer all exit)
agree-or [] = inl tt
agree-or (one ∷ more) = elim (cases_tag (tag_of one)) [
  | inl none ↦ inr (NoTag one, no_tag one more refl none)
  | inr tag ↦ agree-tagged one more tag (same-or one more)
]

pub formats-once : (all : List Format) → HasOneAnswer (λ (u : Unit {0}). AreOne all) (FormatsDiffer all)
formats-once all = record { accepted = λ a b p q. refl; refused = one-difference all; not_both = λ a e p d. agree-or-differ all e p d }

formats-answer : (all : List Format) → AreOne all ⊎ ((exit : Exit) × FormatsDiffer all exit) → HasSomeAnswer (λ (u : Unit {0}). AreOne all) (FormatsDiffer all)
formats-answer all (inl are) = inl (tt, are)
formats-answer all (inr d) = inr d

pub formats-some : (all : List Format) → HasSomeAnswer (λ (u : Unit {0}). AreOne all) (FormatsDiffer all)
formats-some all = formats-answer all (agree-or all)
