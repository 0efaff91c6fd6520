-- Of the rules of strict judging none is broken, or one is at one PBU.
use Rattle.std.proofs.Common.{◌≡◌, ℕ, List, [], ◌∷◌, ◌++◌, length, refl, sym, ap, ap₂, ◌∙◌, subst, arith, true, false, append_assoc, append-nil, length-append, ◌⊎◌, inl, inr}
use Rattle.std.proofs.lemmas.Bool.{cases_Bool}
use Rattle.apv_base.specs.declared.rules.Rule.{Rule}
use Rattle.apv_base.specs.declared.rules.Rule.TheVariants.{V32, V33, V34}
use Rattle.apv_base.specs.laws.Answer.{HasOneAnswer, HasSomeAnswer}
use Rattle.apv_base.specs.model.Pbu.{Pbu}
use Rattle.apv_base.specs.model.Strict.{PbuTest, HoldsNowhere, HoldsFirstAt, has_some, is_primary, is_further_primary, repeats_group, lists_others, IsStrict, StrictBreaks, no_primary, more_primaries, same_group, other_list}
use Rattle.apv_base.proofs.SplitLemmas.{splits, same, first, second, parted, inside, last}

-- ---- the first PBU that passes a test

-- none passes, or one is the first
none-not-first : {A : Type 0} (test : PbuTest) (pbus : List Pbu) (n : ℕ) → HoldsNowhere test pbus → HoldsFirstAt test pbus n → A
none-not-first test pbus n none f = let fails = none f.before f.pbu f.later f.parts in let passes = f.passes in absurd (let no : ⊥ = cc (fails, passes) in no)

-- no first one is in the list before another first one
first-before : {A : Type 0} (test : PbuTest) (pbus : List Pbu) (n : ℕ) (before : List Pbu) (pbu : Pbu) (more : List Pbu) (f : HoldsFirstAt test pbus n) → f.before ≡ before ++ pbu ∷ more → test before pbu ≡ true → A
first-before test pbus n before pbu more f e passes = let fails = f.none before pbu more e in absurd (let no : ⊥ = cc (fails, passes) in no)

one-first : (test : PbuTest) (pbus : List Pbu) (n m : ℕ) → HoldsFirstAt test pbus n → HoldsFirstAt test pbus m → n ≡ m
one-first test pbus n m f g = elim (splits f.before f.pbu f.later g.before g.pbu g.later (sym f.parts ∙ g.parts)) [
  | same e s ↦ sym f.count ∙ ap (length {A = Pbu}) e ∙ g.count
  | first more e ↦ first-before test pbus m f.before f.pbu more g e f.passes
  | second more e ↦ first-before test pbus n g.before g.pbu more f e g.passes
]

none-push : (test : PbuTest) (pbus : List Pbu) (pbu : Pbu) → HoldsNowhere test pbus → test pbus pbu ≡ false → HoldsNowhere test (pbus ++ pbu ∷ [])
none-push test pbus pbu none fails before other later e = elim (parted pbus pbu before other later e) [
  | inside more f ↦ none before other more f
  | last f g ↦ ap₂ test (sym f) (sym g) ∙ fails
]

none-at-all : (test : PbuTest) → HoldsNowhere test []
none-at-all test before pbu later e = absurd (omega (arith, ap (length {A = Pbu}) e, length-append before (pbu ∷ later)))

first-from : (test : PbuTest) (before pbus : List Pbu) → HoldsNowhere test before → HoldsNowhere test (before ++ pbus) ⊎ ((n : ℕ) × HoldsFirstAt test (before ++ pbus) n)
first-from test before [] none = inl (subst (HoldsNowhere test) (sym (append-nil before)) none)
first-from test before (pbu ∷ later) none = elim (cases_Bool (test before pbu)) [
  | inl passes ↦ inr (length before, record { before = before; pbu = pbu; later = later; parts = refl; count = refl; passes = passes; none = none })
  | inr fails ↦ subst (λ (all : List Pbu). HoldsNowhere test all ⊎ ((n : ℕ) × HoldsFirstAt test all n)) (append_assoc before (pbu ∷ []) later)
      (first-from test (before ++ pbu ∷ []) later (none-push test before pbu none fails))
]

none-or-first : (test : PbuTest) (pbus : List Pbu) → HoldsNowhere test pbus ⊎ ((n : ℕ) × HoldsFirstAt test pbus n)
none-or-first test pbus = first-from test [] pbus (none-at-all test)

-- ---- the rules

-- PBUs don't pass the rules and break one
strict-or-broken : {A : Type 0} (pbus : List Pbu) (b : Rule × ℕ) → IsStrict pbus → StrictBreaks pbus b → A
strict-or-broken pbus b s (no_primary e) = let some = s.primary in absurd (let no : ⊥ = cc (some, e) in no)
strict-or-broken pbus b s (more_primaries n p f) = none-not-first is_further_primary pbus n s.one_primary f
strict-or-broken pbus b s (same_group n p o f) = none-not-first repeats_group pbus n s.groups f
strict-or-broken pbus b s (other_list n p o g f) = none-not-first (lists_others pbus) pbus n s.lists f

primary-or-none : {A : Type 0} (pbus : List Pbu) → has_some is_primary pbus ≡ true → has_some is_primary pbus ≡ false → A
primary-or-none pbus p e = absurd (let no : ⊥ = cc (p, e) in no)

-- the same rule, at the same PBU
at-one : (rule : Rule) (n m : ℕ) → n ≡ m → ◌≡◌ {A = Rule × ℕ} (rule, n) (rule, m)
at-one rule n m e = ap {B = Rule × ℕ} (λ (i : ℕ). (rule, i)) e

one-strict : (pbus : List Pbu) (b c : Rule × ℕ) → StrictBreaks pbus b → StrictBreaks pbus c → b ≡ c
one-strict pbus b c (no_primary e) (no_primary e') = refl
one-strict pbus b c (no_primary e) (more_primaries n p f) = primary-or-none pbus p e
one-strict pbus b c (no_primary e) (same_group n p o f) = primary-or-none pbus p e
one-strict pbus b c (no_primary e) (other_list n p o g f) = primary-or-none pbus p e
one-strict pbus b c (more_primaries n p f) (no_primary e) = primary-or-none pbus p e
one-strict pbus b c (more_primaries n p f) (more_primaries m p' f') = at-one V32 n m (one-first is_further_primary pbus n m f f')
one-strict pbus b c (more_primaries n p f) (same_group m p' o f') = none-not-first is_further_primary pbus n o f
one-strict pbus b c (more_primaries n p f) (other_list m p' o g f') = none-not-first is_further_primary pbus n o f
one-strict pbus b c (same_group n p o f) (no_primary e) = primary-or-none pbus p e
one-strict pbus b c (same_group n p o f) (more_primaries m p' f') = none-not-first is_further_primary pbus m o f'
one-strict pbus b c (same_group n p o f) (same_group m p' o' f') = at-one V33 n m (one-first repeats_group pbus n m f f')
one-strict pbus b c (same_group n p o f) (other_list m p' o' g f') = none-not-first repeats_group pbus n g f
one-strict pbus b c (other_list n p o g f) (no_primary e) = primary-or-none pbus p e
one-strict pbus b c (other_list n p o g f) (more_primaries m p' f') = none-not-first is_further_primary pbus m o f'
one-strict pbus b c (other_list n p o g f) (same_group m p' o' f') = none-not-first repeats_group pbus m g f'
one-strict pbus b c (other_list n p o g f) (other_list m p' o' g' f') = at-one V34 n m (one-first (lists_others pbus) pbus n m f f')

pub strict-once : (pbus : List Pbu) → HasOneAnswer (λ (u : Unit {0}). IsStrict pbus) (StrictBreaks pbus)
strict-once pbus = record {
  accepted = λ a b s t. refl;
  refused = one-strict pbus;
  not_both = λ a b s t. strict-or-broken pbus b s t;
}

-- by the lists of access unit information; by groups; by primary frames
strict-lists : (pbus : List Pbu) → has_some is_primary pbus ≡ true → HoldsNowhere is_further_primary pbus → HoldsNowhere repeats_group pbus → HasSomeAnswer (λ (u : Unit {0}). IsStrict pbus) (StrictBreaks pbus)
strict-lists pbus p o g = elim (none-or-first (lists_others pbus) pbus) [
  | inl none ↦ inl (tt, record { primary = p; one_primary = o; groups = g; lists = none })
  | inr f ↦ inr ((V34, f.0), other_list f.0 p o g f.1)
]

strict-groups : (pbus : List Pbu) → has_some is_primary pbus ≡ true → HoldsNowhere is_further_primary pbus → HasSomeAnswer (λ (u : Unit {0}). IsStrict pbus) (StrictBreaks pbus)
strict-groups pbus p o = elim (none-or-first repeats_group pbus) [
  | inl none ↦ strict-lists pbus p o none
  | inr f ↦ inr ((V33, f.0), same_group f.0 p o f.1)
]

strict-primary : (pbus : List Pbu) → has_some is_primary pbus ≡ true → HasSomeAnswer (λ (u : Unit {0}). IsStrict pbus) (StrictBreaks pbus)
strict-primary pbus p = elim (none-or-first is_further_primary pbus) [
  | inl none ↦ strict-groups pbus p none
  | inr f ↦ inr ((V32, f.0), more_primaries f.0 p f.1)
]

pub strict-some : (pbus : List Pbu) → HasSomeAnswer (λ (u : Unit {0}). IsStrict pbus) (StrictBreaks pbus)
strict-some pbus = elim (cases_Bool (has_some is_primary pbus)) [
  | inl p ↦ strict-primary pbus p
  | inr e ↦ inr ((V32, 0), no_primary e)
]
