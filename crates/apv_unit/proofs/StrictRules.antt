-- The rules of strict judging at the next PBU.
use Rattle.std.proofs.Common.{◌≡◌, ◌≢◌, ℕ, List, [], ◌∷◌, ◌++◌, refl, sym, ap, ap₂, ◌∙◌, true, false, Bool, ◌||◌, ◌&&◌, not, inl, inr}
use Rattle.std.specs.Prelude.{◌==◌}
use Rattle.std.proofs.lemmas.Bool.{cases_eq, eq-eqb, ne_eqb}
use Rattle.apv_base.specs.model.Pbu.{Pbu, AU_INFO}
use Rattle.apv_base.specs.model.Strict.{has_some, is_primary, is_main, is_further_primary, repeats_group, lists, lists_others}
use Rattle.apv_unit.specs.GivesPbu.{IsPbu}
use Rattle.apv_unit.specs.Strict.{has_group, frames_of}
use Rattle.apv_unit.specs.declared.pbus.SoundPbu.{SoundPbu}
use Rattle.apv_unit.proofs.StrictGroups.{AreGroups}
use Rattle.apv_unit.proofs.StrictWalk.{some-push}

and-false : (a b : Bool) → b ≡ false → (a && b) ≡ false
and-false true b e = e
and-false false b e = refl

or-false : (a b : Bool) → b ≡ false → (a || b) ≡ a
or-false true b e = refl
or-false false b e = e

or-true : (a b : Bool) → b ≡ true → (a || b) ≡ true
or-true true b e = refl
or-true false b e = e

pub not-flipped : (a b : Bool) → a ≡ not b → b ≡ not a
not-flipped true true e = cc
not-flipped true false e = refl
not-flipped false true e = refl
not-flipped false false e = cc

-- ---- primary frames

kind-is : (given : SoundPbu) (pbu : Pbu) (kind : ℕ) → IsPbu given pbu → given.kind ≡ kind → (pbu.kind == kind) ≡ true
kind-is given pbu kind is e = eq-eqb pbu.kind kind (sym is.kind ∙ e)

kind-not : (given : SoundPbu) (pbu : Pbu) (kind : ℕ) → IsPbu given pbu → given.kind ≢ kind → (pbu.kind == kind) ≡ false
kind-not given pbu kind is ne = ne_eqb pbu.kind kind (λ e. ne (is.kind ∙ e))

pub is-further : (given : SoundPbu) (passed : List Pbu) (pbu : Pbu) → IsPbu given pbu → given.kind ≡ 1 → has_some is_primary passed ≡ true → is_further_primary passed pbu ≡ true
is-further given passed pbu is e some = ap₂ (λ (a b : Bool). a && b) (kind-is given pbu 1 is e) some

pub is-first : (given : SoundPbu) (passed : List Pbu) (pbu : Pbu) → IsPbu given pbu → given.kind ≡ 1 → has_some is_primary passed ≡ false
    → (is_further_primary passed pbu ≡ false) × (true ≡ has_some is_primary (passed ++ pbu ∷ []))
is-first given passed pbu is e none =
    (and-false (is_primary pbu) (has_some is_primary passed) none, sym (some-push is_primary passed pbu ∙ or-true (has_some is_primary passed) (is_primary pbu) (kind-is given pbu 1 is e)))

pub is-other : (given : SoundPbu) (passed : List Pbu) (pbu : Pbu) (found : Bool) → IsPbu given pbu → given.kind ≢ 1 → found ≡ has_some is_primary passed
    → (is_further_primary passed pbu ≡ false) × (found ≡ has_some is_primary (passed ++ pbu ∷ []))
is-other given passed pbu found is ne e =
    let other : is_primary pbu ≡ false = kind-not given pbu 1 is ne in
    (ap (λ (b : Bool). b && has_some is_primary passed) other, e ∙ sym (some-push is_primary passed pbu ∙ or-false (has_some is_primary passed) (is_primary pbu) other))

-- ---- groups

-- a primary or non-primary frame of this group
abbrev of_group : ℕ → Pbu → Bool
of_group group pbu = is_main pbu && pbu.group == group

main-is : (given : SoundPbu) (pbu : Pbu) (b : Bool) → IsPbu given pbu → (given.kind == 1 || given.kind == 2) ≡ b → is_main pbu ≡ b
main-is given pbu b is e = ap (λ (k : ℕ). k == 1 || k == 2) (sym is.kind) ∙ e

pub is-repeated : (given : SoundPbu) (words : List ℕ) (passed : List Pbu) (pbu : Pbu) → IsPbu given pbu → (given.kind == 1 || given.kind == 2) ≡ true → has_group words given.group ≡ true → AreGroups words passed
    → repeats_group passed pbu ≡ true
is-repeated given words passed pbu is main has are =
    ap₂ (λ (a b : Bool). a && b) (main-is given pbu true is main) (ap (λ (g : ℕ). has_some (of_group g) passed) (sym is.group) ∙ sym (are given.group) ∙ has)

either : (a g : ℕ) (b c : Bool) → b ≡ true → (g == a || c) ≡ (c || (b && a == g))
either a g true c e = elim (cases_eq g a) [
  | inl same ↦ ap (λ (t : Bool). t || c) (eq-eqb g a same) ∙ sym (or-true c (a == g) (eq-eqb a g (sym same)))
  | inr apart ↦ ap (λ (t : Bool). t || c) (ne_eqb g a apart) ∙ sym (or-false c (a == g) (ne_eqb a g (λ same. apart (sym same))))
]
either a g false c e = absurd (let no : ⊥ = cc in no)

pub is-new : (given : SoundPbu) (words now : List ℕ) (passed : List Pbu) (pbu : Pbu) → IsPbu given pbu → (given.kind == 1 || given.kind == 2) ≡ true → has_group words given.group ≡ false
    → ((other : ℕ) → has_group now other ≡ (other == given.group || has_group words other)) → AreGroups words passed
    → (repeats_group passed pbu ≡ false) × AreGroups now (passed ++ pbu ∷ [])
is-new given words now passed pbu is main has put are = (
  and-false (is_main pbu) (has_some (of_group pbu.group) passed) (ap (λ (g : ℕ). has_some (of_group g) passed) (sym is.group) ∙ sym (are given.group) ∙ has),
  λ other.
      put other ∙ ap (λ (b : Bool). other == given.group || b) (are other)
      ∙ ap (λ (g : ℕ). other == g || has_some (of_group other) passed) is.group
      ∙ either pbu.group other (is_main pbu) (has_some (of_group other) passed) (main-is given pbu true is main)
      ∙ sym (some-push (of_group other) passed pbu),
)

pub is-unjudged : (given : SoundPbu) (words : List ℕ) (passed : List Pbu) (pbu : Pbu) → IsPbu given pbu → (given.kind == 1 || given.kind == 2) ≡ false → AreGroups words passed
    → (repeats_group passed pbu ≡ false) × AreGroups words (passed ++ pbu ∷ [])
is-unjudged given words passed pbu is other are =
    let not_main : is_main pbu ≡ false = main-is given pbu false is other in (
      ap (λ (b : Bool). b && has_some (of_group pbu.group) passed) not_main,
      λ group.
          are group ∙ sym (some-push (of_group group) passed pbu ∙ or-false (has_some (of_group group) passed) (of_group group pbu) (ap (λ (b : Bool). b && pbu.group == group) not_main)),
    )

-- ---- lists

pub lists-at : (given : SoundPbu) (pbus passed : List Pbu) (pbu : Pbu) (b : Bool) → IsPbu given pbu → given.kind ≡ AU_INFO → lists (frames_of pbus) given.body.now ≡ b → lists_others pbus passed pbu ≡ not b
lists-at given pbus passed pbu b is e lists_them =
    ap₂ (λ (a c : Bool). a && not c) (kind-is given pbu AU_INFO is e) (ap (lists (frames_of pbus)) (sym is.body) ∙ lists_them)

pub lists-none : (given : SoundPbu) (pbus passed : List Pbu) (pbu : Pbu) → IsPbu given pbu → given.kind ≢ AU_INFO → lists_others pbus passed pbu ≡ false
lists-none given pbus passed pbu is ne = ap (λ (b : Bool). b && not (lists (frames_of pbus) pbu.body)) (kind-not given pbu AU_INFO is ne)
