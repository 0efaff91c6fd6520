use Rattle.std.proofs.Common.{◌≡◌, ◌∙◌, false, true, sym, refl, subst, List}
use Rattle.apv_base.specs.model.Pbu.{Pbu}
use Rattle.apv_base.specs.model.Strict.{has_some, is_primary, is_further_primary, no_primary, more_primaries}
use Rattle.apv_unit.proofs.StrictWalk.{judging-start, judging-next, judging-first, judging-end, some-kept}
use Rattle.apv_unit.proofs.StrictRules.{is-further, is-first, is-other}
use Rattle.apv_unit.proofs.strict_pass.primary_break.Goals as goal

pub loop-pbu-init : goal.loop-pbu-init
loop-pbu-init c = (
  tt,
  tt,
  λ pbus structure.
      judging-start is_further_primary (λ (passed : List Pbu). false ≡ has_some is_primary passed) pbus c.of-pbu-items.result c.into_iter-pbu-iterator.result c.into_iter-pbu-iterator.ensures.into_iter_gives c.of-pbu-items.ensures.number
      (c.of-pbu-items.ensures.pbus pbus structure) refl,
)

pub returns-then-found : goal.returns-then-found
returns-then-found c pbus structure =
    let j = c.loop-pbu.invariant.2 pbus structure in
    more_primaries c.in-Some.pbu.number
    (subst (λ (ps : List Pbu). has_some is_primary ps ≡ true) (sym j.midway.parts) (some-kept is_primary j.passed j.midway.others (sym j.known ∙ c.if-found.true)))
    (judging-first is_further_primary (λ (passed : List Pbu). c.loop-pbu.found ≡ has_some is_primary passed) pbus c.loop-pbu.pbu-iterator c.next.new.self c.in-Some.pbu j c.in-Some.ensures.steps
    (λ passed pbu is known. is-further c.in-Some.pbu passed pbu is c.if-pbu-eq-PRIMARY.true (sym known ∙ c.if-found.true)))

pub loop-pbu-preserved-then-pbu-eq-PRIMARY : goal.loop-pbu-preserved-then-pbu-eq-PRIMARY
loop-pbu-preserved-then-pbu-eq-PRIMARY c = (
  tt,
  tt,
  λ pbus structure.
      judging-next is_further_primary (λ (passed : List Pbu). c.loop-pbu.found ≡ has_some is_primary passed) (λ (passed : List Pbu). true ≡ has_some is_primary passed) pbus c.loop-pbu.pbu-iterator c.next.new.self c.in-Some.pbu
      (c.loop-pbu.invariant.2 pbus structure) c.in-Some.ensures.steps
      (λ passed pbu is known. is-first c.in-Some.pbu passed pbu is c.if-pbu-eq-PRIMARY.true (sym known ∙ c.if-found.false)),
)

pub loop-pbu-preserved : goal.loop-pbu-preserved
loop-pbu-preserved c = (
  tt,
  tt,
  λ pbus structure.
      judging-next is_further_primary (λ (passed : List Pbu). c.loop-pbu.found ≡ has_some is_primary passed) (λ (passed : List Pbu). c.loop-pbu.found ≡ has_some is_primary passed) pbus c.loop-pbu.pbu-iterator c.next.new.self c.in-Some.pbu
      (c.loop-pbu.invariant.2 pbus structure) c.in-Some.ensures.steps
      (λ passed pbu is known. is-other c.in-Some.pbu passed pbu c.loop-pbu.found is c.if-pbu-eq-PRIMARY.false known),
)

pub returns-then-found-2 : goal.returns-then-found-2
returns-then-found-2 c pbus structure =
    let e = judging-end is_further_primary (λ (passed : List Pbu). c.loop-pbu.found ≡ has_some is_primary passed) pbus c.loop-pbu.pbu-iterator (c.loop-pbu.invariant.2 pbus structure) c.in-None.ensures.steps.0 in
    record { some = sym e.1 ∙ c.if-found-2.true; no_further = e.0 }

pub returns-else-found-2 : goal.returns-else-found-2
returns-else-found-2 c pbus structure =
    let e = judging-end is_further_primary (λ (passed : List Pbu). c.loop-pbu.found ≡ has_some is_primary passed) pbus c.loop-pbu.pbu-iterator (c.loop-pbu.invariant.2 pbus structure) c.in-None.ensures.steps.0 in
    no_primary (sym e.1 ∙ c.if-found-2.false)
