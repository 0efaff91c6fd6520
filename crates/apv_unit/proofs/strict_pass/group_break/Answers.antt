use Rattle.std.proofs.Common.{ℕ, ◌∙◌, false, true, sym, subst, List, replicate}
use Rattle.apv_unit.specs.Strict.{has_group}
use Rattle.apv_base.specs.model.Strict.{repeats_group}
use Rattle.apv_unit.proofs.StrictGroups.{AreGroups, no-groups}
use Rattle.apv_unit.proofs.StrictWalk.{Judging, judging-start, judging-next, judging-first, judging-end}
use Rattle.apv_unit.proofs.StrictRules.{is-repeated, is-new, is-unjudged, not-flipped}
use Rattle.apv_unit.proofs.strict_pass.group_break.Goals as goal
use Rattle.apv_unit.proofs.strict_pass.group_break.Goals.{else-is_main-via-then-is_main+else-not-insert_group, else-is_main-via-else-is_main}

pub loop-pbu-init : goal.loop-pbu-init
loop-pbu-init c = (
  tt,
  tt,
  λ pbus structure.
      judging-start repeats_group (AreGroups (replicate 1024 0)) pbus c.of-pbu-items.result c.into_iter-pbu-iterator.result c.into_iter-pbu-iterator.ensures.into_iter_gives c.of-pbu-items.ensures.number
      (c.of-pbu-items.ensures.pbus pbus structure) no-groups,
)

pub returns-then-not-insert_group : goal.returns-then-not-insert_group
returns-then-not-insert_group c pbus structure =
    judging-first repeats_group (AreGroups c.loop-pbu.groups) pbus c.loop-pbu.pbu-iterator c.next.new.self c.in-Some.pbu (c.loop-pbu.invariant.2 pbus structure) c.in-Some.ensures.steps
    (λ passed pbu is known. is-repeated c.in-Some.pbu c.loop-pbu.groups passed pbu is (sym c.is_main.ensures ∙ c.if-is_main.true)
    (not-flipped false (has_group c.loop-pbu.groups c.in-Some.pbu.group) c.if-not-insert_group.ensures.was) known)

pub loop-pbu-preserved : goal.loop-pbu-preserved
loop-pbu-preserved c = (
  tt,
  tt,
  λ pbus structure. elim c.else-is_main.branch [
    | else-is_main-via-then-is_main+else-not-insert_group w ↦ subst (λ (words : List ℕ). Judging repeats_group (AreGroups words) pbus c.next.new.self) (sym w.groups-is)
        (judging-next repeats_group (AreGroups c.loop-pbu.groups) (AreGroups w.insert_group.new.groups) pbus c.loop-pbu.pbu-iterator c.next.new.self c.in-Some.pbu (c.loop-pbu.invariant.2 pbus structure) c.in-Some.ensures.steps
        (λ passed pbu is known. is-new c.in-Some.pbu c.loop-pbu.groups w.insert_group.new.groups passed pbu is (sym c.is_main.ensures ∙ w.if-is_main.true)
        (not-flipped true (has_group c.loop-pbu.groups c.in-Some.pbu.group) w.if-not-insert_group.ensures.was) w.insert_group.ensures.now known))
    | else-is_main-via-else-is_main w ↦ subst (λ (words : List ℕ). Judging repeats_group (AreGroups words) pbus c.next.new.self) (sym w.groups-is)
        (judging-next repeats_group (AreGroups c.loop-pbu.groups) (AreGroups c.loop-pbu.groups) pbus c.loop-pbu.pbu-iterator c.next.new.self c.in-Some.pbu (c.loop-pbu.invariant.2 pbus structure) c.in-Some.ensures.steps
        (λ passed pbu is known. is-unjudged c.in-Some.pbu c.loop-pbu.groups passed pbu is (sym c.is_main.ensures ∙ w.if-is_main.false) known))
  ],
)

pub returns : goal.returns
returns c pbus structure = (judging-end repeats_group (AreGroups c.loop-pbu.groups) pbus c.loop-pbu.pbu-iterator (c.loop-pbu.invariant.2 pbus structure) c.in-None.ensures.steps.0).0
