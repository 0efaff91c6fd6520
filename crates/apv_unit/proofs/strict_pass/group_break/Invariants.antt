use Rattle.std.proofs.Common.{List}
use Rattle.apv_base.specs.model.Pbu.{Pbu}
use Rattle.apv_base.specs.model.Strict.{repeats_group}
use Rattle.apv_base.specs.model.Body.{with_bodies}
use Rattle.apv_base.specs.model.Unit.{Structure}
use Rattle.apv_unit.proofs.StrictGroups.{AreGroups}
use Rattle.apv_unit.proofs.StrictWalk.{Judging}
use Rattle.apv_unit.proofs.strict_pass.group_break.Given as goal

-- the groups of the primary and non-primary frames that were passed
abbrev pub invariant-loop-pbu : goal.invariant-loop-pbu
invariant-loop-pbu l =
    (goal.iterator-loop-pbu).can_next l.pbu-iterator ×
    (goal.iterator-loop-pbu).is_finite l.pbu-iterator ×
    ((pbus : List Pbu) → Structure with_bodies l.unit pbus → Judging repeats_group (AreGroups l.groups) pbus l.pbu-iterator)
