use Rattle.std.proofs.Common.{◌≡◌, List}
use Rattle.apv_base.specs.model.Pbu.{Pbu}
use Rattle.apv_base.specs.model.Strict.{has_some, is_primary, is_further_primary}
use Rattle.apv_base.specs.model.Body.{with_bodies}
use Rattle.apv_base.specs.model.Unit.{Structure}
use Rattle.apv_unit.proofs.StrictWalk.{Judging}
use Rattle.apv_unit.proofs.strict_pass.primary_break.Given as goal

-- whether one of the PBUs that were passed is a primary frame
abbrev pub invariant-loop-pbu : goal.invariant-loop-pbu
invariant-loop-pbu l =
    (goal.iterator-loop-pbu).can_next l.pbu-iterator ×
    (goal.iterator-loop-pbu).is_finite l.pbu-iterator ×
    ((pbus : List Pbu) → Structure with_bodies l.unit pbus → Judging is_further_primary (λ passed. l.found ≡ has_some is_primary passed) pbus l.pbu-iterator)
