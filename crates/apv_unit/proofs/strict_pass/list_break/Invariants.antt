use Rattle.std.proofs.Common.{List, MatchOption}
use Rattle.apv_base.specs.model.Pbu.{Pbu}
use Rattle.apv_base.specs.model.Strict.{lists_others}
use Rattle.apv_base.specs.model.Body.{with_bodies}
use Rattle.apv_base.specs.model.Unit.{Structure}
use Rattle.apv_unit.specs.Strict.{IsListOf}
use Rattle.apv_unit.proofs.StrictWalk.{Judging, Nothing}
use Rattle.apv_unit.proofs.strict_pass.list_break.Given as goal

-- the list of the frames, where access unit information was passed
abbrev pub invariant-loop-pbu : goal.invariant-loop-pbu
invariant-loop-pbu l =
    (goal.iterator-loop-pbu).can_next l.pbu-iterator ×
    (goal.iterator-loop-pbu).is_finite l.pbu-iterator ×
    MatchOption l.known (Unit {0}) (λ list. IsListOf l.unit list.now) ×
    ((pbus : List Pbu) → Structure with_bodies l.unit pbus → Judging (lists_others pbus) Nothing pbus l.pbu-iterator)
