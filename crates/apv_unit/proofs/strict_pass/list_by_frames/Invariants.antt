use Rattle.std.proofs.Common.{List}
use Rattle.apv_base.specs.model.Pbu.{Pbu}
use Rattle.apv_base.specs.model.Body.{with_bodies}
use Rattle.apv_base.specs.model.Unit.{Structure}
use Rattle.apv_unit.proofs.StrictLists.{Listing}
use Rattle.apv_unit.proofs.strict_pass.list_by_frames.Given as goal

-- the entries of the frames that were passed
abbrev pub invariant-loop-pbu : goal.invariant-loop-pbu
invariant-loop-pbu l =
    (goal.iterator-loop-pbu).can_next l.pbu-iterator ×
    (goal.iterator-loop-pbu).is_finite l.pbu-iterator ×
    ((pbus : List Pbu) → Structure with_bodies l.unit pbus → Listing l.body l.rest l.count pbus l.pbu-iterator)
