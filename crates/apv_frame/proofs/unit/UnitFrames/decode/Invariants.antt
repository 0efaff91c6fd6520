use Rattle.std.proofs.Common.{List}
use Rattle.apv_base.specs.model.Pbu.{Pbu}
use Rattle.apv_base.specs.model.Body.{with_bodies}
use Rattle.apv_base.specs.model.Unit.{Structure}
use Rattle.apv_frame.proofs.UnitLemmas.{DecodedSoFar}
use Rattle.apv_frame.proofs.unit.UnitFrames.decode.Given as goal

-- the frames among the PBUs that were passed are decoded
abbrev pub invariant-loop-pbu : goal.invariant-loop-pbu
invariant-loop-pbu g l =
    (goal.iterator-loop-pbu g).can_next l.pbu-iterator
    × (goal.iterator-loop-pbu g).is_finite l.pbu-iterator
    × ((pbus : List Pbu) → Structure with_bodies l.unit pbus → DecodedSoFar pbus l.pbu-iterator l.self)
