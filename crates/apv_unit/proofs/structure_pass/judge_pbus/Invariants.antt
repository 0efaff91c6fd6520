use Rattle.std.proofs.Common.{◌≡◌, ◌<◌, ◌≤◌, ◌+◌, ◌-◌, ◌*◌, List, length, drop}
use Rattle.apv_base.specs.model.Sequence.{Sequence}
use Rattle.apv_base.specs.model.Pbu.{Pbu}
use Rattle.apv_base.specs.model.Unit.{PbuAt}
use Rattle.apv_unit.specs.Reach.{reach_of}
use Rattle.apv_unit.proofs.structure_pass.judge_pbus.Given as goal

-- up to the place there are sound PBUs, and only after the first of them the unit may end
abbrev pub invariant-loop-pbu : goal.invariant-loop-pbu
invariant-loop-pbu l = record {
  inside : l.place ≤ length l.unit;
  few : 8 * l.count + 4 ≤ l.place;
  more : 0 < l.count → l.place < length l.unit;
  prefix : (pbus : List Pbu) × (length pbus ≡ l.count) × Sequence (PbuAt (reach_of l.bodies)) (drop 4 l.unit) pbus (drop l.place l.unit);
}

abbrev pub decreases-loop-pbu : goal.decreases-loop-pbu
decreases-loop-pbu l = length l.unit - l.place
