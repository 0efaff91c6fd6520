-- The PBUs of an access unit that are still to come.
use Rattle.std.specs.Prelude.{ℕ, ◌+◌, ◌*◌, ◌≤◌, List, [], length, drop}
use Rattle.apv_base.specs.model.Sequence.{Sequence}
use Rattle.apv_base.specs.model.Pbu.{Pbu}
use Rattle.apv_base.specs.model.Body.{with_bodies}
use Rattle.apv_base.specs.model.Unit.{PbuAt}
use Rattle.apv_base.specs.model.Run.{MAX_UNIT}

-- the number of the next PBU, counted from 0, and the bytes that are left of the access unit
pub record PbusLeft : Type 0 where
  pub number : ℕ
  pub bytes : List ℕ

-- these PBUs, each sound, are all that is left
abbrev pub AreLeft : PbusLeft → List Pbu → Type 0
AreLeft left pbus = Sequence (PbuAt with_bodies) left.bytes pbus []

-- at the place, which is in the unit, the PBU of this number is next, and sound PBUs go on to the end
pub record IsAtPbu (unit : List ℕ) (place number : ℕ) : Type 0 where
  pub pbus : List Pbu
  pub sequence : Sequence (PbuAt with_bodies) (drop place unit) pbus []
  pub inside : place ≤ length unit
  pub small : length unit ≤ MAX_UNIT
  pub count : 8 * number + 4 ≤ place
