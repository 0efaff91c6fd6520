-- What a step over the PBUs of an access unit gives.
use Rattle.std.specs.Prelude.{◌≡◌, ◌+◌, ◌≤◌, List, [], ◌∷◌, length, Option, Some, None}
use Rattle.apv_base.specs.model.Payload.{Payload}
use Rattle.apv_base.specs.model.Pbu.{Pbu}
use Rattle.apv_base.specs.model.Body.{with_bodies, body_kind_of, IsSoundBody}
use Rattle.apv_base.specs.model.Run.{MAX_UNIT}
use Rattle.apv_unit.specs.Pbus.{PbusLeft, AreLeft}
use Rattle.apv_unit.specs.declared.pbus.SoundPbu.{SoundPbu}

-- the PBU's type, group and body are these
pub record IsPbu (given : SoundPbu) (pbu : Pbu) : Type 0 where
  pub kind : given.kind ≡ pbu.kind
  pub group : given.group ≡ pbu.group
  pub body : given.body.now ≡ pbu.body

-- the body breaks no rule, and holds these payloads, which are none where the PBU isn't metadata
abbrev pub HasPayloads : SoundPbu → List Payload → Type 0
HasPayloads given payloads = IsSoundBody (body_kind_of with_bodies given.kind) given.body.now payloads

-- of these PBUs, which were left, the first is given, and the others are left
pub record GivesFirst (given : SoundPbu) (new : PbusLeft) (pbus : List Pbu) : Type 0 where
  pub first : Pbu
  pub others : List Pbu
  pub parts : pbus ≡ first ∷ others
  pub is : IsPbu given first
  pub sound : HasPayloads given first.payloads
  pub left : AreLeft new others

-- the next PBU is given, with its number, and then the one after it is next
pub record GivesNext (old : PbusLeft) (given : SoundPbu) (new : PbusLeft) : Type 0 where
  pub number : given.number ≡ old.number
  pub next : new.number ≡ old.number + 1
  pub small : length given.body.now ≤ MAX_UNIT
  pub sound : (payloads : List Payload) × HasPayloads given payloads
  pub shorter : length new.bytes + 8 ≤ length old.bytes
  pub pbus : (pbus : List Pbu) → AreLeft old pbus → GivesFirst given new pbus

-- The first of the PBUs that were left is given; none exactly where none was left, and then all stays as it was.
abbrev pub GivesPbu : PbusLeft → Option SoundPbu → PbusLeft → Type 0
GivesPbu old (Some given) new = GivesNext old given new
GivesPbu old None new = (old.bytes ≡ []) × (new ≡ old)
