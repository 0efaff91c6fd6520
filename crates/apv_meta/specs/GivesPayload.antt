-- What a step over the payloads of a list gives.
use Rattle.std.specs.Prelude.{◌≡◌, ℕ, ◌<◌, List, [], ◌∷◌, length, Option, Some, None}
use Rattle.apv_base.specs.model.Payload.{Payload as PayloadSpec, ArePayloads}
use Rattle.apv_meta.specs.declared.payload.Payload.{Payload}

-- of these payloads, which were left, the first is given, and the others are left
pub record GivesFirst (given : Payload) (new : List ℕ) (payloads : List PayloadSpec) : Type 0 where
  pub others : List PayloadSpec
  pub parts : payloads ≡ record { kind = given.kind; bytes = given.bytes.now } ∷ others
  pub left : ArePayloads new others

-- the next payload is given
pub record GivesNext (old : List ℕ) (given : Payload) (new : List ℕ) : Type 0 where
  pub shorter : length new < length old
  pub payloads : (payloads : List PayloadSpec) → ArePayloads old payloads → GivesFirst given new payloads

-- The first of the payloads that were left is given; none exactly where none was left, and then all stays as it was.
abbrev pub GivesPayload : List ℕ → Option Payload → List ℕ → Type 0
GivesPayload old (Some given) new = GivesNext old given new
GivesPayload old None new = (old ≡ []) × (new ≡ old)
