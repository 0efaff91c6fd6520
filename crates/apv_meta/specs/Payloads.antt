-- The payloads of a list that are still to come.
use Rattle.std.specs.Prelude.{ℕ, ◌≤◌, List, length, drop}
use Rattle.apv_base.specs.model.Payload.{Payload, ArePayloads}
use Rattle.apv_base.specs.model.Run.{MAX_UNIT}

-- at the place, which is in the list, whole payloads go on to the end
pub record IsAtPayload (list : List ℕ) (place : ℕ) : Type 0 where
  pub payloads : List Payload
  pub whole : ArePayloads (drop place list) payloads
  pub inside : place ≤ length list
  pub small : length list ≤ MAX_UNIT
