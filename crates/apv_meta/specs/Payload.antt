-- What is at a place of a list of payloads.
use Rattle.std.specs.Prelude.{◌≡◌, ℕ, ◌<◌, ◌≤◌, List, length, drop, Some}
use Rattle.apv_base.specs.model.Table.{coded_at}
use Rattle.apv_base.specs.model.Payload.{PayloadAt}

-- a number, and the place after it
pub record NumberFound (list : List ℕ) (place : ℕ) (found : ℕ × ℕ) : Type 0 where
  pub value : coded_at (drop place list) ≡ Some (found.0, drop found.1 list)
  pub later : place < found.1
  pub inside : found.1 ≤ length list

-- a payload's type and bytes, and the place after it
pub record PayloadFound (list : List ℕ) (place : ℕ) (found : ℕ × List ℕ × ℕ) : Type 0 where
  pub stands : PayloadAt (drop place list) (record { kind = found.0; bytes = found.1 }) (drop found.2 list)
  pub later : place < found.2
  pub inside : found.2 ≤ length list
