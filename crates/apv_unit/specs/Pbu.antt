-- What is at a place of an access unit.
use Rattle.std.specs.Prelude.{ℕ, ◌+◌, ◌≤◌, List, length, drop}
use Rattle.apv_base.specs.model.Unit.{HasPbuHeader}

-- a PBU's type, group and body, and the place after it
pub record PbuFound (unit : List ℕ) (place : ℕ) (found : ℕ × ℕ × List ℕ × ℕ) : Type 0 where
  pub header : HasPbuHeader (drop place unit) found.0 found.1 found.2 (drop found.3 unit)
  pub later : place + 8 ≤ found.3
  pub inside : found.3 ≤ length unit
  pub short : length found.2 ≤ length unit
