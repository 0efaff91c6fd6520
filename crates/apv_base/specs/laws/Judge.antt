-- Laws of judging components and access units.
use Rattle.std.specs.Prelude.{◌≡◌, ℕ, Bool, List}
use Rattle.apv_base.specs.laws.Answer.{HasOneAnswer, HasSomeAnswer}
use Rattle.apv_base.specs.model.Component.{IsComponent, ComponentBreaks}
use Rattle.apv_base.specs.model.Judge.{DecodedUnit, IsValidUnit}

-- bytes are n blocks in one way, or break one rule, and not both
abbrev pub ComponentsHaveOne : Type 0
ComponentsHaveOne = (n : ℕ) (x : List ℕ) → HasOneAnswer (IsComponent n x) (ComponentBreaks n x)

-- bytes are n blocks, or break a rule
abbrev pub ComponentsHaveSome : Type 0
ComponentsHaveSome = (n : ℕ) (x : List ℕ) → HasSomeAnswer (IsComponent n x) (ComponentBreaks n x)

-- the bytes are this valid unit
abbrev pub AreValidUnitBytes : Bool → List ℕ → DecodedUnit → Type 0
AreValidUnitBytes strict bytes unit = (unit.bytes ≡ bytes) × IsValidUnit strict unit
