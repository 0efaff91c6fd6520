-- Laws of the nearest level.
use Rattle.std.specs.Prelude.{◌≡◌, ℕ, ℤ, ◌<◌}
use Rattle.apv_base.specs.model.Quant.{IsNearest}

-- at most one level is nearest to a coefficient
abbrev pub HasOneNearest : Type 0
HasOneNearest = (c : ℤ) (s b : ℕ) (k l : ℤ) → 0 < s → IsNearest c s b k → IsNearest c s b l → k ≡ l

-- a coefficient has a nearest level
abbrev pub HasSomeNearest : Type 0
HasSomeNearest = (c : ℤ) (s b : ℕ) → (l : ℤ) × IsNearest c s b l
