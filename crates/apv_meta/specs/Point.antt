-- Points of the chromaticity diagram as bytes.
use Rattle.std.specs.Prelude.{ℕ, List, ◌++◌}
use Rattle.apv_base.specs.model.Bits.{be}

-- how a point is spelled: x, then y, in two bytes each
abbrev pub point_bytes : ℕ × ℕ → List ℕ
point_bytes point = be 2 point.0 ++ be 2 point.1
