-- The places of a block that a number's bits say.
use Rattle.std.specs.Prelude.{ℕ, ℤ, pos, negsuc, List, ◌==◌, unsigned_abs, if◌then◌else◌}
use Rattle.std.specs.Int.{bit_at}
use Rattle.apv_base.specs.model.Block.{places}

-- the places p from 0 to 63 where the bit p of a number is 1
abbrev pub places_in : ℕ → List ℕ
places_in mask = places (λ p. pos (bit_at mask p)) 64 0

-- -1 for a level that isn't 0, and 0 for one that is
abbrev pub set_lane : ℤ → ℤ
set_lane level = if unsigned_abs level == 0 then pos 0 else negsuc 0
