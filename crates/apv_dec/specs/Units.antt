-- Units that a decoder accepts.
use Rattle.std.specs.Prelude.{ℕ, List}
use Rattle.apv_base.specs.model.Judge.{DecodedUnit}
use Rattle.apv_base.specs.model.Output.{OutputSettings, by_content}
use Rattle.apv_base.specs.model.Run.{AreAccepted, spelled}

-- each of them is valid, and the formats of the selected frames agree where they have to
abbrev pub AreValid : OutputSettings → List DecodedUnit → Type 0
AreValid settings units = AreAccepted (by_content settings) units

-- the units as they are in a file
abbrev pub unit_bytes : OutputSettings → List DecodedUnit → List ℕ
unit_bytes settings units = spelled (by_content settings) units
