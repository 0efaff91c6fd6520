-- Laws of tracks.
use Rattle.std.specs.Prelude.{ℕ, ℤ, List}
use Rattle.apv_base.specs.model.Header.{grid_of}
use Rattle.apv_base.specs.model.Nearest.{AreLevelsOf}
use Rattle.apv_base.specs.model.Picture.{Samples}
use Rattle.apv_workers.specs.Encode.{AreCoefficients, AreNearestTo}
use Rattle.apv_workers.specs.Track.{TrackState, HasLengths, levels_of, qps_of}

-- the coefficients of a track have nearest levels at each QP, which are those of the picture that has the coefficients, and
-- the data of the levels have lengths
abbrev pub HasSomeLevels : Type 0
HasSomeLevels =
    (track : TrackState) (q : ℕ) → (levels : List ℤ) × (lengths : List ℕ)
    × (let state = record track { levels = levels; lengths = lengths; q = q } in
    AreNearestTo state.header (qps_of state) state.coeffs state.levels
    × ((samples : Samples) → AreCoefficients (grid_of state.header) samples state.coeffs
    → AreLevelsOf state.header (qps_of state) samples (levels_of state))
    × HasLengths state)
