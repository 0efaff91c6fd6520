-- Numbers of bytes that the data of a track have at least.
use Rattle.std.specs.Prelude.{◌≡◌, ℕ, ℤ, ◌*◌, ◌≤◌, List, length}
use Rattle.apv_base.specs.model.Component.{component_bytes}
use Rattle.apv_base.specs.model.Grid.{block_count}
use Rattle.apv_base.specs.model.Header.{grid_of}
use Rattle.apv_grid.specs.Buffer.{Buffer}
use Rattle.apv_tile.specs.Blocks.{blocks_of}
use Rattle.apv_workers.specs.Encode.{AreNearestTo}
use Rattle.apv_workers.specs.Track.{TrackState, data_total, frame_of, qps_of}
use Rattle.apv_workers.specs.TrackFields.{AreQuantised}
use Rattle.apv_workers.specs.declared.track.TrackHead.{TrackHead}

-- the levels nearest to the coefficients of a component, at the QP or one below it, have at least so many bytes
abbrev pub IsLeastOfComponent : TrackHead → Buffer ℤ → ℕ → ℕ → ℕ → Type 0
IsLeastOfComponent head coeffs tile comp count =
    (levels : List ℤ) (q : ℕ) → q ≤ head.q → length levels ≡ 64 * block_count (grid_of head.header) tile comp
    → AreQuantised (record head { q = q }) coeffs tile comp levels → count ≤ length (component_bytes (blocks_of levels))

-- the data of a track's frame, of the levels nearest to its coefficients at a QP or one below it, have at least so many
-- bytes
abbrev pub IsLeastTotal : TrackState → ℕ → ℕ → Type 0
IsLeastTotal track most bytes =
    (q : ℕ) (levels : List ℤ) → q ≤ most
    → (let state = record track { levels = levels; q = q } in
    AreNearestTo state.header (qps_of state) state.coeffs levels → bytes ≤ data_total (frame_of state))
