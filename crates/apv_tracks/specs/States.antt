-- The tracks of a run as they are kept in memory.
use Rattle.std.specs.Prelude.{◌≡◌, ℕ, ◌<◌, List, [], ◌∷◌}
use Rattle.std.specs.List.{AllByRecursion}
use Rattle.apv_base.specs.model.Encode.{Qps}
use Rattle.apv_base.specs.model.Grid.{tile_count}
use Rattle.apv_base.specs.model.Header.{grid_of, header_comps}
use Rattle.apv_workers.specs.Encode.{IsPaddedFrom}
use Rattle.apv_workers.specs.Track.{TrackState, offset_qps}
use Rattle.apv_encoding.specs.AccessUnit.{Pictures}
use Rattle.apv_encoding.specs.Settings.{Track}

-- the QPs of the tiles of a track at a QP of the access unit
abbrev pub kept_qps : TrackState → ℕ → Qps
kept_qps state = offset_qps state.header state.offsets state.tile_offsets

-- the track is kept so: its header, and the QP of each component of each tile
pub record IsStateOf (track : Track) (state : TrackState) : Type 0 where
  pub header : state.header ≡ track.header
  pub qps : (q tile comp : ℕ) → tile < tile_count (grid_of track.header) → comp < header_comps track.header
      → kept_qps state q tile comp ≡ track.qps q tile comp

-- the tracks are kept so, in their order
abbrev pub AreStatesOf : List Track → List TrackState → Type 0
AreStatesOf [] states = states ≡ []
AreStatesOf (track ∷ tracks) [] = ⊥
AreStatesOf (track ∷ tracks) (state ∷ states) = IsStateOf track state × AreStatesOf tracks states

-- the frame of a track has the grid of its header
abbrev pub HasOwnGrid : TrackState → Type 0
HasOwnGrid state = state.frame.grid ≡ grid_of state.header

-- the frames of the tracks have the grids of their headers
abbrev pub HaveOwnGrids : List TrackState → Type 0
HaveOwnGrids states = AllByRecursion HasOwnGrid states

-- the frames of the tracks are these pictures, padded
abbrev pub HavePictures : List Track → Pictures → List TrackState → Type 0
HavePictures [] pictures states = states ≡ []
HavePictures (track ∷ tracks) pictures [] = ⊥
HavePictures (track ∷ tracks) pictures (state ∷ states) =
    IsPaddedFrom (grid_of track.header) (pictures track.slot) state.frame.values × HavePictures tracks pictures states

-- the tracks are kept so, with frames of these pictures
pub record AreReady (tracks : List Track) (pictures : Pictures) (states : List TrackState) : Type 0 where
  pub kept : AreStatesOf tracks states
  pub frames : HavePictures tracks pictures states

-- no more than the samples of the frame differ
pub record IsSameButFrame (old new : TrackState) : Type 0 where
  pub rest : new ≡ record old { frame = new.frame }
  pub grid : new.frame.grid ≡ old.frame.grid

-- no more than the samples of the frames differ
abbrev pub AreSameButFrames : List TrackState → List TrackState → Type 0
AreSameButFrames [] news = news ≡ []
AreSameButFrames (old ∷ olds) [] = ⊥
AreSameButFrames (old ∷ olds) (new ∷ news) = IsSameButFrame old new × AreSameButFrames olds news
