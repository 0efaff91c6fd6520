-- What coding a frame of each track makes of the tracks, and the access unit that is made.
use Rattle.std.specs.Prelude.{◌≡◌, ℕ, ◌<◌, ◌≤◌, List, [], ◌∷◌, length, map, false, ⊤}
use Rattle.apv_base.specs.model.Header.{grid_of}
use Rattle.apv_base.specs.model.Run.{MAX_UNIT}
use Rattle.apv_search.specs.declared.choice.Chosen.{Chosen}
use Rattle.apv_workers.specs.Encode.{AreOfDepth}
use Rattle.apv_workers.specs.Track.{TrackState, levels_of}
use Rattle.apv_encoding.specs.AccessUnit.{Pictures, EncodedUnit, IsUnitOf, HasSizeAt, IsChosen}
use Rattle.apv_encoding.specs.Laws.{IsTooLarge}
use Rattle.apv_encoding.specs.Settings.{EncoderSettings, RateControl, Track, fixed, has_large_qp}
use Rattle.apv_enc.specs.declared.unit.UnitFault.{UnitFault}
use Rattle.apv_enc.specs.declared.unit.UnitFault.TheVariants.{TooLarge, Limit, Memory}

-- the frame of the track can be coded: it has the grid of the header, and samples of its bit depth
pub record HasFrameToCode (state : TrackState) : Type 0 where
  pub grid : state.frame.grid ≡ grid_of state.header
  pub depth : AreOfDepth (grid_of state.header) state.frame.values

-- the QPs that are given aren't above the maximum of the bit depth of the primary frames, which are the first track's
abbrev pub HasPermittedQps : RateControl → List TrackState → Type 0
HasPermittedQps rate [] = ⊤
HasPermittedQps rate (first ∷ more) = has_large_qp rate first.header.info.depth ≡ false

-- the access unit of the levels of the tracks
abbrev pub unit_of_states : ℕ → List TrackState → List ℕ → EncodedUnit
unit_of_states q states bytes = record { q = q; levels = map levels_of states; bytes = bytes }

-- coding changes no more of a track than its coefficients, levels, lengths and QP
abbrev pub IsCoded : TrackState → TrackState → Type 0
IsCoded old new =
    new ≡ record old { coeffs = new.coeffs; levels = new.levels; lengths = new.lengths; q = new.q }

abbrev pub AreCoded : List TrackState → List TrackState → Type 0
AreCoded [] new = new ≡ []
AreCoded (old ∷ olds) [] = ⊥
AreCoded (old ∷ olds) (new ∷ news) = IsCoded old new × AreCoded olds news

-- the access unit of these pictures was made, at the QP that was chosen
pub record IsUnitMade (settings : EncoderSettings) (depth : ℕ) (tracks : List Track) (payloads : List ℕ)
    (pictures : Pictures) (chosen : Chosen) (states : List TrackState) (bytes : List ℕ) : Type 0 where
  pub unit_of : IsUnitOf settings tracks payloads pictures (unit_of_states chosen.qp states bytes)
  pub chosen_qp : IsChosen settings depth tracks payloads pictures settings.rate (unit_of_states chosen.qp states bytes)
  pub size : chosen.size ≡ length bytes
  pub small : length bytes ≤ MAX_UNIT

-- no size limit is set, and the access unit of these pictures is above the limit L1
pub record IsAboveLimit (settings : EncoderSettings) (tracks : List Track) (payloads : List ℕ) (pictures : Pictures)
    (size : ℕ) : Type 0 where
  pub qp : ℕ
  pub rate : settings.rate ≡ fixed qp
  pub size_at : HasSizeAt settings tracks payloads pictures qp size
  pub above : MAX_UNIT < size

-- why no access unit of these pictures was made; memory may run out at any time
abbrev pub IsUnitFault : EncoderSettings → ℕ → List Track → List ℕ → Pictures → UnitFault → Type 0
IsUnitFault settings depth tracks payloads pictures (TooLarge smallest) =
    IsTooLarge settings depth tracks payloads pictures smallest
IsUnitFault settings depth tracks payloads pictures (Limit size) =
    IsAboveLimit settings tracks payloads pictures size
IsUnitFault settings depth tracks payloads pictures Memory = ⊤
