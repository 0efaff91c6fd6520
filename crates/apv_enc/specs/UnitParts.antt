-- An access unit by its parts, as they are made of the tracks that are kept.
use Rattle.std.specs.Prelude.{◌≡◌, ℕ, ◌+◌, Bool, List, [], ◌∷◌, ◌++◌, length, if◌then◌else◌}
use Rattle.apv_base.specs.model.AuInfo.{ListedFrame, au_info_body}
use Rattle.apv_base.specs.model.Encode.{pbu_bytes}
use Rattle.apv_base.specs.model.Header.{grid_of}
use Rattle.apv_base.specs.model.Pbu.{signature, AU_INFO}
use Rattle.apv_base.specs.model.Picture.{Samples}
use Rattle.apv_encoding.specs.AccessUnit.{filler_pbu, metadata_pbu}
use Rattle.apv_frame.specs.Coded.{track_pbu}
use Rattle.apv_search.specs.Choice.{data_of}
use Rattle.apv_tracks.specs.Kinds.{kinds_of}
use Rattle.apv_tracks.specs.declared.kinds.TrackKind.{TrackKind}
use Rattle.apv_words.specs.declared.encoder.EncSettings.{EncSettings}
use Rattle.apv_workers.specs.Encode.{AreCoefficients, IsPaddedFrom}
use Rattle.apv_workers.specs.Track.{TrackState}

-- ---- the parts

-- how access unit information lists the frame of a track, of this type
abbrev pub listed_state : ℕ → TrackState → ListedFrame
listed_state kind state = record { kind = kind; group = 1; info = state.header.info }

abbrev pub listed_states : List TrackKind → List TrackState → List ListedFrame
listed_states [] states = []
listed_states (kind ∷ kinds) [] = []
listed_states (kind ∷ kinds) (state ∷ states) = listed_state kind.pbu_type state ∷ listed_states kinds states

-- access unit information that lists these frames, where it is asked for
abbrev pub au_info_part : Bool → List ListedFrame → List ℕ
au_info_part asked frames = if asked then pbu_bytes AU_INFO 1 (au_info_body frames) else []

-- the frames of the tracks, of these kinds, in their order
abbrev pub state_pbus : List TrackKind → List TrackState → List ℕ
state_pbus [] states = []
state_pbus (kind ∷ kinds) [] = []
state_pbus (kind ∷ kinds) (state ∷ states) = track_pbu kind.pbu_type state ++ state_pbus kinds states

-- the access unit of the levels of the tracks
abbrev pub unit_bytes : EncSettings → List TrackState → List ℕ → List ℕ
unit_bytes settings states payloads =
    signature ++ (au_info_part settings.au_info (listed_states (kinds_of settings) states)
    ++ (state_pbus (kinds_of settings) states ++ (metadata_pbu payloads ++ filler_pbu settings.filler)))

-- ---- their sizes

-- the tracks have the same headers, in their order
abbrev pub HaveHeadersOf : List TrackState → List TrackState → Type 0
HaveHeadersOf [] news = news ≡ []
HaveHeadersOf (old ∷ olds) [] = ⊥
HaveHeadersOf (old ∷ olds) (new ∷ news) = (new.header ≡ old.header) × HaveHeadersOf olds news

-- the frames of tracks with these headers have n bytes and those of the data of their tiles, whatever their types, QPs
-- and levels
abbrev pub HaveFixedSize : List TrackState → ℕ → Type 0
HaveFixedSize tracks n =
    (kinds : List TrackKind) (states : List TrackState) → length kinds ≡ length tracks → HaveHeadersOf tracks states
    → length (state_pbus kinds states) ≡ n + data_of states

-- access units of tracks with these headers have n bytes and those of the data of their tiles, whatever their QPs and
-- levels
abbrev pub HasFixedSize : EncSettings → List TrackState → List ℕ → ℕ → Type 0
HasFixedSize settings tracks payloads n =
    (states : List TrackState) → HaveHeadersOf tracks states
    → length (unit_bytes settings states payloads) ≡ n + data_of states

-- ---- coefficients

-- the coefficients of a track are those of its picture, and nothing else changed
pub record IsTransformed (old new : TrackState) : Type 0 where
  pub others : new ≡ record old { coeffs = new.coeffs }
  pub coeffs : (samples : Samples) → IsPaddedFrom (grid_of old.header) samples old.frame.values
      → AreCoefficients (grid_of old.header) samples new.coeffs

abbrev pub AreTransformed : List TrackState → List TrackState → Type 0
AreTransformed [] news = news ≡ []
AreTransformed (old ∷ olds) [] = ⊥
AreTransformed (old ∷ olds) (new ∷ news) = IsTransformed old new × AreTransformed olds news
