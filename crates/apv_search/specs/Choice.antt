-- The sizes of access units at the QPs of a range, and which QP is chosen.
use Rattle.std.specs.Prelude.{◌≡◌, ℕ, ◌+◌, ◌<◌, ◌≤◌, List, [], ◌∷◌, map}
use Rattle.std.specs.List.{sum}
use Rattle.apv_base.specs.model.Header.{grid_of}
use Rattle.apv_base.specs.model.Nearest.{AreLevelsOf}
use Rattle.apv_base.specs.model.Picture.{Samples}
use Rattle.apv_search.specs.declared.choice.Chosen.{Chosen}
use Rattle.apv_search.specs.declared.choice.QpRange.{QpRange}
use Rattle.apv_search.specs.declared.choice.TooLarge.{TooLarge}
use Rattle.apv_workers.specs.Encode.{AreCoefficients, AreNearestTo}
use Rattle.apv_workers.specs.Track.{TrackState, HasLengths, data_total, frame_of, levels_of, qps_of}

-- ---- tracks at a QP

-- no more than the levels, their lengths and the QP differ
abbrev pub IsRequantised : TrackState → TrackState → Type 0
IsRequantised old new = new ≡ record old { levels = new.levels; lengths = new.lengths; q = new.q }

abbrev pub AreRequantised : List TrackState → List TrackState → Type 0
AreRequantised [] news = news ≡ []
AreRequantised (old ∷ olds) [] = ⊥
AreRequantised (old ∷ olds) (new ∷ news) = IsRequantised old new × AreRequantised olds news

-- a track at a QP: its levels are the nearest ones to its coefficients, and so those of the picture that has them, and
-- its lengths are those of their data
pub record IsAtQp (q : ℕ) (old new : TrackState) : Type 0 where
  pub others : IsRequantised old new
  pub qp_is : new.q ≡ q
  pub nearest : AreNearestTo new.header (qps_of new) new.coeffs new.levels
  pub picture : (samples : Samples) → AreCoefficients (grid_of new.header) samples new.coeffs
      → AreLevelsOf new.header (qps_of new) samples (levels_of new)
  pub lengths : HasLengths new

abbrev pub AreAtQp : ℕ → List TrackState → List TrackState → Type 0
AreAtQp q [] news = news ≡ []
AreAtQp q (old ∷ olds) [] = ⊥
AreAtQp q (old ∷ olds) (new ∷ news) = IsAtQp q old new × AreAtQp q olds news

-- ---- sizes

-- the bytes of the data of a track's frame
abbrev pub frame_data : TrackState → ℕ
frame_data state = data_total (frame_of state)

-- the bytes of the data of the frames of all tracks
abbrev pub data_of : List TrackState → ℕ
data_of states = sum (map frame_data states)

-- the size at a QP: the fixed bytes and those of the data of the tracks at it
abbrev pub HasSizeAt : ℕ → List TrackState → ℕ → ℕ → Type 0
HasSizeAt fixed tracks q size =
    (states : List TrackState) × AreAtQp q tracks states × (size ≡ fixed + data_of states)

-- the size at a QP is above a limit
abbrev pub IsLargeAt : ℕ → List TrackState → ℕ → ℕ → Type 0
IsLargeAt fixed tracks limit q = (size : ℕ) × HasSizeAt fixed tracks q size × (limit < size)

-- the data of the tracks have at least so many bytes at each QP up to one
abbrev pub IsLeastData : List TrackState → ℕ → ℕ → Type 0
IsLeastData tracks most bytes =
    (q : ℕ) (states : List TrackState) → q ≤ most → AreAtQp q tracks states → bytes ≤ data_of states

-- ---- the QP

-- the QP is permitted
abbrev pub IsInRange : QpRange → ℕ → Type 0
IsInRange range q = (range.least ≤ q) × (q ≤ range.greatest)

-- the least permitted QP whose size is at most the limit, and the size
pub record IsLeast (fixed : ℕ) (tracks : List TrackState) (range : QpRange) (limit : ℕ) (chosen : Chosen) : Type 0 where
  pub permitted : IsInRange range chosen.qp
  pub size : HasSizeAt fixed tracks chosen.qp chosen.size
  pub fits : chosen.size ≤ limit
  pub before : (q : ℕ) → range.least ≤ q → q < chosen.qp → IsLargeAt fixed tracks limit q

-- no permitted QP has a size of at most the limit, and smallest is the least of the sizes
pub record IsTooLarge (fixed : ℕ) (tracks : List TrackState) (range : QpRange) (limit : ℕ) (large : TooLarge) : Type 0 where
  pub q : ℕ
  pub permitted : IsInRange range q
  pub size : HasSizeAt fixed tracks q large.smallest
  pub above : limit < large.smallest
  pub least : (other : ℕ) → IsInRange range other
      → (size : ℕ) × HasSizeAt fixed tracks other size × (large.smallest ≤ size)

-- the tracks are left at the QP that was chosen, with the size that was counted
pub record AreLeftAt (fixed : ℕ) (chosen : Chosen) (olds news : List TrackState) : Type 0 where
  pub at : AreAtQp chosen.qp olds news
  pub size : chosen.size ≡ fixed + data_of news
