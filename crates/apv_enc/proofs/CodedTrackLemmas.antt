-- Tracks that are coded at a QP: their levels are those of their pictures, and their frames those of the definitions.
use Rattle.std.proofs.Common.{◌≡◌, ℕ, ℤ, ◌+◌, ◌<◌, ◌≤◌, List, [], ◌∷◌, ◌++◌, length, get_or, take, drop, refl, sym, ap, ap₂, ◌∙◌, subst, arith, append_assoc, append-nil}
use Rattle.std.specs.Prelude.{slice_set}
use Rattle.std.specs.List.{AllByRecursion}
use Rattle.std.proofs.lemmas.List.{drop-drop, drop-set-lt, drop_all, length-set, take_all, take_more_set}
use Rattle.apv_base.specs.declared.header.FrameHeader.{FrameHeader}
use Rattle.apv_base.specs.model.CodedFrame.{Levels}
use Rattle.apv_base.specs.model.Encode.{Qps, frame_pbu}
use Rattle.apv_base.specs.model.Header.{grid_of}
use Rattle.apv_base.specs.model.Nearest.{AreLevelsOf}
use Rattle.apv_base.specs.model.Picture.{Samples}
use Rattle.apv_encoding.specs.Settings.{Track}
use Rattle.apv_enc.specs.Coding.{AreCoded, HasFrameToCode, IsCoded}
use Rattle.apv_enc.specs.UnitParts.{AreTransformed, HaveHeadersOf, IsTransformed}
use Rattle.apv_frame.specs.Coded.{track_pbu}
use Rattle.apv_search.specs.Choice.{AreAtQp, AreRequantised, IsAtQp, IsRequantised}
use Rattle.apv_tracks.specs.States.{IsStateOf, kept_qps}
use Rattle.apv_workers.specs.Encode.{AreCoefficients, IsPaddedFrom}
use Rattle.apv_workers.specs.Track.{HasLengths, TrackState, levels_of, offset_qps, qps_of}
use Rattle.apv_enc.proofs.ListPlaceLemmas.{from-place}
use Rattle.apv_enc.proofs.SameQpsLemmas.{AgreeOn, same-levels, same-pbu}

-- ---- coding

-- with the coefficients of another state, and what coding sets
abbrev with_coeffs : List ℤ → TrackState → TrackState
with_coeffs coeffs state = record state { coeffs = coeffs }

abbrev with_levels : TrackState → TrackState → TrackState
with_levels new state = record state { levels = new.levels; lengths = new.lengths; q = new.q }

coded-state : (a b d : TrackState) → IsTransformed a b → IsRequantised b d → d ≡ with_levels d (with_coeffs b.coeffs a)
coded-state a b d transformed requantised = requantised ∙ ap (with_levels d) transformed.others

one-coded : (a b d : TrackState) → IsTransformed a b → IsRequantised b d → IsCoded a d
one-coded a b d transformed requantised =
    let is = coded-state a b d transformed requantised in
    is ∙ ap (λ (coeffs : List ℤ). with_levels d (with_coeffs coeffs a)) (sym (ap (λ (s : TrackState). s.coeffs) is))

-- coding changes no more than it may
pub all-coded : (olds mids news : List TrackState) → AreTransformed olds mids → AreRequantised mids news → AreCoded olds news
all-coded [] mids news t r = subst (λ (states : List TrackState). AreRequantised states news) t r
all-coded (a ∷ olds) [] news t r = absurd t
all-coded (a ∷ olds) (b ∷ mids) [] t r = absurd r
all-coded (a ∷ olds) (b ∷ mids) (d ∷ news) t r = (one-coded a b d t.0 r.0, all-coded olds mids news t.1 r.1)

-- the headers stay
pub same-headers : (olds news : List TrackState) → AreCoded olds news → HaveHeadersOf olds news
same-headers [] news coded = coded
same-headers (old ∷ olds) [] coded = absurd coded
same-headers (old ∷ olds) (new ∷ news) coded = (ap (λ (s : TrackState). s.header) coded.0, same-headers olds news coded.1)

pub at-requantised : (q : ℕ) (olds news : List TrackState) → AreAtQp q olds news → AreRequantised olds news
at-requantised q [] news at = at
at-requantised q (a ∷ olds) [] at = absurd at
at-requantised q (a ∷ olds) (b ∷ news) at = (at.0.others, at-requantised q olds news at.1)

-- tracks at a QP have it, and the lengths of their data are known
pub all-at : (q : ℕ) (olds news : List TrackState) → AreAtQp q olds news → AllByRecursion (λ (s : TrackState). s.q ≡ q) news
all-at q [] news at = subst (AllByRecursion (λ (s : TrackState). s.q ≡ q)) (sym at) tt
all-at q (a ∷ olds) [] at = absurd at
all-at q (a ∷ olds) (b ∷ news) at = (at.0.qp_is, all-at q olds news at.1)

pub all-lengths : (q : ℕ) (olds news : List TrackState) → AreAtQp q olds news → AllByRecursion HasLengths news
all-lengths q [] news at = subst (AllByRecursion HasLengths) (sym at) tt
all-lengths q (a ∷ olds) [] at = absurd at
all-lengths q (a ∷ olds) (b ∷ news) at = (at.0.lengths, all-lengths q olds news at.1)

-- ---- one track at a QP

-- the frame of a track was coded at a QP: its levels are those of its picture
pub record IsCodedAt (q : ℕ) (old new : TrackState) : Type 0 where
  pub coded : IsCoded old new
  pub qp_is : new.q ≡ q
  pub levels : (samples : Samples) → IsPaddedFrom (grid_of old.header) samples old.frame.values
      → AreLevelsOf new.header (qps_of new) samples (levels_of new)

abbrev pub AreCodedAt : ℕ → List TrackState → List TrackState → Type 0
AreCodedAt q [] news = news ≡ []
AreCodedAt q (old ∷ olds) [] = ⊥
AreCodedAt q (old ∷ olds) (new ∷ news) = IsCodedAt q old new × AreCodedAt q olds news

-- the levels that a state has are those of any picture that has its coefficients
abbrev HasTheirLevels : TrackState → Type 0
HasTheirLevels s = (samples : Samples) → AreCoefficients (grid_of s.header) samples s.coeffs → AreLevelsOf s.header (qps_of s) samples (levels_of s)

one-coded-at : (q : ℕ) (a b d : TrackState) → IsTransformed a b → IsAtQp q b d → IsCodedAt q a d
one-coded-at q a b d transformed at =
    let middle : TrackState = with_levels d (with_coeffs b.coeffs a) in
    let is : d ≡ middle = coded-state a b d transformed at.others in
    let there : HasTheirLevels middle = subst HasTheirLevels is at.picture in
    let made : IsCodedAt q a middle = record { coded = refl; qp_is = at.qp_is; levels = λ samples padded. there samples (transformed.coeffs samples padded) } in
    subst (IsCodedAt q a) (sym is) made

pub all-coded-at : (q : ℕ) (olds mids news : List TrackState) → AreTransformed olds mids → AreAtQp q mids news → AreCodedAt q olds news
all-coded-at q [] mids news t at = subst (λ (states : List TrackState). AreAtQp q states news) t at
all-coded-at q (a ∷ olds) [] news t at = absurd t
all-coded-at q (a ∷ olds) (b ∷ mids) [] t at = absurd at
all-coded-at q (a ∷ olds) (b ∷ mids) (d ∷ news) t at = (one-coded-at q a b d t.0 at.0, all-coded-at q olds mids news t.1 at.1)

-- ---- the QPs and the levels of a track

qps-same : (h h' : FrameHeader) (o o' t t' : List ℤ) (n n' : ℕ) → h ≡ h' → o ≡ o' → t ≡ t' → n ≡ n' → offset_qps h o t n ≡ offset_qps h' o' t' n'
qps-same h h' o o' t t' n n' a b c d = rw (a, b, c, d) refl

-- the QPs are those that the track keeps
coded-qps : (q : ℕ) (old new : TrackState) → IsCodedAt q old new → qps_of new ≡ kept_qps old q
coded-qps q old new at =
    qps-same new.header old.header new.offsets old.offsets new.tile_offsets old.tile_offsets new.q q (ap (λ (s : TrackState). s.header) at.coded)
    (ap (λ (s : TrackState). s.offsets) at.coded) (ap (λ (s : TrackState). s.tile_offsets) at.coded) at.qp_is

levels-for : (header other : FrameHeader) (qps kept : Qps) (samples : Samples) (levels : Levels) → header ≡ other → qps ≡ kept → AreLevelsOf header qps samples levels → AreLevelsOf other kept samples levels
levels-for header other qps kept samples levels e f are =
    subst (λ (h : FrameHeader). AreLevelsOf h kept samples levels) e (subst (λ (x : Qps). AreLevelsOf header x samples levels) f are)

agreed : (track : Track) (old : TrackState) (q : ℕ) → IsStateOf track old → AgreeOn track.header (kept_qps old q) (track.qps q)
agreed track old q state = record { at = state.qps q }

-- the levels are those of the picture, at the QPs of the track
pub track-levels : (track : Track) (samples : Samples) (q : ℕ) (old new : TrackState) → IsStateOf track old → IsPaddedFrom (grid_of track.header) samples old.frame.values → IsCodedAt q old new
    → AreLevelsOf track.header (track.qps q) samples (levels_of new)
track-levels track samples q old new state padded at =
    let same : new.header ≡ old.header = ap (λ (s : TrackState). s.header) at.coded in
    let here : IsPaddedFrom (grid_of old.header) samples old.frame.values = subst (λ (h : FrameHeader). IsPaddedFrom (grid_of h) samples old.frame.values) (sym state.header) padded in
    same-levels track.header (kept_qps old q) (track.qps q) samples (levels_of new) (agreed track old q state)
    (levels-for new.header track.header (qps_of new) (kept_qps old q) samples (levels_of new) (same ∙ state.header) (coded-qps q old new at) (at.levels samples here))

-- so is the PBU
pub track-bytes : (track : Track) (kind q : ℕ) (old new : TrackState) → IsStateOf track old → IsCodedAt q old new → track_pbu kind new ≡ frame_pbu kind track.header (track.qps q) (levels_of new)
track-bytes track kind q old new state at =
    let same : new.header ≡ track.header = ap (λ (s : TrackState). s.header) at.coded ∙ state.header in
    ap₂ (λ (h : FrameHeader) (x : Qps). frame_pbu kind h x (levels_of new)) same (coded-qps q old new at) ∙ same-pbu kind track.header (kept_qps old q) (track.qps q) (levels_of new) (agreed track old q state)

-- ---- the transform of all tracks

-- the tracks before a place are transformed, and the others are as before
pub record FirstTransformed (i : ℕ) (olds news : List TrackState) : Type 0 where
  pub count : length news ≡ length olds
  pub same : drop i news ≡ drop i olds
  pub done : (rest : List TrackState) → AreTransformed (drop i olds) rest → AreTransformed olds (take i news ++ rest)
  pub ready : AllByRecursion HasFrameToCode (drop i olds)

pub none-transformed : (olds : List TrackState) → AllByRecursion HasFrameToCode olds → FirstTransformed 0 olds olds
none-transformed olds ready = record { count = refl; same = refl; done = λ rest all. all; ready = ready }

old-at-place : (i : ℕ) (olds news : List TrackState) (d : TrackState) → i < length news → drop i news ≡ drop i olds → drop i olds ≡ get_or news i d ∷ drop (i + 1) news
old-at-place i olds news d lt same = sym same ∙ from-place news i d lt

-- the next track can be transformed
pub next-ready : (i : ℕ) (olds news : List TrackState) (d : TrackState) → i < length news → FirstTransformed i olds news → HasFrameToCode (get_or news i d)
next-ready i olds news d lt first = (subst (AllByRecursion HasFrameToCode) (old-at-place i olds news d lt first.same) first.ready).0

-- and then it is
pub next-transformed : (i : ℕ) (olds news : List TrackState) (d new : TrackState) → i < length news → IsTransformed (get_or news i d) new → FirstTransformed i olds news → FirstTransformed (i + 1) olds (slice_set news i new)
next-transformed i olds news d new lt is first =
    let old : drop i olds ≡ get_or news i d ∷ drop (i + 1) news = old-at-place i olds news d lt first.same in
    let later : drop (i + 1) news ≡ drop (i + 1) olds = later-same in
    record {
      count = length-set news i new ∙ first.count;
      same = drop-set-lt (i + 1) news i new (omega arith) ∙ later;
      done = λ rest all.
          (let here : AreTransformed (drop i olds) (new ∷ rest) = subst (λ (states : List TrackState). AreTransformed states (new ∷ rest)) (sym old) (is, subst (λ (states : List TrackState). AreTransformed states rest) (sym later) all) in
          subst (AreTransformed olds) (sym (ap (λ (states : List TrackState). states ++ rest) (take_more_set news i new lt) ∙ append_assoc (take i news) (new ∷ []) rest)) (first.done (new ∷ rest) here));
      ready = subst (AllByRecursion HasFrameToCode) later (subst (AllByRecursion HasFrameToCode) old first.ready).1;
    }
  where
    later-same : drop (i + 1) news ≡ drop (i + 1) olds
    later-same = sym (drop-drop 1 i news) ∙ ap (drop 1) first.same ∙ drop-drop 1 i olds

-- after the last one all are
pub all-transformed : (i : ℕ) (olds news : List TrackState) → length news ≤ i → FirstTransformed i olds news → AreTransformed olds news
all-transformed i olds news le first =
    let none : AreTransformed (drop i olds) [] = subst (λ (states : List TrackState). AreTransformed states []) (sym (drop_all i olds (omega (arith, le, first.count)))) refl in
    subst (AreTransformed olds) (append-nil (take i news) ∙ take_all i news le) (first.done [] none)
