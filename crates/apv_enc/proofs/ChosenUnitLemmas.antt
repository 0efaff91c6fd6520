-- The QP that is chosen for tracks by their sizes is the one that is chosen for their pictures.
use Rattle.std.proofs.Common.{◌≡◌, ℕ, ℤ, ◌-◌, ◌^◌, ◌<◌, ◌≤◌, Option, Some, None, List, [], ◌∷◌, length, get_or, refl, sym, ap, ◌∙◌, subst, arith}
use Rattle.std.specs.Prelude.{IfSome}
use Rattle.std.specs.List.{AllByRecursion}
use Rattle.apv_base.specs.declared.format.Format.{Format}
use Rattle.apv_base.specs.declared.header.FrameHeader.{FrameHeader}
use Rattle.apv_base.specs.laws.Answer.{HasExactlyOne}
use Rattle.apv_base.specs.model.Header.{IsSoundHeader}
use Rattle.apv_base.specs.model.Run.{MAX_UNIT}
use Rattle.apv_encoding.specs.AccessUnit.{EncodedUnit, HasSizeAt, IsChosen, Pictures}
use Rattle.apv_encoding.specs.Laws.{HaveSoundHeaders, IsTooLarge, IsUnitAt}
use Rattle.apv_encoding.specs.Settings.{EncoderSettings, IsPermittedQp, Track, given_or, tracks_of}
use Rattle.apv_enc.specs.Coding.{IsAboveLimit, IsUnitMade, unit_of_states}
use Rattle.apv_enc.specs.UnitParts.{AreTransformed, HasFixedSize, unit_bytes}
use Rattle.apv_search.specs.Choice.{AreAtQp, IsInRange, IsLeast}
use Rattle.apv_search.specs.Choice.{HasSizeAt as HasStateSizeAt, IsTooLarge as AreTooLarge}
use Rattle.apv_search.specs.declared.choice.Chosen.{Chosen}
use Rattle.apv_search.specs.declared.choice.QpRange.{QpRange}
use Rattle.apv_search.specs.declared.choice.TooLarge.{TooLarge}
use Rattle.apv_tracks.specs.Plain.{plain_settings, rate_by}
use Rattle.apv_tracks.specs.States.{AreReady, AreStatesOf}
use Rattle.apv_words.specs.declared.encoder.EncSettings.{EncSettings}
use Rattle.apv_workers.specs.Track.{TrackState}
use Rattle.apv_enc.proofs.CodedTrackLemmas.{all-coded, all-coded-at, at-requantised, same-headers}
use Rattle.apv_enc.proofs.UnitOfTracksLemmas.{unit-of-states}

-- ---- what is known of the tracks

abbrev pub tracks_by : EncSettings → Format → (ℕ → ℤ) → List Track
tracks_by words format tile_offset = tracks_of (plain_settings words) format tile_offset

-- pictures have exactly one access unit at each QP
abbrev pub HasOneUnit : Type 0
HasOneUnit =
    (settings : EncoderSettings) (tracks : List Track) (payloads : List ℕ) (pictures : Pictures) (q : ℕ) → HaveSoundHeaders tracks → HasExactlyOne (IsUnitAt settings tracks payloads pictures q)

-- the tracks are ready and were transformed, and their access units have so many fixed bytes
pub record IsPrepared (words : EncSettings) (format : Format) (tile_offset : ℕ → ℤ) (payloads : List ℕ) (pictures : Pictures) (fixed : ℕ) (olds mids : List TrackState) : Type 0 where
  pub one : HasOneUnit
  pub ready : AreReady (tracks_by words format tile_offset) pictures olds
  pub sound : AllByRecursion (λ (s : TrackState). IsSoundHeader s.header) olds
  pub transformed : AreTransformed olds mids
  pub size : HasFixedSize words olds payloads fixed

sound-tracks : (tracks : List Track) (states : List TrackState) → AreStatesOf tracks states → AllByRecursion (λ (s : TrackState). IsSoundHeader s.header) states → HaveSoundHeaders tracks
sound-tracks [] states kept sound = tt
sound-tracks (track ∷ tracks) [] kept sound = absurd kept
sound-tracks (track ∷ tracks) (state ∷ states) kept sound = (subst IsSoundHeader kept.0.header sound.0, sound-tracks tracks states kept.1 sound.1)

-- ---- sizes

-- the size of the tracks at a QP is that of their pictures
pub states-size : (words : EncSettings) (format : Format) (tile_offset : ℕ → ℤ) (payloads : List ℕ) (pictures : Pictures) (fixed : ℕ) (olds mids : List TrackState) (q size : ℕ) → IsPrepared words format tile_offset payloads pictures fixed olds mids
    → HasStateSizeAt fixed mids q size → HasSizeAt (plain_settings words) (tracks_by words format tile_offset) payloads pictures q size
states-size words format tile_offset payloads pictures fixed olds mids q size is has =
    let states : List TrackState = has.0 in
    let bytes : List ℕ = unit_bytes words states payloads in
    let at = all-coded-at q olds mids states is.transformed has.1 in
    let headers = same-headers olds states (all-coded olds mids states is.transformed (at-requantised q mids states has.1)) in
    (unit_of_states q states bytes, unit-of-states words format tile_offset payloads pictures q olds states bytes is.ready at refl, refl, has.2 ∙ sym (is.size states headers))

-- pictures have one size at a QP
same-size : HasOneUnit → (settings : EncoderSettings) (tracks : List Track) (payloads : List ℕ) (pictures : Pictures) (q m n : ℕ) → HaveSoundHeaders tracks
    → HasSizeAt settings tracks payloads pictures q m → HasSizeAt settings tracks payloads pictures q n → m ≡ n
same-size one settings tracks payloads pictures q m n sound a b =
    let only = (one settings tracks payloads pictures q sound).only in
    let same : a.0 ≡ b.0 = only a.0 (record { unit_of = a.1; qp = a.2 }) ∙ sym (only b.0 (record { unit_of = b.1; qp = b.2 })) in
    a.3 ∙ ap (λ (unit : EncodedUnit). length unit.bytes) same ∙ sym b.3

-- a size of the pictures is that of the tracks
pub size-of-states : (words : EncSettings) (format : Format) (tile_offset : ℕ → ℤ) (payloads : List ℕ) (pictures : Pictures) (fixed : ℕ) (olds mids : List TrackState) (q size other : ℕ) → IsPrepared words format tile_offset payloads pictures fixed olds mids
    → HasStateSizeAt fixed mids q size → HasSizeAt (plain_settings words) (tracks_by words format tile_offset) payloads pictures q other → other ≡ size
size-of-states words format tile_offset payloads pictures fixed olds mids q size other is has known =
    same-size is.one (plain_settings words) (tracks_by words format tile_offset) payloads pictures q other size (sound-tracks (tracks_by words format tile_offset) olds is.ready.kept is.sound) known
    (states-size words format tile_offset payloads pictures fixed olds mids q size is has)

-- ---- permitted QPs

-- the range has the permitted QPs, and the bound is the limit, where there is one
pub record IsSearch (words : EncSettings) (limit : Option ℕ) (depth : ℕ) (range : QpRange) (bound : ℕ) : Type 0 where
  pub permits : (q : ℕ) → IsInRange range q → IsPermittedQp (rate_by words limit) depth q
  pub permitted : (q : ℕ) → IsPermittedQp (rate_by words limit) depth q → IsInRange range q
  pub bound_is : bound ≡ given_or limit (2 ^ 64 - 1)

-- where the range is that of the depth of the first track
pub search-by : (words : EncSettings) (depth other : ℕ) (range : QpRange) (bound : ℕ) → depth ≡ other → ((q : ℕ) → IsInRange range q → IsPermittedQp (rate_by words words.limit) depth q)
    → ((q : ℕ) → IsPermittedQp (rate_by words words.limit) depth q → IsInRange range q) → bound ≡ given_or words.limit (2 ^ 64 - 1) → IsSearch words words.limit other range bound
search-by words depth other range bound e permits permitted is = record {
  permits = subst (λ (d : ℕ). (q : ℕ) → IsInRange range q → IsPermittedQp (rate_by words words.limit) d q) e permits;
  permitted = subst (λ (d : ℕ). (q : ℕ) → IsPermittedQp (rate_by words words.limit) d q → IsInRange range q) e permitted;
  bound_is = is;
}

-- the bit depth of the first track is that of the primary frames
pub first-depth : (words : EncSettings) (format : Format) (tile_offset : ℕ → ℤ) (states : List TrackState) (d : TrackState) → AreStatesOf (tracks_by words format tile_offset) states → (get_or states 0 d).header.info.depth ≡ format.depth
first-depth words format tile_offset [] d kept = absurd kept
first-depth words format tile_offset (state ∷ states) d kept = ap (λ (h : FrameHeader). h.info.depth) kept.0.header

chosen-by : (words : EncSettings) (format : Format) (tile_offset : ℕ → ℤ) (payloads : List ℕ) (pictures : Pictures) (depth : ℕ) (limit : Option ℕ) (range : QpRange) (bound : ℕ) (unit : EncodedUnit) → IsSearch words limit depth range bound
    → IsInRange range unit.q → length unit.bytes ≤ bound
    → ((q size : ℕ) → range.least ≤ q → q < unit.q → HasSizeAt (plain_settings words) (tracks_by words format tile_offset) payloads pictures q size → bound < size)
    → IsChosen (plain_settings words) depth (tracks_by words format tile_offset) payloads pictures (rate_by words limit) unit
chosen-by words format tile_offset payloads pictures depth None range bound unit is within fits before = is.permits unit.q within
chosen-by words format tile_offset payloads pictures depth (Some limit) range bound unit is within fits before = (
  is.permits unit.q within,
  omega (arith, fits, is.bound_is),
  λ q size permitted lt has. omega (arith, before q size (is.permitted q permitted).0 lt has, is.bound_is),
)

-- ---- how the search ends

-- the access unit of the tracks at the QP that was chosen
pub unit-made : (words : EncSettings) (format : Format) (tile_offset : ℕ → ℤ) (payloads : List ℕ) (pictures : Pictures) (fixed : ℕ) (olds mids news : List TrackState) (range : QpRange) (bound : ℕ) (chosen : Chosen) (bytes : List ℕ)
    → IsPrepared words format tile_offset payloads pictures fixed olds mids → IsSearch words words.limit format.depth range bound → IsLeast fixed mids range bound chosen → AreAtQp chosen.qp mids news
    → bytes ≡ unit_bytes words news payloads → chosen.size ≡ length bytes → chosen.size ≤ MAX_UNIT
    → IsUnitMade (plain_settings words) format.depth (tracks_by words format tile_offset) payloads pictures chosen news bytes
unit-made words format tile_offset payloads pictures fixed olds mids news range bound chosen bytes is search least at e size few = record {
  unit_of = unit-of-states words format tile_offset payloads pictures chosen.qp olds news bytes is.ready (all-coded-at chosen.qp olds mids news is.transformed at) e;
  chosen_qp =
      chosen-by words format tile_offset payloads pictures format.depth words.limit range bound (unit_of_states chosen.qp news bytes) search least.permitted (omega (arith, size, least.fits))
      (λ q other from lt has. (let large = least.before q from lt in omega (arith, size-of-states words format tile_offset payloads pictures fixed olds mids q large.0 other is large.1 has, large.2)));
  size = size;
  small = omega (arith, size, few);
}

-- the sizes are too large at all permitted QPs
too-large-by : (words : EncSettings) (format : Format) (tile_offset : ℕ → ℤ) (payloads : List ℕ) (pictures : Pictures) (fixed : ℕ) (olds mids : List TrackState) (limit : Option ℕ) (range : QpRange) (bound : ℕ) (large : TooLarge)
    → IsPrepared words format tile_offset payloads pictures fixed olds mids → words.limit ≡ limit → IsSearch words limit format.depth range bound → AreTooLarge fixed mids range bound large → large.smallest < 2 ^ 64
    → IsTooLarge (plain_settings words) format.depth (tracks_by words format tile_offset) payloads pictures large.smallest
too-large-by words format tile_offset payloads pictures fixed olds mids None range bound large is e search nowhere few = absurd (omega (arith, nowhere.above, search.bound_is, few))
too-large-by words format tile_offset payloads pictures fixed olds mids (Some limit) range bound large is e search nowhere few =
    let rate = ap (rate_by words) e in
    record {
      limit = limit;
      first = words.qp_min;
      last = words.qp_max;
      rate = rate;
      nowhere = record {
        q = nowhere.q;
        permitted = subst (λ r. IsPermittedQp r format.depth nowhere.q) (sym rate) (search.permits nowhere.q nowhere.permitted);
        size = states-size words format tile_offset payloads pictures fixed olds mids nowhere.q large.smallest is nowhere.size;
        least = λ other size permitted has. (let found = nowhere.least other (search.permitted other (subst (λ r. IsPermittedQp r format.depth other) rate permitted)) in
            omega (arith, size-of-states words format tile_offset payloads pictures fixed olds mids other found.0 size is found.1 has, found.2));
      };
      above = omega (arith, nowhere.above, search.bound_is);
    }

pub too-large : (words : EncSettings) (format : Format) (tile_offset : ℕ → ℤ) (payloads : List ℕ) (pictures : Pictures) (fixed : ℕ) (olds mids : List TrackState) (range : QpRange) (bound : ℕ) (large : TooLarge)
    → IsPrepared words format tile_offset payloads pictures fixed olds mids → IsSearch words words.limit format.depth range bound → AreTooLarge fixed mids range bound large → large.smallest < 2 ^ 64
    → IsTooLarge (plain_settings words) format.depth (tracks_by words format tile_offset) payloads pictures large.smallest
too-large words format tile_offset payloads pictures fixed olds mids range bound large is search nowhere few =
    too-large-by words format tile_offset payloads pictures fixed olds mids words.limit range bound large is refl search nowhere few

-- the size at the only QP is above the limit L1
above-limit-by : (words : EncSettings) (format : Format) (tile_offset : ℕ → ℤ) (payloads : List ℕ) (pictures : Pictures) (fixed : ℕ) (olds mids : List TrackState) (limit : Option ℕ) (range : QpRange) (bound : ℕ) (chosen : Chosen)
    → IsPrepared words format tile_offset payloads pictures fixed olds mids → words.limit ≡ limit → IfSome limit (λ n. (1 ≤ n) × (n ≤ 536870912)) → IsSearch words limit format.depth range bound → IsLeast fixed mids range bound chosen
    → MAX_UNIT < chosen.size → IsAboveLimit (plain_settings words) (tracks_by words format tile_offset) payloads pictures chosen.size
above-limit-by words format tile_offset payloads pictures fixed olds mids (Some limit) range bound chosen is e few search least above = absurd (omega (arith, least.fits, search.bound_is, few.1, above))
above-limit-by words format tile_offset payloads pictures fixed olds mids None range bound chosen is e few search least above =
    record {
      qp = given_or words.qp 0;
      rate = ap (rate_by words) e;
      size_at = subst (λ (q : ℕ). HasSizeAt (plain_settings words) (tracks_by words format tile_offset) payloads pictures q chosen.size) (search.permits chosen.qp least.permitted)
          (states-size words format tile_offset payloads pictures fixed olds mids chosen.qp chosen.size is least.size);
      above = above;
    }

pub above-limit : (words : EncSettings) (format : Format) (tile_offset : ℕ → ℤ) (payloads : List ℕ) (pictures : Pictures) (fixed : ℕ) (olds mids : List TrackState) (range : QpRange) (bound : ℕ) (chosen : Chosen)
    → IsPrepared words format tile_offset payloads pictures fixed olds mids → IfSome words.limit (λ n. (1 ≤ n) × (n ≤ 536870912)) → IsSearch words words.limit format.depth range bound → IsLeast fixed mids range bound chosen
    → MAX_UNIT < chosen.size → IsAboveLimit (plain_settings words) (tracks_by words format tile_offset) payloads pictures chosen.size
above-limit words format tile_offset payloads pictures fixed olds mids range bound chosen is few search least above =
    above-limit-by words format tile_offset payloads pictures fixed olds mids words.limit range bound chosen is refl few search least above
