-- How many bytes the frames of tracks and their access units have, but for the data of tiles.
use Rattle.std.proofs.Common.{◌≡◌, ℕ, suc, ◌+◌, ◌≤◌, List, [], ◌∷◌, ◌++◌, length, map, drop, refl, sym, ap, ◌∙◌, subst, arith, length-append}
use Rattle.std.specs.List.{sum}
use Rattle.std.proofs.lemmas.List.{drop_all, map-append}
use Rattle.std.proofs.lemmas.List.FromFn.{map-range_with_len_more}
use Rattle.std.proofs.lemmas.List.Sums.{sum_by-cons}
use Rattle.apv_base.specs.declared.header.FrameHeader.{FrameHeader}
use Rattle.apv_base.specs.model.AuInfo.{ListedFrame}
use Rattle.apv_base.specs.model.Encode.{each}
use Rattle.apv_base.specs.model.Pbu.{signature}
use Rattle.apv_base.specs.model.Tile.{Tile}
use Rattle.apv_encoding.specs.AccessUnit.{filler_pbu, metadata_pbu}
use Rattle.apv_enc.specs.UnitParts.{HasFixedSize, HaveFixedSize, HaveHeadersOf, au_info_part, listed_states, state_pbus, unit_bytes}
use Rattle.apv_frame.specs.Coded.{IsFixedSize, track_pbu}
use Rattle.apv_header.proofs.NumbersLemmas.{sum-push}
use Rattle.apv_search.specs.Choice.{data_of, frame_data}
use Rattle.apv_tracks.specs.Kinds.{kinds_of}
use Rattle.apv_tracks.specs.declared.kinds.TrackKind.{TrackKind}
use Rattle.apv_words.specs.declared.encoder.EncSettings.{EncSettings}
use Rattle.apv_workers.specs.Track.{TrackState, data_bytes, levels_of, qps_of}

-- ---- frames

-- the bytes of the data of tracks, one more first
pub data-cons : (state : TrackState) (states : List TrackState) → data_of (state ∷ states) ≡ frame_data state + data_of states
data-cons state states = sum_by-cons (λ (n : ℕ). n) (frame_data state) (map frame_data states)

-- a frame has its fixed bytes and those of its data
pub frame-size : (state : TrackState) (kind n : ℕ) → IsFixedSize state.header n → length (track_pbu kind state) ≡ n + frame_data state
frame-size state kind n is = is kind (qps_of state) (levels_of state)

one-more : (old : TrackState) (olds : List TrackState) (n rest : ℕ) → IsFixedSize old.header n → HaveFixedSize olds rest → HaveFixedSize (old ∷ olds) (n + rest)
one-more old olds n rest is more [] states e headers = absurd (omega (arith, e))
one-more old olds n rest is more (kind ∷ kinds) [] e headers = absurd headers
one-more old olds n rest is more (kind ∷ kinds) (new ∷ news) e headers =
    let here : IsFixedSize new.header n = subst (λ (h : FrameHeader). IsFixedSize h n) (sym headers.0) is in
    omega (
      arith,
      length-append (track_pbu kind.pbu_type new) (state_pbus kinds news),
      frame-size new kind.pbu_type n here,
      more kinds news (omega (arith, e)) headers.1,
      data-cons new news,
    )

no-kinds : (kinds : List TrackKind) (states : List TrackState) → length kinds ≡ 0 → states ≡ [] → length (state_pbus kinds states) ≡ 0 + data_of states
no-kinds [] states e f = rw f refl
no-kinds (kind ∷ kinds) states e f = absurd (omega (arith, e))

-- those of the frames before a place are total, so that those of all frames follow from those of the frames from there on
abbrev pub AreFixedSoFar : List TrackState → ℕ → ℕ → Type 0
AreFixedSoFar tracks i total = (rest : ℕ) → HaveFixedSize (drop i tracks) rest → HaveFixedSize tracks (total + rest)

pub fixed-more : (tracks : List TrackState) (i total n : ℕ) (track : TrackState) → drop i tracks ≡ track ∷ drop (i + 1) tracks → IsFixedSize track.header n → AreFixedSoFar tracks i total → AreFixedSoFar tracks (i + 1) (total + n)
fixed-more tracks i total n track split is so_far rest more =
    let here : HaveFixedSize (drop i tracks) (n + rest) = subst (λ (states : List TrackState). HaveFixedSize states (n + rest)) (sym split) (one-more track (drop (i + 1) tracks) n rest is more) in
    let sum_is : total + (n + rest) ≡ total + n + rest = omega arith in
    subst (HaveFixedSize tracks) sum_is (so_far (n + rest) here)

pub fixed-all : (tracks : List TrackState) (i total : ℕ) → length tracks ≤ i → AreFixedSoFar tracks i total → HaveFixedSize tracks total
fixed-all tracks i total le so_far =
    let none : HaveFixedSize (drop i tracks) 0 = subst (λ (states : List TrackState). HaveFixedSize states 0) (sym (drop_all i tracks le)) no-kinds in
    let sum_is : total + 0 ≡ total = omega arith in
    subst (HaveFixedSize tracks) sum_is (so_far 0 none)

-- ---- the data of a frame

-- the bytes of the data of one tile more
pub tiles-more : (tile : ℕ → Tile) (n : ℕ) → sum (map data_bytes (each (n + 1) tile)) ≡ sum (map data_bytes (each n tile)) + data_bytes (tile n)
tiles-more tile n =
    ap (λ (tiles : List Tile). sum (map data_bytes tiles)) (map-range_with_len_more tile 0 n n (omega arith))
    ∙ ap sum (map-append data_bytes (each n tile) (tile n ∷ []))
    ∙ sum-push (map data_bytes (each n tile)) (data_bytes (tile n))

-- ---- access units

pub listed-count : (kinds : List TrackKind) (states : List TrackState) → length kinds ≡ length states → length (listed_states kinds states) ≡ length states
listed-count [] states e = e
listed-count (kind ∷ kinds) [] e = absurd (omega (arith, e))
listed-count (kind ∷ kinds) (state ∷ states) e = ap suc (listed-count kinds states (omega (arith, e)))

pub headers-count : (olds news : List TrackState) → HaveHeadersOf olds news → length news ≡ length olds
headers-count [] news h = ap length h
headers-count (old ∷ olds) [] h = absurd h
headers-count (old ∷ olds) (new ∷ news) h = ap suc (headers-count olds news h.1)

-- the bytes of the parts together
pub parts-size : (settings : EncSettings) (states : List TrackState) (payloads : List ℕ)
    → length (unit_bytes settings states payloads) ≡ 4 + (length (au_info_part settings.au_info (listed_states (kinds_of settings) states))
    + (length (state_pbus (kinds_of settings) states) + (length (metadata_pbu payloads) + length (filler_pbu settings.filler))))
parts-size settings states payloads =
    let listed : List ℕ = au_info_part settings.au_info (listed_states (kinds_of settings) states) in
    let frames : List ℕ = state_pbus (kinds_of settings) states in
    let metadata : List ℕ = metadata_pbu payloads in
    let filler : List ℕ = filler_pbu settings.filler in
    length-append signature (listed ++ (frames ++ (metadata ++ filler)))
    ∙ ap (λ (n : ℕ). 4 + n) (length-append listed (frames ++ (metadata ++ filler)) ∙ ap (λ (n : ℕ). length listed + n) (length-append frames (metadata ++ filler) ∙ ap (λ (n : ℕ). length frames + n) (length-append metadata filler)))

-- the fixed bytes are those of all parts but the frames, and the fixed ones of the frames
pub unit-size : (settings : EncSettings) (tracks : List TrackState) (payloads : List ℕ) (au_info metadata filler frames : ℕ) → length tracks ≡ length (kinds_of settings)
    → ((listed : List ListedFrame) → length listed ≡ length tracks → au_info ≡ length (au_info_part settings.au_info listed))
    → metadata ≡ length (metadata_pbu payloads) → filler ≡ length (filler_pbu settings.filler) → HaveFixedSize tracks frames
    → HasFixedSize settings tracks payloads (4 + au_info + metadata + filler + frames)
unit-size settings tracks payloads au_info metadata filler frames count listed em ef fixed states headers =
    let same = headers-count tracks states headers in
    let kinds : List TrackKind = kinds_of settings in
    let all : List ListedFrame = listed_states kinds states in
    omega (
      arith,
      parts-size settings states payloads,
      listed all (listed-count kinds states (sym count ∙ sym same) ∙ same),
      fixed kinds states (sym count) headers,
      em,
      ef,
    )
