-- The access unit of tracks that are coded at a QP is that of their pictures.
use Rattle.std.proofs.Common.{◌≡◌, ℕ, ℤ, Option, Some, None, List, [], ◌∷◌, ◌++◌, map, refl, sym, ap, ap₂, ◌∙◌, subst}
use Rattle.std.specs.Prelude.{is_some}
use Rattle.apv_base.specs.declared.format.Format.{Format}
use Rattle.apv_base.specs.declared.format.FrameInfo.{FrameInfo}
use Rattle.apv_base.specs.declared.slot.Slot.TheVariants.{Input, Preview, Depth, Alpha}
use Rattle.apv_base.specs.model.AuInfo.{ListedFrame}
use Rattle.apv_base.specs.model.Encode.{frame_pbu}
use Rattle.apv_base.specs.model.Pbu.{signature}
use Rattle.apv_encoding.specs.AccessUnit.{AreTheirLevels, IsUnitOf, Pictures, filler_pbu, frame_pbus, listed_frame, metadata_pbu}
use Rattle.apv_encoding.specs.Settings.{EncoderSettings, Track, grey_track, preview_tracks, primary_track, tracks_of, where_asked}
use Rattle.apv_enc.specs.Coding.{unit_of_states}
use Rattle.apv_enc.specs.UnitParts.{au_info_part, listed_states, state_pbus, unit_bytes}
use Rattle.apv_tracks.specs.Kinds.{kind_with, kinds_of, where_named}
use Rattle.apv_tracks.specs.Plain.{plain_settings, preview_by}
use Rattle.apv_tracks.specs.States.{AreReady, AreStatesOf, HavePictures}
use Rattle.apv_tracks.specs.declared.kinds.TrackKind.{TrackKind}
use Rattle.apv_words.specs.declared.encoder.EncSettings.{EncSettings}
use Rattle.apv_workers.specs.Track.{TrackState, levels_of}
use Rattle.apv_enc.proofs.CodedTrackLemmas.{AreCodedAt, IsCodedAt, track-bytes, track-levels}

-- ---- the types of the frames

-- the types are those of the tracks, in their order
abbrev pub AreKinds : List TrackKind → List Track → Type 0
AreKinds [] tracks = tracks ≡ []
AreKinds (kind ∷ kinds) [] = ⊥
AreKinds (kind ∷ kinds) (track ∷ tracks) = (kind.pbu_type ≡ track.kind) × AreKinds kinds tracks

both-kinds : (kinds : List TrackKind) (tracks : List Track) (more : List TrackKind) (others : List Track) → AreKinds kinds tracks → AreKinds more others → AreKinds (kinds ++ more) (tracks ++ others)
both-kinds [] tracks more others a b = subst (λ (xs : List Track). AreKinds more (xs ++ others)) (sym a) b
both-kinds (kind ∷ kinds) [] more others a b = absurd a
both-kinds (kind ∷ kinds) (track ∷ tracks) more others a b = (a.0, both-kinds kinds tracks more others a.1 b)

preview-kinds : (settings : EncoderSettings) (words : EncSettings) (name : Option (List ℕ)) → AreKinds (where_named name (kind_with Preview 25)) (preview_tracks settings (preview_by words name))
preview-kinds settings words None = refl
preview-kinds settings words (Some name) = (refl, refl)

kinds-asked : (name : Option (List ℕ)) (kind : TrackKind) (track : Track) → kind.pbu_type ≡ track.kind → AreKinds (where_named name kind) (where_asked (is_some name) track)
kinds-asked None kind track e = refl
kinds-asked (Some name) kind track e = (e, refl)

-- the types of the tracks of settings
pub kinds-of-tracks : (words : EncSettings) (format : Format) (tile_offset : ℕ → ℤ) → AreKinds (kinds_of words) (tracks_of (plain_settings words) format tile_offset)
kinds-of-tracks words format tile_offset =
    let settings : EncoderSettings = plain_settings words in
    let kinds : List TrackKind = kind_with Input 1 ∷ where_named words.preview (kind_with Preview 25) in
    let tracks : List Track = primary_track settings format tile_offset ∷ preview_tracks settings settings.preview in
    let first : AreKinds kinds tracks = (refl, preview-kinds settings words words.preview) in
    let depth : Track = grey_track settings format Depth 26 in
    let alpha : Track = grey_track settings format Alpha 27 in
    let depth_kinds : List TrackKind = where_named words.depth_map (kind_with Depth 26) in
    let depth_tracks : List Track = where_asked settings.depth depth in
    both-kinds (kinds ++ depth_kinds) (tracks ++ depth_tracks) (where_named words.alpha (kind_with Alpha 27)) (where_asked settings.alpha alpha)
    (both-kinds kinds tracks depth_kinds depth_tracks first (kinds-asked words.depth_map (kind_with Depth 26) depth refl)) (kinds-asked words.alpha (kind_with Alpha 27) alpha refl)

-- ---- the frames

all-levels : (tracks : List Track) (pictures : Pictures) (q : ℕ) (olds news : List TrackState) → AreStatesOf tracks olds → HavePictures tracks pictures olds → AreCodedAt q olds news → AreTheirLevels tracks pictures q (map levels_of news)
all-levels [] pictures q olds news kept frames at =
    let none : news ≡ [] = subst (λ (states : List TrackState). AreCodedAt q states news) kept at in
    ap (map levels_of) none
all-levels (track ∷ tracks) pictures q [] news kept frames at = absurd kept
all-levels (track ∷ tracks) pictures q (old ∷ olds) [] kept frames at = absurd at
all-levels (track ∷ tracks) pictures q (old ∷ olds) (new ∷ news) kept frames at =
    (track-levels track (pictures track.slot) q old new kept.0 frames.0 at.0, all-levels tracks pictures q olds news kept.1 frames.1 at.1)

all-bytes : (kinds : List TrackKind) (tracks : List Track) (q : ℕ) (olds news : List TrackState) → AreKinds kinds tracks → AreStatesOf tracks olds → AreCodedAt q olds news → state_pbus kinds news ≡ frame_pbus tracks q (map levels_of news)
all-bytes [] tracks q olds news kinds_are kept at = sym (ap (λ (all : List Track). frame_pbus all q (map levels_of news)) kinds_are)
all-bytes (kind ∷ kinds) [] q olds news kinds_are kept at = absurd kinds_are
all-bytes (kind ∷ kinds) (track ∷ tracks) q [] news kinds_are kept at = absurd kept
all-bytes (kind ∷ kinds) (track ∷ tracks) q (old ∷ olds) [] kinds_are kept at = absurd at
all-bytes (kind ∷ kinds) (track ∷ tracks) q (old ∷ olds) (new ∷ news) kinds_are kept at =
    let first = track-bytes track kind.pbu_type q old new kept.0 at.0 ∙ ap (λ (n : ℕ). frame_pbu n track.header (track.qps q) (levels_of new)) kinds_are.0 in
    ap₂ (λ (xs ys : List ℕ). xs ++ ys) first (all-bytes kinds tracks q olds news kinds_are.1 kept.1 at.1)

same-listed : (n m : ℕ) (info other : FrameInfo) → n ≡ m → info ≡ other → ◌≡◌ {A = ListedFrame} (record { kind = n; group = 1; info = info }) (record { kind = m; group = 1; info = other })
same-listed n m info other e f = rw (e, f) refl

all-listed : (kinds : List TrackKind) (tracks : List Track) (q : ℕ) (olds news : List TrackState) → AreKinds kinds tracks → AreStatesOf tracks olds → AreCodedAt q olds news → listed_states kinds news ≡ map listed_frame tracks
all-listed [] tracks q olds news kinds_are kept at = sym (ap (map listed_frame) kinds_are)
all-listed (kind ∷ kinds) [] q olds news kinds_are kept at = absurd kinds_are
all-listed (kind ∷ kinds) (track ∷ tracks) q [] news kinds_are kept at = absurd kept
all-listed (kind ∷ kinds) (track ∷ tracks) q (old ∷ olds) [] kinds_are kept at = absurd at
all-listed (kind ∷ kinds) (track ∷ tracks) q (old ∷ olds) (new ∷ news) kinds_are kept at =
    let coded : IsCodedAt q old new = at.0 in
    let info : new.header.info ≡ track.header.info = ap (λ (s : TrackState). s.header.info) coded.coded ∙ ap (λ h. h.info) kept.0.header in
    ap₂ (λ (frame : ListedFrame) (more : List ListedFrame). frame ∷ more) (same-listed kind.pbu_type track.kind new.header.info track.header.info kinds_are.0 info) (all-listed kinds tracks q olds news kinds_are.1 kept.1 at.1)

-- ---- the access unit

-- it is that of the pictures
pub unit-of-states : (words : EncSettings) (format : Format) (tile_offset : ℕ → ℤ) (payloads : List ℕ) (pictures : Pictures) (q : ℕ) (olds news : List TrackState) (bytes : List ℕ)
    → AreReady (tracks_of (plain_settings words) format tile_offset) pictures olds → AreCodedAt q olds news → bytes ≡ unit_bytes words news payloads
    → IsUnitOf (plain_settings words) (tracks_of (plain_settings words) format tile_offset) payloads pictures (unit_of_states q news bytes)
unit-of-states words format tile_offset payloads pictures q olds news bytes ready at e =
    let tracks : List Track = tracks_of (plain_settings words) format tile_offset in
    let kinds = kinds-of-tracks words format tile_offset in
    let frames = all-bytes (kinds_of words) tracks q olds news kinds ready.kept at in
    let listed = all-listed (kinds_of words) tracks q olds news kinds ready.kept at in
    let after : List ℕ = metadata_pbu payloads ++ filler_pbu words.filler in
    record {
      levels = all-levels tracks pictures q olds news ready.kept ready.frames at;
      bytes = e ∙ ap₂ (λ (all : List ListedFrame) (pbus : List ℕ). signature ++ (au_info_part words.au_info all ++ (pbus ++ after))) listed frames;
    }
