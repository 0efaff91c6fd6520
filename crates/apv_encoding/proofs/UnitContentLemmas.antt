-- The frames and the payloads in the PBUs of an access unit.
use Rattle.std.proofs.Common.{◌≡◌, ℕ, List, [], ◌∷◌, ◌++◌, refl, sym, ap, ap₂, ◌∙◌, Option, Some, None, Bool, true, false, append-nil}
use Rattle.std.specs.List.{AllByRecursion}
use Rattle.std.proofs.lemmas.Grind.{flat_map-append}
use Rattle.apv_base.specs.model.CodedFrame.{Levels}
use Rattle.apv_base.specs.model.Judge.{DecodedFrame, AreDecodedFrames, none, other, decoded}
use Rattle.apv_base.specs.model.Payload.{Payload, payloads_bytes, ArePayloads}
use Rattle.apv_base.specs.model.Pbu.{Pbu, METADATA, FILLER, AU_INFO, is_frame}
use Rattle.apv_base.specs.model.Sound.{unit_payloads}
use Rattle.apv_base.proofs.HeaderPartsLemmas.{all-append}
use Rattle.apv_encoding.specs.AccessUnit.{Pictures, AreTheirLevels}
use Rattle.apv_encoding.specs.DecodedUnit.{decoded_frame, decoded_frames}
use Rattle.apv_encoding.specs.Laws.{HaveSoundHeaders}
use Rattle.apv_encoding.specs.Settings.{Track}
use Rattle.apv_encoding.proofs.DecodedPbuLemmas.{payloads-of-nothing}
use Rattle.apv_encoding.proofs.TrackFrameLemmas.{IsFrameTrack}
use Rattle.apv_encoding.proofs.WrittenPbuLemmas.{info_pbus, track_pbu, track_pbus, metadata_pbus, filler_pbus, unit_pbus, frame-read}

-- ---- facts of pbu_type

-- a fact of pbu_type of access unit information
pub all-info : (P : ℕ → Type 0) (present : Bool) (tracks : List Track) → P AU_INFO → AllByRecursion (λ (pbu : Pbu). P pbu.kind) (info_pbus present tracks)
all-info P true tracks p = (p, tt)
all-info P false tracks p = tt

-- of the frames
pub all-frames : (P : ℕ → Type 0) (Q : Track → Type 0) (tracks : List Track) (q : ℕ) (all : List Levels) → ((track : Track) → Q track → P track.kind) → AllByRecursion Q tracks → AllByRecursion (λ (pbu : Pbu). P pbu.kind) (track_pbus tracks q all)
all-frames P Q [] q all more are = tt
all-frames P Q (track ∷ tracks) q [] more are = tt
all-frames P Q (track ∷ tracks) q (levels ∷ rest) more are = (more track are.0, all-frames P Q tracks q rest more are.1)

all-metadata : (P : ℕ → Type 0) (bytes : List ℕ) (payloads : List Payload) → P METADATA → AllByRecursion (λ (pbu : Pbu). P pbu.kind) (metadata_pbus bytes payloads)
all-metadata P [] payloads p = tt
all-metadata P (byte ∷ bytes) payloads p = (p, tt)

all-filler-pbus : (P : ℕ → Type 0) (filler : Option ℕ) → P FILLER → AllByRecursion (λ (pbu : Pbu). P pbu.kind) (filler_pbus filler)
all-filler-pbus P None p = tt
all-filler-pbus P (Some count) p = (p, tt)

-- of metadata and filler
pub all-last : (P : ℕ → Type 0) (filler : Option ℕ) (bytes : List ℕ) (payloads : List Payload) → P METADATA → P FILLER → AllByRecursion (λ (pbu : Pbu). P pbu.kind) (metadata_pbus bytes payloads ++ filler_pbus filler)
all-last P filler bytes payloads p r = all-append (λ (pbu : Pbu). P pbu.kind) (metadata_pbus bytes payloads) (filler_pbus filler) (all-metadata P bytes payloads p) (all-filler-pbus P filler r)

-- the pbu_type of what is no frame
abbrev pub IsOther : ℕ → Type 0
IsOther kind = is_frame kind ≡ false

-- ---- frames

-- the frames of the tracks, and those after them
pub frames-decoded : (tracks : List Track) (pictures : Pictures) (q : ℕ) (all : List Levels) (pbus : List Pbu) → AllByRecursion IsFrameTrack tracks → HaveSoundHeaders tracks → AreTheirLevels tracks pictures q all → AreDecodedFrames pbus []
    → AreDecodedFrames (track_pbus tracks q all ++ pbus) (decoded_frames tracks q all)
frames-decoded [] pictures q all pbus are sound levels_are later = later
frames-decoded (track ∷ tracks) pictures q [] pbus are sound levels_are later = absurd levels_are
frames-decoded (track ∷ tracks) pictures q (levels ∷ more) pbus are sound levels_are later =
    decoded (track_pbu track q levels) (track_pbus tracks q more ++ pbus) (decoded_frame track q levels) (decoded_frames tracks q more) are.0.kind.is (frame-read track q (pictures track.slot) levels are.0 sound.0 levels_are.0)
    (frames-decoded tracks pictures q more pbus are.1 sound.1 levels_are.1 later)

-- PBUs that are no frames, before others
others-decoded : (pbus more : List Pbu) (frames : List DecodedFrame) → AllByRecursion (λ (pbu : Pbu). is_frame pbu.kind ≡ false) pbus → AreDecodedFrames more frames → AreDecodedFrames (pbus ++ more) frames
others-decoded [] more frames all are = are
others-decoded (pbu ∷ pbus) more frames all are = other pbu (pbus ++ more) frames all.0 (others-decoded pbus more frames all.1 are)

no-frames : (pbus : List Pbu) → AllByRecursion (λ (pbu : Pbu). IsOther pbu.kind) pbus → AreDecodedFrames pbus []
no-frames [] all = none
no-frames (pbu ∷ pbus) all = other pbu pbus [] all.0 (no-frames pbus all.1)

-- the frames of the unit are those of the tracks
pub unit-frames : (present : Bool) (filler : Option ℕ) (tracks : List Track) (pictures : Pictures) (q : ℕ) (all : List Levels) (bytes : List ℕ) (payloads : List Payload) → AllByRecursion IsFrameTrack tracks → HaveSoundHeaders tracks
    → AreTheirLevels tracks pictures q all → AreDecodedFrames (unit_pbus present filler tracks q all bytes payloads) (decoded_frames tracks q all)
unit-frames present filler tracks pictures q all bytes payloads are sound levels_are =
    let last : List Pbu = metadata_pbus bytes payloads ++ filler_pbus filler in
    others-decoded (info_pbus present tracks) (track_pbus tracks q all ++ last) (decoded_frames tracks q all) (all-info IsOther present tracks refl)
    (frames-decoded tracks pictures q all last are sound levels_are (no-frames last (all-last IsOther filler bytes payloads refl refl)))

-- ---- payloads

payloads-in-info : (present : Bool) (tracks : List Track) → unit_payloads (info_pbus present tracks) ≡ []
payloads-in-info true tracks = refl
payloads-in-info false tracks = refl

payloads-in-frames : (tracks : List Track) (q : ℕ) (all : List Levels) → unit_payloads (track_pbus tracks q all) ≡ []
payloads-in-frames [] q all = refl
payloads-in-frames (track ∷ tracks) q [] = refl
payloads-in-frames (track ∷ tracks) q (levels ∷ more) = payloads-in-frames tracks q more

payloads-in-metadata : (bytes : List ℕ) (payloads : List Payload) → ArePayloads bytes payloads → unit_payloads (metadata_pbus bytes payloads) ≡ payloads_bytes payloads
payloads-in-metadata [] payloads are = sym (ap payloads_bytes (payloads-of-nothing payloads are))
payloads-in-metadata (byte ∷ bytes) payloads are = append-nil (payloads_bytes payloads)

payloads-in-filler : (filler : Option ℕ) → unit_payloads (filler_pbus filler) ≡ []
payloads-in-filler None = refl
payloads-in-filler (Some count) = refl

-- the payloads of the unit are those of its metadata
pub unit-payloads : (present : Bool) (filler : Option ℕ) (tracks : List Track) (q : ℕ) (all : List Levels) (bytes : List ℕ) (payloads : List Payload) → ArePayloads bytes payloads
    → unit_payloads (unit_pbus present filler tracks q all bytes payloads) ≡ payloads_bytes payloads
unit-payloads present filler tracks q all bytes payloads are =
    let info : List Pbu = info_pbus present tracks in
    let frames : List Pbu = track_pbus tracks q all in
    let metadata : List Pbu = metadata_pbus bytes payloads in
    let last : List Pbu = filler_pbus filler in
    let bytes_of : Pbu → List ℕ = λ pbu. payloads_bytes pbu.payloads in
    flat_map-append bytes_of info (frames ++ (metadata ++ last)) ∙ ap₂ (λ (xs ys : List ℕ). xs ++ ys) (payloads-in-info present tracks) (flat_map-append bytes_of frames (metadata ++ last)
    ∙ ap₂ (λ (xs ys : List ℕ). xs ++ ys) (payloads-in-frames tracks q all) (flat_map-append bytes_of metadata last
    ∙ ap₂ (λ (xs ys : List ℕ). xs ++ ys) (payloads-in-metadata bytes payloads are) (payloads-in-filler filler) ∙ append-nil (payloads_bytes payloads)))
