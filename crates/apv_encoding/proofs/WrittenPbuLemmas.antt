-- The PBUs of an access unit as they are written, one after another.
use Rattle.std.proofs.Common.{◌≡◌, ℕ, ◌<◌, ◌≤◌, List, [], ◌∷◌, ◌++◌, length, replicate, refl, sym, subst, arith, lit<, zero, suc, append_assoc, Option, Some, None, Bool, true, false, append-nil, length-append}
use Rattle.std.specs.Prelude.{if◌then◌else◌, map}
use Rattle.std.specs.List.{AllByRecursion}
use Rattle.std.proofs.lemmas.List.{length-map}
use Rattle.apv_base.specs.model.AuInfo.{ListedFrame, IsListable, au_info_body}
use Rattle.apv_base.specs.model.Bits.{be}
use Rattle.apv_base.specs.model.Body.{BodyKind, body_kind_of, with_bodies, IsSoundBody}
use Rattle.apv_base.specs.model.CodedFrame.{CodedFrame, HasFrame, Levels, head_values, tile_list_values}
use Rattle.apv_base.specs.model.Encode.{frame_body, frame_with, frame_pbu, pbu_bytes}
use Rattle.apv_base.specs.model.Header.{IsSoundHeader}
use Rattle.apv_base.specs.model.Judge.{IsDecodedFrame}
use Rattle.apv_base.specs.model.Nearest.{AreLevelsOf}
use Rattle.apv_base.specs.model.Payload.{Payload, ArePayloads}
use Rattle.apv_base.specs.model.Pbu.{Pbu, METADATA, FILLER, AU_INFO, is_filler}
use Rattle.apv_base.specs.model.Picture.{Samples}
use Rattle.apv_base.specs.model.Run.{MAX_UNIT}
use Rattle.apv_base.specs.model.Sequence.{Sequence}
use Rattle.apv_base.specs.model.Unit.{PbuAt}
use Rattle.apv_base.proofs.SequenceLemmas.{sequence-append}
use Rattle.apv_laws.specs.Fits.{AreLevelsFor}
use Rattle.apv_laws.proofs.SpelledFrameLemmas.{spelled-frame}
use Rattle.apv_laws.proofs.SpelledLevelsLemmas.{spelled-levels}
use Rattle.apv_laws.proofs.TileSizeLemmas.{encoded-fits}
use Rattle.apv_encoding.specs.AccessUnit.{Pictures, AreTheirLevels, listed_frame, au_info_pbu, frame_pbus, metadata_pbu, filler_pbu}
use Rattle.apv_encoding.specs.DecodedUnit.{decoded_frame}
use Rattle.apv_encoding.specs.Laws.{HaveSoundHeaders}
use Rattle.apv_encoding.specs.Settings.{Track}
use Rattle.apv_encoding.proofs.AuInfoReadLemmas.{au-info-read}
use Rattle.apv_encoding.proofs.DecodedLevelsLemmas.{levels-fit}
use Rattle.apv_encoding.proofs.DecodedPbuLemmas.{pbu-read, pbu-longer, payloads-long, metadata-read}
use Rattle.apv_encoding.proofs.TrackFrameLemmas.{IsFrameTrack}

-- ---- the PBUs

-- a PBU in the group 1, which is not metadata
abbrev pub plain_pbu : ℕ → List ℕ → Pbu
plain_pbu kind body = record { kind = kind; group = 1; body = body; payloads = [] }

-- access unit information, where it is asked for
abbrev pub info_pbus : Bool → List Track → List Pbu
info_pbus present tracks = if present then plain_pbu AU_INFO (au_info_body (map listed_frame tracks)) ∷ [] else []

-- the frame of a track
abbrev pub track_pbu : Track → ℕ → Levels → Pbu
track_pbu track q levels = plain_pbu track.kind (frame_body (frame_with track.header (track.qps q) levels))

-- the frames of the tracks, in their order
abbrev pub track_pbus : List Track → ℕ → List Levels → List Pbu
track_pbus [] q all = []
track_pbus (track ∷ tracks) q [] = []
track_pbus (track ∷ tracks) q (levels ∷ more) = track_pbu track q levels ∷ track_pbus tracks q more

-- metadata, where there are payloads
abbrev pub metadata_pbus : List ℕ → List Payload → List Pbu
metadata_pbus [] payloads = []
metadata_pbus (byte ∷ bytes) payloads =
    let whole : List ℕ = byte ∷ bytes in
    record { kind = METADATA; group = 1; body = be 4 (length whole) ++ whole; payloads = payloads } ∷ []

-- filler, where it is asked for
abbrev pub filler_pbus : Option ℕ → List Pbu
filler_pbus None = []
filler_pbus (Some count) = plain_pbu FILLER (replicate count 255) ∷ []

-- ---- one PBU

pbu-at : (kind : ℕ) (body after : List ℕ) (payloads : List Payload) → kind < 256 → length (pbu_bytes kind 1 body) ≤ MAX_UNIT → IsSoundBody (body_kind_of with_bodies kind) body payloads
    → PbuAt with_bodies (pbu_bytes kind 1 body ++ after) (record { kind = kind; group = 1; body = body; payloads = payloads }) after
pbu-at kind body after payloads low small sound = record { header = pbu-read kind 1 body after (omega (arith, small, pbu-longer kind 1 body)) low (lit< tt); sound = sound }

-- a part of a few bytes
left-small : (xs ys : List ℕ) → length (xs ++ ys) ≤ MAX_UNIT → length xs ≤ MAX_UNIT
left-small xs ys small = omega (arith, small, length-append xs ys)

right-small : (xs ys : List ℕ) → length (xs ++ ys) ≤ MAX_UNIT → length ys ≤ MAX_UNIT
right-small xs ys small = omega (arith, small, length-append xs ys)

-- ---- access unit information

-- the frames of the tracks can be listed
pub are-listable : (tracks : List Track) → AllByRecursion IsFrameTrack tracks → HaveSoundHeaders tracks → AllByRecursion IsListable (map listed_frame tracks)
are-listable [] are sound = tt
are-listable (track ∷ tracks) are sound = (record { kind = are.0.kind.small; group = lit< tt; info = sound.0.info }, are-listable tracks are.1 sound.1)

-- as many frames are listed as there are tracks
pub length-listed : (tracks : List Track) → length (map listed_frame tracks) ≡ length tracks
length-listed tracks = length-map tracks listed_frame

-- access unit information where it is asked for
abbrev pub info_bytes_if : Bool → List Track → List ℕ
info_bytes_if present tracks = if present then au_info_pbu tracks else []

info-row : (present : Bool) (tracks : List Track) (after : List ℕ) → length tracks < 65536 → AllByRecursion IsFrameTrack tracks → HaveSoundHeaders tracks → length (info_bytes_if present tracks) ≤ MAX_UNIT
    → Sequence (PbuAt with_bodies) (info_bytes_if present tracks ++ after) (info_pbus present tracks) after
info-row false tracks after few are sound small = refl
info-row true tracks after few are sound small =
    let listed : List ListedFrame = map listed_frame tracks in
    (after, pbu-at AU_INFO (au_info_body listed) after [] (lit< tt) small (refl, au-info-read listed (omega (arith, few, length-listed tracks)) (are-listable tracks are sound)), refl)

-- ---- frames

-- the frame of a track is read back
pub frame-read : (track : Track) (q : ℕ) (samples : Samples) (levels : Levels) → IsFrameTrack track → IsSoundHeader track.header → AreLevelsOf track.header (track.qps q) samples levels
    → IsDecodedFrame (track_pbu track q levels) (decoded_frame track q levels)
frame-read track q samples levels is sound are =
    let fit : AreLevelsFor track.header levels = levels-fit track.header (track.qps q) samples levels are in
    record {
      kind = refl;
      group = refl;
      frame = spelled-frame (frame_with track.header (track.qps q) levels) (encoded-fits track.header (track.qps q) levels sound (is.permitted q) fit);
      levels = spelled-levels track.header (track.qps q) levels fit;
    }

-- the body of the frame of a track is sound
frame-sound : (track : Track) (body : List ℕ) (frame : CodedFrame) → IsFrameTrack track → HasFrame body frame → IsSoundBody (body_kind_of with_bodies track.kind) body []
frame-sound track body frame is has =
    subst (λ (kind : BodyKind). IsSoundBody kind body []) (sym is.kind.body)
    (refl, (head_values frame, tile_list_values frame, record { left = has.left; after = has.after; walked = has.walked; walked_tiles = has.walked_tiles; filler = has.filler }))

frames-row : (tracks : List Track) (pictures : Pictures) (q : ℕ) (all : List Levels) (after : List ℕ) → AllByRecursion IsFrameTrack tracks → HaveSoundHeaders tracks → AreTheirLevels tracks pictures q all → length (frame_pbus tracks q all) ≤ MAX_UNIT
    → Sequence (PbuAt with_bodies) (frame_pbus tracks q all ++ after) (track_pbus tracks q all) after
frames-row [] pictures q all after are sound levels_are small = refl
frames-row (track ∷ tracks) pictures q [] after are sound levels_are small = absurd levels_are
frames-row (track ∷ tracks) pictures q (levels ∷ more) after are sound levels_are small =
    let body : List ℕ = frame_body (frame_with track.header (track.qps q) levels) in
    let here : List ℕ = frame_pbu track.kind track.header (track.qps q) levels in
    let later : List ℕ = frame_pbus tracks q more in
    let read = frame-read track q (pictures track.slot) levels are.0 sound.0 levels_are.0 in
    let at = pbu-at track.kind body (later ++ after) [] are.0.kind.small (left-small here later small) (frame-sound track body (frame_with track.header (track.qps q) levels) are.0 read.frame) in (
      later ++ after,
      subst (λ (xs : List ℕ). PbuAt with_bodies xs (track_pbu track q levels) (later ++ after)) (sym (append_assoc here later after)) at,
      frames-row tracks pictures q more after are.1 sound.1 levels_are.1 (right-small here later small),
    )

-- ---- metadata and filler

metadata-row : (bytes : List ℕ) (payloads : List Payload) (after : List ℕ) → ArePayloads bytes payloads → length (metadata_pbu bytes) ≤ MAX_UNIT → Sequence (PbuAt with_bodies) (metadata_pbu bytes ++ after) (metadata_pbus bytes payloads) after
metadata-row [] payloads after are small = refl
metadata-row (byte ∷ bytes) payloads after are small =
    let whole : List ℕ = byte ∷ bytes in
    let body : List ℕ = be 4 (length whole) ++ whole in
    let few : length whole < 4294967296 = omega (arith, small, pbu-longer METADATA 1 body, length-append (be 4 (length whole)) whole) in
    (after, pbu-at METADATA body after payloads (lit< tt) small (metadata-read whole payloads are (payloads-long byte bytes payloads are) few), refl)

all-filler : (count : ℕ) → is_filler (replicate count 255) ≡ true
all-filler zero = refl
all-filler (suc count) = all-filler count

filler-row : (count : Option ℕ) → length (filler_pbu count) ≤ MAX_UNIT → Sequence (PbuAt with_bodies) (filler_pbu count) (filler_pbus count) []
filler-row None small = refl
filler-row (Some count) small =
    let body : List ℕ = replicate count 255 in
    ([], subst (λ (xs : List ℕ). PbuAt with_bodies xs (plain_pbu FILLER body) []) (append-nil (pbu_bytes FILLER 1 body)) (pbu-at FILLER body [] [] (lit< tt) small (refl, all-filler count)), refl)

-- ---- all PBUs of a unit

-- access unit information, frames, metadata and filler
abbrev pub unit_pbus : Bool → Option ℕ → List Track → ℕ → List Levels → List ℕ → List Payload → List Pbu
unit_pbus present filler tracks q all bytes payloads = info_pbus present tracks ++ (track_pbus tracks q all ++ (metadata_pbus bytes payloads ++ filler_pbus filler))

-- their bytes
abbrev pub unit_bytes : Bool → Option ℕ → List Track → ℕ → List Levels → List ℕ → List ℕ
unit_bytes present filler tracks q all bytes = info_bytes_if present tracks ++ (frame_pbus tracks q all ++ (metadata_pbu bytes ++ filler_pbu filler))

-- the PBUs are read back
pub unit-row : (present : Bool) (filler : Option ℕ) (tracks : List Track) (pictures : Pictures) (q : ℕ) (all : List Levels) (bytes : List ℕ) (payloads : List Payload) → length tracks < 65536 → AllByRecursion IsFrameTrack tracks → HaveSoundHeaders tracks
    → AreTheirLevels tracks pictures q all → ArePayloads bytes payloads → length (unit_bytes present filler tracks q all bytes) ≤ MAX_UNIT
    → Sequence (PbuAt with_bodies) (unit_bytes present filler tracks q all bytes) (unit_pbus present filler tracks q all bytes payloads) []
unit-row present filler tracks pictures q all bytes payloads few are sound levels_are payloads_are small =
    let info : List ℕ = info_bytes_if present tracks in
    let frames : List ℕ = frame_pbus tracks q all in
    let metadata : List ℕ = metadata_pbu bytes in
    let last : List ℕ = filler_pbu filler in
    let after_info = right-small info (frames ++ (metadata ++ last)) small in
    let after_frames = right-small frames (metadata ++ last) after_info in
    let one = info-row present tracks (frames ++ (metadata ++ last)) few are sound (left-small info (frames ++ (metadata ++ last)) small) in
    let two = frames-row tracks pictures q all (metadata ++ last) are sound levels_are (left-small frames (metadata ++ last) after_info) in
    let three = metadata-row bytes payloads last payloads_are (left-small metadata last after_frames) in
    let four = filler-row filler (right-small metadata last after_frames) in
    let row = sequence-append (PbuAt with_bodies) (metadata ++ last) last [] (metadata_pbus bytes payloads) (filler_pbus filler) three four in
    let rows = sequence-append (PbuAt with_bodies) (frames ++ (metadata ++ last)) (metadata ++ last) [] (track_pbus tracks q all) (metadata_pbus bytes payloads ++ filler_pbus filler) two row in
    sequence-append (PbuAt with_bodies) (info ++ (frames ++ (metadata ++ last))) (frames ++ (metadata ++ last)) [] (info_pbus present tracks) (track_pbus tracks q all ++ (metadata_pbus bytes payloads ++ filler_pbus filler)) one rows
