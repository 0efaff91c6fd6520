-- Frames of the tracks of a run, their access units, and what the outputs hold of them and of one more.
use Rattle.std.proofs.Common.{◌≡◌, ℕ, zero, suc, ◌+◌, ◌<◌, ◌≤◌, List, [], ◌∷◌, ◌++◌, length, map, refl, sym, ap, ap₂, ◌∙◌, subst, arith, Bool, true, false, append_assoc, append-nil, length-append}
use Rattle.std.specs.Prelude.{slice_index_or, if◌then◌else◌}
use Rattle.std.specs.List.{flat_map, range_with_len}
use Rattle.std.proofs.lemmas.Grind.{flat_map-append}
use Rattle.apv_base.specs.declared.format.Format.{Format}
use Rattle.apv_base.specs.declared.header.FrameHeader.{FrameHeader}
use Rattle.apv_base.specs.declared.options.Form.{Form}
use Rattle.apv_base.specs.declared.options.Form.TheVariants.{Planar, Y4m}
use Rattle.apv_base.specs.declared.slot.Slot.{Slot}
use Rattle.apv_base.specs.declared.slot.Slot.TheVariants.{Input}
use Rattle.apv_base.specs.model.CodedFrame.{CodedFrame, Levels}
use Rattle.apv_base.specs.model.Encode.{Qps, each, tile_with, frame_with}
use Rattle.apv_base.specs.model.Grid.{tile_count}
use Rattle.apv_base.specs.model.Header.{grid_of, header_comps}
use Rattle.apv_base.specs.model.Picture.{Samples, frame_picture, picture}
use Rattle.apv_base.specs.model.Run.{sized}
use Rattle.apv_base.specs.model.Tile.{Tile}
use Rattle.apv_base.specs.model.Video.{FrameLineAt, planar, named, spaced, PictureAt}
use Rattle.apv_video.specs.ReadFrame.{form_of as shape_form, IsWithinPicture}
use Rattle.apv_video.specs.declared.open.Shape.{Shape}
use Rattle.apv_words.specs.declared.encoder.EncSettings.{EncSettings}
use Rattle.apv_workers.specs.Track.{TrackState, frame_of, levels_of}
use Rattle.apv_encoding.specs.AccessUnit.{Pictures, EncodedUnit}
use Rattle.apv_encoding.specs.Answer.{Inputs, IsEncoded, AreEncoded, enc_out, recon_out, reconstruction, tile_offsets, tracks_for}
use Rattle.apv_encoding.specs.Settings.{EncoderSettings, Source, Track, primary_track}
use Rattle.apv_encoding.specs.Tracks.{Contents, form_of, FrameAt, FramesAt}
use Rattle.apv_encoding.proofs.PictureLemmas.{length-picture, one-start}
use Rattle.apv_encoding.proofs.TracksLemmas.{frame-along}
use Rattle.apv_tracks.specs.Format.{input_shape}
use Rattle.apv_tracks.specs.Pictures.{AreJoined, AtTracks}
use Rattle.apv_tracks.specs.Plain.{given_format, source_by, plain_settings}
use Rattle.apv_tracks.specs.States.{AreStatesOf, kept_qps}
use Rattle.apv_enc.specs.Coding.{unit_of_states}
use Rattle.apv_enc.specs.Frames.{AreFrameBytes}

-- ---- the first track

-- what holds at the slots of the tracks holds at Input
pub at-input : (e : EncoderSettings) (inputs : Inputs) (format : Format) (P : Slot → Type 0) → AtTracks (tracks_for e inputs format) P → P Input
at-input e inputs format P all = all (primary_track e format (tile_offsets inputs.offsets)) (0, omega arith, refl)

form-same : (form : Form) (given format : Format) → shape_form (input_shape form format) ≡ form_of (source_by form given) Input
form-same Planar given format = refl
form-same Y4m given format = refl

-- the form of the source is that of the shape
pub form-is : (s : EncSettings) (format : Format) → shape_form (input_shape s.form format) ≡ form_of (source_by s.form (given_format s)) Input
form-is s format = form-same s.form (given_format s) format

-- ---- frames

frames-push : (source : Source) (tracks : List Track) (left mid after : Contents) (frames : List Pictures) (pictures : Pictures) → FramesAt source tracks left frames mid → FrameAt source tracks mid pictures after → FramesAt source tracks left (frames ++ pictures ∷ []) after
frames-push source tracks left mid after [] pictures at frame = (after, frame-along source tracks mid left pictures after (λ track in-them. sym (at track in-them)) frame, λ track in-them. refl)
frames-push source tracks left mid after (p ∷ frames) pictures at frame = (at.0, at.1, frames-push source tracks at.0 mid after frames pictures at.2 frame)

-- what was taken of the slots is a frame, whatever follows
abbrev pub IsTakenFrame : EncoderSettings → Inputs → Format → Pictures → Contents → Type 0
IsTakenFrame e inputs format pictures taken =
    (left after : Contents) → AreJoined (tracks_for e inputs format) left taken after → FrameAt e.source (tracks_for e inputs format) left pictures after

pub bytes-none : (e : EncoderSettings) (inputs : Inputs) (format : Format) → AreFrameBytes e inputs format [] (λ slot. [])
bytes-none e inputs format left after joined = joined

-- one more frame
pub bytes-push : (e : EncoderSettings) (inputs : Inputs) (format : Format) (frames : List Pictures) (bytes taken : Contents) (pictures : Pictures) → AreFrameBytes e inputs format frames bytes → IsTakenFrame e inputs format pictures taken
    → AreFrameBytes e inputs format (frames ++ pictures ∷ []) (λ slot. bytes slot ++ taken slot)
bytes-push e inputs format frames bytes taken pictures all frame left after joined =
    let mid : Contents = λ slot. taken slot ++ after slot in
    frames-push e.source (tracks_for e inputs format) left mid after frames pictures
    (all left mid (λ track in-them. joined track in-them ∙ append_assoc (bytes track.slot) (taken track.slot) (after track.slot))) (frame mid after (λ track in-them. refl))

-- ---- within a picture of Input

start-short : (xs : List ℕ) (form : Form) (start : List ℕ) → FrameLineAt xs form start → length start ≤ length xs
start-short xs Planar start planar = omega arith
start-short xs Y4m start (named line after at e) = omega (arith, ap (length {A = ℕ}) at.bytes, length-append line (10 ∷ start))
start-short xs Y4m start (spaced line after more at e) = omega (arith, ap (length {A = ℕ}) at.bytes, length-append line (10 ∷ start))

-- nothing is within a picture
pub within-none : (shape : Shape) → IsWithinPicture shape []
within-none shape more start at long = omega (arith, start-short more (shape_form shape) start at)

within-whole : (shape : Shape) (taken : List ℕ) (samples : Samples) → ((more : List ℕ) → PictureAt shape.format (shape_form shape) (taken ++ more) samples more) → IsWithinPicture shape taken
within-whole shape taken samples picture_at more start at long =
    let p = picture_at more in
    let one : start ≡ p.start = one-start (taken ++ more) (shape_form shape) start p.start at p.prefix in
    omega (arith, ap (length {A = ℕ}) one, ap (length {A = ℕ}) p.bytes, length-append (picture shape.format samples) more, length-picture shape.format samples)

-- a whole picture is
pub within-frame : (s : EncSettings) (inputs : Inputs) (format : Format) (pictures : Pictures) (taken : Contents) → IsTakenFrame (plain_settings s) inputs format pictures taken → IsWithinPicture (input_shape s.form format) (taken Input)
within-frame s inputs format pictures taken frame =
    let e : EncoderSettings = plain_settings s in
    let primary : Track = primary_track e format (tile_offsets inputs.offsets) in
    within-whole (input_shape s.form format) (taken Input) (pictures Input) (λ more.
    subst (λ (form : Form). PictureAt format form (taken Input ++ more) (pictures Input) more) (sym (form-is s format))
    (frame (λ slot. taken slot ++ more) (λ slot. more) (λ track in-them. refl) primary (0, omega arith, refl)))

-- ---- access units

pub encoded-push : (settings : EncoderSettings) (inputs : Inputs) (format : Format) (frames : List Pictures) (units : List EncodedUnit) (pictures : Pictures) (unit : EncodedUnit) → AreEncoded settings inputs format frames units → IsEncoded settings inputs format pictures unit
    → AreEncoded settings inputs format (frames ++ pictures ∷ []) (units ++ unit ∷ [])
encoded-push settings inputs format [] units pictures unit e is = subst (λ (us : List EncodedUnit). AreEncoded settings inputs format (pictures ∷ []) (us ++ unit ∷ [])) (sym e) (is, refl)
encoded-push settings inputs format (p ∷ frames) [] pictures unit e is = absurd e
encoded-push settings inputs format (p ∷ frames) (u ∷ units) pictures unit e is = (e.0, encoded-push settings inputs format frames units pictures unit e.1 is)

-- ---- the outputs

none-of-both : {A : Type 0} (b : Bool) (f : A → List ℕ) → (if b then flat_map f [] else []) ≡ []
none-of-both true f = refl
none-of-both false f = refl

push-of-both : {A : Type 0} (b : Bool) (f : A → List ℕ) (xs : List A) (x : A) → (if b then flat_map f (xs ++ x ∷ []) else []) ≡ (if b then flat_map f xs else []) ++ (if b then f x else [])
push-of-both {A} true f xs x = flat_map-append f xs (x ∷ []) ∙ ap (λ (l : List ℕ). flat_map f xs ++ l) (append-nil (f x))
push-of-both {A} false f xs x = refl

pub is-wanted : (b : Bool) (bytes : List ℕ) (count : ℕ) → count < length (if b then bytes else []) → b ≡ true
is-wanted true bytes count lt = refl
is-wanted false bytes count lt = absurd (omega (arith, lt))

pub out-none : (settings : EncoderSettings) → enc_out settings [] ≡ []
out-none settings = none-of-both settings.output (λ (unit : EncodedUnit). sized unit.bytes)

-- what Output has of one unit
abbrev pub one_out : EncoderSettings → EncodedUnit → List ℕ
one_out settings unit = if settings.output then sized unit.bytes else []

pub out-push : (settings : EncoderSettings) (units : List EncodedUnit) (unit : EncodedUnit) → enc_out settings (units ++ unit ∷ []) ≡ enc_out settings units ++ one_out settings unit
out-push settings units unit = push-of-both settings.output (λ (unit : EncodedUnit). sized unit.bytes) units unit

pub recon-none : (settings : EncoderSettings) (inputs : Inputs) (format : Format) → recon_out settings inputs format [] ≡ []
recon-none settings inputs format =
    let primary : Track = primary_track settings format (tile_offsets inputs.offsets) in
    none-of-both settings.recon (reconstruction primary.header primary.qps)

-- what Recon has of one unit
abbrev pub one_recon : EncoderSettings → Inputs → Format → EncodedUnit → List ℕ
one_recon settings inputs format unit =
    let primary = primary_track settings format (tile_offsets inputs.offsets) in
    if settings.recon then reconstruction primary.header primary.qps unit else []

pub recon-push : (settings : EncoderSettings) (inputs : Inputs) (format : Format) (units : List EncodedUnit) (unit : EncodedUnit) → recon_out settings inputs format (units ++ unit ∷ []) ≡ recon_out settings inputs format units ++ one_recon settings inputs format unit
recon-push settings inputs format units unit =
    let primary : Track = primary_track settings format (tile_offsets inputs.offsets) in
    push-of-both settings.recon (reconstruction primary.header primary.qps) units unit

-- ---- one frame by the QPs of its tiles

range-alike : {A : Type 0} (f g : ℕ → A) (a n : ℕ) → ((i : ℕ) → a ≤ i → i < a + n → f i ≡ g i) → map f (range_with_len a n) ≡ map g (range_with_len a n)
range-alike f g a zero same = refl
range-alike {A} f g a (suc n) same = ap₂ (λ (x : A) (xs : List A). x ∷ xs) (same a (omega arith) (omega arith)) (range-alike f g (a + 1) n (λ i from to. same i (omega arith) (omega arith)))

pub each-alike : {A : Type 0} (n : ℕ) (f g : ℕ → A) → ((i : ℕ) → i < n → f i ≡ g i) → each n f ≡ each n g
each-alike n f g same = range-alike f g 0 n (λ i from to. same i (omega arith))

tile-alike : (comps : ℕ) (p q : Qps) (levels : Levels) (tile : ℕ) → ((comp : ℕ) → comp < comps → p tile comp ≡ q tile comp) → tile_with comps p levels tile ≡ tile_with comps q levels tile
tile-alike comps p q levels tile same = ap (λ (qps : List ℕ). record (tile_with comps p levels tile) { qps = qps }) (each-alike comps (p tile) (q tile) same)

-- QPs that are the same at the tiles that exist make one frame
pub frame-alike : (header : FrameHeader) (p q : Qps) (levels : Levels) → ((tile comp : ℕ) → tile < tile_count (grid_of header) → comp < header_comps header → p tile comp ≡ q tile comp) → frame_with header p levels ≡ frame_with header q levels
frame-alike header p q levels same =
    ap (λ (tiles : List Tile). record { header = header; tiles = tiles })
    (each-alike (tile_count (grid_of header)) (tile_with (header_comps header) p levels) (tile_with (header_comps header) q levels) (λ tile lt. tile-alike (header_comps header) p q levels tile (λ comp known. same tile comp lt known)))

-- the picture of the levels of the first track is the reconstruction of their unit
pub reconstruction-is : (e : EncoderSettings) (inputs : Inputs) (format : Format) (states : List TrackState) (q : ℕ) (bytes : List ℕ) (other : TrackState) → AreStatesOf (tracks_for e inputs format) states → (slice_index_or states 0 other).q ≡ q
    → (let primary = primary_track e format (tile_offsets inputs.offsets) in let first = slice_index_or states 0 other in frame_picture (frame_of first) (levels_of first) ≡ reconstruction primary.header primary.qps (unit_of_states q states bytes))
reconstruction-is e inputs format [] q bytes other are at = absurd are
reconstruction-is e inputs format (first ∷ more) q bytes other are at =
    let primary : Track = primary_track e format (tile_offsets inputs.offsets) in
    let levels : Levels = levels_of first in
    ap (λ (header : FrameHeader). frame_picture (frame_with header (kept_qps first first.q) levels) levels) are.0.header
    ∙ ap (λ (frame : CodedFrame). frame_picture frame levels) (frame-alike primary.header (kept_qps first first.q) (primary.qps first.q) levels (λ tile comp lt known. are.0.qps first.q tile comp lt known))
    ∙ ap (λ (n : ℕ). frame_picture (frame_with primary.header (primary.qps n) levels) levels) at
