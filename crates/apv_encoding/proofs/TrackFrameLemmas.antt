-- The tracks of an encoder: pbu_type of each is that of a frame, the first alone is the primary one, and their QPs are
-- permitted.
use Rattle.std.proofs.Common.{◌≡◌, ℕ, ℤ, ◌<◌, ◌≤◌, List, ◌++◌, length, refl, arith, lit<, Option, Some, None, Bool, true, false, ◌||◌, nat_eq, length-append}
use Rattle.std.specs.List.{AllByRecursion}
use Rattle.apv_base.specs.declared.format.Format.{Format}
use Rattle.apv_base.specs.declared.slot.Slot.TheVariants.{Depth, Alpha}
use Rattle.apv_base.specs.model.Body.{frame, body_kind_of, with_bodies}
use Rattle.apv_base.specs.model.Pbu.{AU_INFO, is_frame}
use Rattle.apv_base.proofs.HeaderPartsLemmas.{all-append}
use Rattle.apv_laws.specs.Fits.{ArePermittedQps}
use Rattle.apv_encoding.specs.Settings.{EncoderSettings, Track, primary_track, preview_track, grey_track, offset_of, preview_tracks, where_asked, tracks_of}
use Rattle.apv_encoding.proofs.DecodedLevelsLemmas.{primary-permitted, plain-permitted}

-- the pbu_type of a frame
pub record IsFrameKind (kind : ℕ) : Type 0 where
  pub small : kind < 256
  pub is : is_frame kind ≡ true
  pub body : body_kind_of with_bodies kind ≡ frame
  pub not_info : nat_eq kind AU_INFO ≡ false

-- each QP of the track is permitted, and pbu_type is that of a frame
pub record IsFrameTrack (track : Track) : Type 0 where
  pub kind : IsFrameKind track.kind
  pub permitted : (q : ℕ) → ArePermittedQps track.header (track.qps q)

-- a track of frames that are neither primary nor non-primary
abbrev pub IsFurtherTrack : Track → Type 0
IsFurtherTrack track = (nat_eq track.kind 1 || nat_eq track.kind 2) ≡ false

-- the tracks after the first
abbrev pub further_tracks : EncoderSettings → Format → List Track
further_tracks settings format =
    preview_tracks settings settings.preview ++ where_asked settings.depth (grey_track settings format Depth 26) ++ where_asked settings.alpha (grey_track settings format Alpha 27)

all-asked : (P : Track → Type 0) (asked : Bool) (track : Track) → P track → AllByRecursion P (where_asked asked track)
all-asked P true track p = (p, tt)
all-asked P false track p = tt

all-preview : (P : Track → Type 0) (settings : EncoderSettings) (preview : Option (ℕ × ℕ)) → ((size : ℕ × ℕ) → P (preview_track settings size)) → AllByRecursion P (preview_tracks settings preview)
all-preview P settings None p = tt
all-preview P settings (Some size) p = (p size, tt)

all-further : (P : Track → Type 0) (settings : EncoderSettings) (format : Format) → ((size : ℕ × ℕ) → P (preview_track settings size)) → P (grey_track settings format Depth 26) → P (grey_track settings format Alpha 27) → AllByRecursion P (further_tracks settings format)
all-further P settings format preview depth alpha =
    let first : List Track = preview_tracks settings settings.preview in
    let second : List Track = where_asked settings.depth (grey_track settings format Depth 26) in
    let third : List Track = where_asked settings.alpha (grey_track settings format Alpha 27) in
    all-append P (first ++ second) third (all-append P first second (all-preview P settings settings.preview preview) (all-asked P settings.depth (grey_track settings format Depth 26) depth)) (all-asked P settings.alpha (grey_track settings format Alpha 27) alpha)

-- no track after the first is that of primary frames
pub are-further : (settings : EncoderSettings) (format : Format) → AllByRecursion IsFurtherTrack (further_tracks settings format)
are-further settings format = all-further IsFurtherTrack settings format (λ size. refl) refl refl

-- the tracks have frames
pub are-frame-tracks : (settings : EncoderSettings) (format : Format) (tile_offset : ℕ → ℤ) → AllByRecursion IsFrameTrack (tracks_of settings format tile_offset)
are-frame-tracks settings format tile_offset =
    let primary : Track = primary_track settings format tile_offset in
    let depth : Track = grey_track settings format Depth 26 in
    let alpha : Track = grey_track settings format Alpha 27 in
    let first : IsFrameTrack primary = record {
      kind = record { small = lit< tt; is = refl; body = refl; not_info = refl };
      permitted = λ q. primary-permitted primary.header (offset_of settings) tile_offset q;
    } in
    let further = all-further IsFrameTrack settings format (λ size. record {
      kind = record { small = lit< tt; is = refl; body = refl; not_info = refl };
      permitted = λ q. plain-permitted (preview_track settings size).header q;
    })
    (record { kind = record { small = lit< tt; is = refl; body = refl; not_info = refl }; permitted = λ q. plain-permitted depth.header q })
    (record { kind = record { small = lit< tt; is = refl; body = refl; not_info = refl }; permitted = λ q. plain-permitted alpha.header q }) in
    (first, further)

-- ---- how many there are

few-asked : (asked : Bool) (track : Track) → length (where_asked asked track) ≤ 1
few-asked true track = omega arith
few-asked false track = omega arith

few-previews : (settings : EncoderSettings) (preview : Option (ℕ × ℕ)) → length (preview_tracks settings preview) ≤ 1
few-previews settings None = omega arith
few-previews settings (Some size) = omega arith

-- there are four tracks at most
pub few-tracks : (settings : EncoderSettings) (format : Format) (tile_offset : ℕ → ℤ) → length (tracks_of settings format tile_offset) ≤ 4
few-tracks settings format tile_offset =
    let first : List Track = preview_tracks settings settings.preview in
    let second : List Track = where_asked settings.depth (grey_track settings format Depth 26) in
    let third : List Track = where_asked settings.alpha (grey_track settings format Alpha 27) in
    omega (arith, few-previews settings settings.preview, few-asked settings.depth (grey_track settings format Depth 26), few-asked settings.alpha (grey_track settings format Alpha 27), length-append (first ++ second) third, length-append first second)
