-- The frames that an encoder takes from its slots: one picture of each track in turn, and what ends them.
use Rattle.std.specs.Prelude.{◌≡◌, ◌≢◌, ℕ, ◌<◌, List, [], ◌∷◌, ◌++◌, Contains}
use Rattle.apv_base.specs.declared.exits.Exit.{Exit}
use Rattle.apv_base.specs.declared.exits.Exit.TheVariants.{Done, BadVideo, LimitMet}
use Rattle.apv_base.specs.declared.exits.VideoRule.TheVariants.{Missing, Extra}
use Rattle.apv_base.specs.declared.options.Form.{Form}
use Rattle.apv_base.specs.declared.options.Form.TheVariants.{Planar, Y4m}
use Rattle.apv_base.specs.declared.slot.Slot.{Slot}
use Rattle.apv_base.specs.declared.slot.Slot.TheVariants.{Input}
use Rattle.apv_base.specs.model.Header.{format_of}
use Rattle.apv_base.specs.model.Picture.{Samples}
use Rattle.apv_base.specs.model.Run.{MAX_UNITS}
use Rattle.apv_base.specs.model.Video.{VideoFault, bad, over, PictureAt, PictureBreaks}
use Rattle.apv_encoding.specs.AccessUnit.{Pictures}
use Rattle.apv_encoding.specs.Settings.{Source, y4m, Track}

-- what is left of each slot
abbrev pub Contents : Type 0
Contents = Slot → List ℕ

-- all slots but Input are planar
abbrev pub form_of : Source → Slot → Form
form_of y4m Input = Y4m
form_of source slot = Planar

-- the exit for a picture that isn't taken from a slot, at a frame
abbrev pub video_exit : Slot → ℕ → VideoFault → Exit
video_exit slot frame (bad rule) = BadVideo (record { slot = slot; rule = rule; frame = frame })
video_exit slot frame (over limit count) = LimitMet limit count

-- ---- frames

-- a picture of the track is at the start of what is left of its slot
abbrev pub TrackPictureAt : Source → Track → Contents → Samples → Contents → Type 0
TrackPictureAt source track left samples after =
    PictureAt (format_of track.header.info) (form_of source track.slot) (left track.slot) samples (after track.slot)

-- a picture of each track is there
abbrev pub FrameAt : Source → List Track → Contents → Pictures → Contents → Type 0
FrameAt source tracks left pictures after =
    (track : Track) → Contains tracks track → TrackPictureAt source track left (pictures track.slot) after

-- frames one after another
abbrev pub FramesAt : Source → List Track → Contents → List Pictures → Contents → Type 0
FramesAt source tracks left [] after = (track : Track) → Contains tracks track → left track.slot ≡ after track.slot
FramesAt source tracks left (pictures ∷ more) after =
    (mid : Contents) × FrameAt source tracks left pictures mid × FramesAt source tracks mid more after

-- the track at its place among the tracks, of which those before it pass
pub record IsTurnOf (tracks : List Track) (track : Track) (Passes : Track → Type 0) : Type 0 where
  pub before : List Track
  pub later : List Track
  pub parts : tracks ≡ before ++ track ∷ later
  pub each : (other : Track) → Contains before other → Passes other

-- a whole picture of the track, with its samples in range, is next
abbrev pub HasPicture : Source → Contents → Track → Type 0
HasPicture source left track = (samples : Samples) × (after : Contents) × TrackPictureAt source track left samples after

-- Why no further frame follows n frames. The slots have their turns in the order of the tracks. Where Input has ended,
-- each other slot must have ended; else each must have a whole picture.
pub data FramesStop (source : Source) (tracks : List Track) (n : ℕ) (left : Contents) : Exit → Type 0 where
  ended : ((track : Track) → Contains tracks track → left track.slot ≡ []) → FramesStop source tracks n left Done
  extra : (track : Track) → left Input ≡ [] → IsTurnOf tracks track (λ other. left other.slot ≡ [])
      → left track.slot ≢ []
      → FramesStop source tracks n left (BadVideo (record { slot = track.slot; rule = Extra; frame = n }))
  missing : (track : Track) → left Input ≢ [] → n < MAX_UNITS → IsTurnOf tracks track (HasPicture source left)
      → left track.slot ≡ []
      → FramesStop source tracks n left (BadVideo (record { slot = track.slot; rule = Missing; frame = n }))
  no_picture : (track : Track) (fault : VideoFault) → left Input ≢ [] → IsTurnOf tracks track (HasPicture source left)
      → PictureBreaks (format_of track.header.info) (form_of source track.slot) n (left track.slot) fault
      → FramesStop source tracks n left (video_exit track.slot n fault)
