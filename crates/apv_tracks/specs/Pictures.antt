-- The next frame of a run: a picture of each track, read in turn.
use Rattle.std.specs.Prelude.{◌≡◌, ℕ, ◌<◌, List, [], ◌∷◌, ◌++◌, Contains, ◌⊎◌}
use Rattle.std.specs.Io.KnownBytes.{IsAtEnd, prepend_known}
use Rattle.apv_base.specs.declared.exits.Exit.{Exit}
use Rattle.apv_base.specs.declared.exits.Exit.TheVariants as exits
use Rattle.apv_base.specs.declared.slot.Slot.{Slot}
use Rattle.apv_base.specs.declared.slot.Slot.TheVariants.{Input}
use Rattle.apv_base.specs.model.Run.{MAX_UNITS}
use Rattle.apv_files.specs.SlotView.{SlotView}
use Rattle.apv_files.specs.Loops.{TookAll}
use Rattle.apv_run.specs.Known.{IsKnownAs}
use Rattle.apv_run.specs.Slots.{IsReadFault, OnlyLeftChanged}
use Rattle.apv_video.specs.ReadFrame.{IsWithinPicture}
use Rattle.apv_video.specs.declared.open.Shape.{Shape}
use Rattle.apv_workers.specs.Track.{TrackState}
use Rattle.apv_encoding.specs.AccessUnit.{Pictures}
use Rattle.apv_encoding.specs.Settings.{Source, Track}
use Rattle.apv_encoding.specs.Tracks.{Contents, FrameAt, FramesStop}
use Rattle.apv_tracks.specs.States.{HavePictures}

-- it is true of the slot of each track
abbrev pub AtTracks : List Track → (Slot → Type 0) → Type 0
AtTracks tracks claim = (track : Track) → Contains tracks track → claim track.slot

-- these are joined, in the slot of each track: bytes, and what is left after them
abbrev pub AreJoined : List Track → Contents → Contents → Contents → Type 0
AreJoined tracks whole bytes after = AtTracks tracks (λ slot. whole slot ≡ bytes slot ++ after slot)

-- what is known to be left of the slot of each track is these contents
abbrev pub AreKnownLeft : List Track → (Slot → SlotView) → Contents → Type 0
AreKnownLeft tracks views left = AtTracks tracks (λ slot. IsKnownAs (views slot).left (left slot))

-- of the slot of each track only what is left changed
abbrev pub AreRead : List Track → (Slot → SlotView) → (Slot → SlotView) → Type 0
AreRead tracks old new = AtTracks tracks (λ slot. OnlyLeftChanged (old slot) (new slot))

-- a picture of each track was taken, whatever follows, and the frames of the tracks are these pictures, padded
pub record TookPictures (source : Source) (tracks : List Track) (n : ℕ) (old : Slot → SlotView)
    (states : List TrackState) (new : Slot → SlotView) : Type 0 where
  pub taken : Contents
  pub pictures : Pictures
  pub took : AtTracks tracks (λ slot. TookAll (old slot) (taken slot) (new slot))
  pub few : n < MAX_UNITS
  pub frame_at : (left after : Contents) → AreJoined tracks left taken after → FrameAt source tracks left pictures after
  pub have : HavePictures tracks pictures states

-- bytes were taken from Input, and none after its next picture
pub record IsWithinFrame (shape : Shape) (old new : SlotView) : Type 0 where
  pub taken : List ℕ
  pub within : IsWithinPicture shape taken
  pub took : old.left ≡ prepend_known taken new.left

-- Where this is left of the slots, no further frame follows n frames, whatever is left of slots without a track. After
-- the end of all tracks nothing is left.
pub record PicturesStop (source : Source) (tracks : List Track) (n : ℕ) (old : Slot → SlotView) (exit : Exit)
    (new : Slot → SlotView) : Type 0 where
  pub left : Contents
  pub told : AreKnownLeft tracks old left
  pub stops : (all : Contents) → AreJoined tracks all left (λ slot. []) → FramesStop source tracks n all exit
  pub read : AreRead tracks old new
  pub end : exit ≡ exits.Done → AtTracks tracks (λ slot. IsAtEnd (new slot).left)

-- a read of the slot of a track failed
pub record PicturesFail (tracks : List Track) (track : Track) (old new : Slot → SlotView) : Type 0 where
  pub among : Contains tracks track
  pub fault : IsReadFault (old track.slot) (new track.slot)
  pub others : AtTracks tracks (λ slot. (slot ≡ track.slot) ⊎ OnlyLeftChanged (old slot) (new slot))

-- why the next frame wasn't read: memory ran out, a read failed, or no frame follows
pub data PicturesEnd (source : Source) (tracks : List Track) (n : ℕ) (old new : Slot → SlotView) : Exit → Type 0 where
  by_memory : AreRead tracks old new → PicturesEnd source tracks n old new exits.Memory
  by_fault : (track : Track) → PicturesFail tracks track old new
      → PicturesEnd source tracks n old new (exits.ReadFailed track.slot)
  by_stop : (exit : Exit) → PicturesStop source tracks n old exit new → PicturesEnd source tracks n old new exit
