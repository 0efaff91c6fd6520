-- The steps of reading the next frame of a run.
use Rattle.std.specs.Prelude.{◌≡◌, ℕ, Bool, true, List, [], ◌∷◌, ◌++◌, Contains, Result, Ok}
use Rattle.std.specs.Io.KnownBytes.{IsAtEnd}
use Rattle.apv_base.specs.declared.exits.Exit.{Exit}
use Rattle.apv_base.specs.declared.exits.Exit.TheVariants as exits
use Rattle.apv_base.specs.declared.exits.VideoRule.TheVariants.{Extra}
use Rattle.apv_base.specs.declared.slot.Slot.{Slot}
use Rattle.apv_base.specs.model.Format.{IsSoundFormat}
use Rattle.apv_base.specs.model.Output.{is_y4m}
use Rattle.apv_base.specs.model.Picture.{Samples}
use Rattle.apv_encoding.specs.Tracks.{form_of}
use Rattle.apv_files.specs.Loops.{ReadsFailed, TookAll}
use Rattle.apv_files.specs.SlotView.{OnlyAt, SlotView}
use Rattle.apv_grid.specs.Buffer.{Buffer}
use Rattle.apv_video.specs.ReadFrame.{ReadsFrame}
use Rattle.apv_video.specs.declared.end.VideoEnd.{VideoEnd}
use Rattle.apv_video.specs.declared.end.VideoEnd.TheVariants.{Bad, Limit, Read, Memory}
use Rattle.apv_video.specs.declared.open.Shape.{Shape}
use Rattle.apv_words.specs.declared.encoder.EncSettings.{EncSettings}
use Rattle.apv_workers.specs.Encode.{IsPaddedFrom}
use Rattle.apv_tracks.specs.declared.kinds.TrackKind.{TrackKind}
use Rattle.apv_tracks.specs.Plain.{plain_settings}

-- ---- one picture

-- the pictures of the slot are in a Y4M file
abbrev pub is_y4m_slot : EncSettings → Slot → Bool
is_y4m_slot settings slot = is_y4m (form_of (plain_settings settings).source slot)

-- what the pictures of a frame are
abbrev pub shape_of : Buffer ℕ → Bool → Shape
shape_of frame y4m = record { format = frame.grid.format; y4m = y4m }

-- the next picture of a slot was read into a frame, which is padded
pub record ReadsPicture (slot : Slot) (y4m : Bool) (number : ℕ) (old : SlotView) (result : Result Bool VideoEnd)
    (frame : Buffer ℕ) (new : SlotView) : Type 0 where
  pub samples : Samples
  pub sound : IsSoundFormat frame.grid.format
  pub read : ReadsFrame slot (shape_of frame y4m) number old result samples new
  pub padded : result ≡ Ok true → IsPaddedFrom frame.grid samples frame.values

-- the answer where no picture was read
abbrev pub video_end_exit : VideoEnd → Exit
video_end_exit (Bad break) = exits.BadVideo break
video_end_exit (Limit limit count) = exits.LimitMet limit count
video_end_exit (Read slot) = exits.ReadFailed slot
video_end_exit Memory = exits.Memory

-- ---- the other slots, where Input has ended

-- a slot has a byte, which was taken, and those before it have ended
pub record GoesOn (kinds : List TrackKind) (kind : TrackKind) (old new : Slot → SlotView) : Type 0 where
  pub before : List TrackKind
  pub later : List TrackKind
  pub parts : kinds ≡ before ++ kind ∷ later
  pub ended : (other : TrackKind) → Contains before other → IsAtEnd (old other.slot).left
  pub byte : ℕ
  pub took : TookAll (old kind.slot) (byte ∷ []) (new kind.slot)
  pub elsewhere : OnlyAt kind.slot old new

-- all slots have ended, and none changed
pub record HaveEnded (kinds : List TrackKind) (old new : Slot → SlotView) : Type 0 where
  pub ended : (kind : TrackKind) → Contains kinds kind → IsAtEnd (old kind.slot).left
  pub same : (slot : Slot) → new slot ≡ old slot

-- a read of a slot failed
pub record IsUnreadAt (kinds : List TrackKind) (kind : TrackKind) (old new : Slot → SlotView) : Type 0 where
  pub among : Contains kinds kind
  pub failed : ReadsFailed (old kind.slot) 1 (new kind.slot)
  pub elsewhere : OnlyAt kind.slot old new

-- memory ran out
pub record LacksMemoryAt (kinds : List TrackKind) (kind : TrackKind) (old new : Slot → SlotView) : Type 0 where
  pub among : Contains kinds kind
  pub taken : List ℕ
  pub took : TookAll (old kind.slot) taken (new kind.slot)
  pub elsewhere : OnlyAt kind.slot old new

-- whether the slots of these tracks have ended too, at a frame
pub data FurtherEnd (kinds : List TrackKind) (number : ℕ) (old new : Slot → SlotView) : Exit → Type 0 where
  have_ended : HaveEnded kinds old new → FurtherEnd kinds number old new exits.Done
  goes_on : (kind : TrackKind) → GoesOn kinds kind old new
      → FurtherEnd kinds number old new
      (exits.BadVideo (record { slot = kind.slot; rule = Extra; frame = number }))
  is_unread : (kind : TrackKind) → IsUnreadAt kinds kind old new
      → FurtherEnd kinds number old new (exits.ReadFailed kind.slot)
  lacks_memory : (kind : TrackKind) → LacksMemoryAt kinds kind old new
      → FurtherEnd kinds number old new exits.Memory
