-- What a call that reads a picture takes and returns.
use Rattle.std.specs.Prelude.{◌≡◌, ℕ, ◌+◌, ◌<◌, ◌≤◌, Bool, true, false, List, [], ◌∷◌, ◌++◌, length}
use Rattle.std.specs.Prelude.{Option, Some, None, Result, Ok, Err, ◌⊎◌}
use Rattle.std.specs.Io.KnownBytes.{IsAtEnd}
use Rattle.apv_base.specs.declared.options.Form.{Form}
use Rattle.apv_base.specs.declared.options.Form.TheVariants.{Planar, Y4m}
use Rattle.apv_base.specs.declared.slot.Slot.{Slot}
use Rattle.apv_base.specs.model.Picture.{Samples, picture_len}
use Rattle.apv_base.specs.model.Run.{MAX_UNITS}
use Rattle.apv_base.specs.model.Video.{VideoFault, bad, over, FrameLineAt, PictureAt, PictureBreaks}
use Rattle.apv_files.specs.SlotView.{SlotView}
use Rattle.apv_files.specs.Loops.{TookAll, TookFailed}
use Rattle.apv_files.specs.declared.files.Failed.{Failed}
use Rattle.apv_files.specs.declared.files.Failed.TheVariants.{Device, Memory as FilesMemory}
use Rattle.apv_video.specs.declared.end.VideoEnd.{VideoEnd}
use Rattle.apv_video.specs.declared.end.VideoEnd.TheVariants.{Bad, Limit, Read, Memory}
use Rattle.apv_video.specs.declared.open.Shape.{Shape}

-- a byte was taken, or none, since nothing is left; or a read failed
abbrev pub TakesByte : SlotView → Result (Option ℕ) Failed → SlotView → Type 0
TakesByte old (Ok (Some byte)) new = TookAll old (byte ∷ []) new
TakesByte old (Ok None) new = (new ≡ old) × IsAtEnd old.left
TakesByte old (Err Device) new = TookFailed old [] new
TakesByte old (Err FilesMemory) new = new ≡ old

-- the form of the file
abbrev pub form_of : Shape → Form
form_of shape = if_y4m shape.y4m
  where
    if_y4m : Bool → Form
    if_y4m true = Y4m
    if_y4m false = Planar

-- No byte after the next picture is among these, whatever follows them: where a picture follows its frame line, no more
-- is left of it than what follows.
abbrev pub IsWithinPicture : Shape → List ℕ → Type 0
IsWithinPicture shape taken =
    (more start : List ℕ) → FrameLineAt (taken ++ more) (form_of shape) start → picture_len shape.format ≤ length start
    → length start ≤ picture_len shape.format + length more

-- a picture of these samples was taken, whatever follows it
pub record TookPicture (shape : Shape) (number : ℕ) (old : SlotView) (samples : Samples) (new : SlotView) : Type 0 where
  pub taken : List ℕ
  pub took : TookAll old taken new
  pub few : number < MAX_UNITS
  pub picture : (after : List ℕ) → PictureAt shape.format (form_of shape) (taken ++ after) samples after

-- No picture is there: whatever follows what was taken, or where nothing follows, since all that was left was taken.
pub record PictureStops (shape : Shape) (number : ℕ) (old : SlotView) (fault : VideoFault) (new : SlotView)
    : Type 0 where
  pub taken : List ℕ
  pub within : IsWithinPicture shape taken
  pub took : TookAll old taken new
  pub stops :
      ((after : List ℕ) → PictureBreaks shape.format (form_of shape) number (taken ++ after) fault)
      ⊎ (IsAtEnd new.left × PictureBreaks shape.format (form_of shape) number taken fault)

-- bytes of a picture were taken, and then a read failed
pub record PictureFails (shape : Shape) (old new : SlotView) : Type 0 where
  pub taken : List ℕ
  pub within : IsWithinPicture shape taken
  pub failed : TookFailed old taken new

-- bytes of a picture were taken, and then memory ran out
pub record PictureLacksMemory (shape : Shape) (old new : SlotView) : Type 0 where
  pub taken : List ℕ
  pub within : IsWithinPicture shape taken
  pub took : TookAll old taken new

-- a picture of a slot, which is the one of that number, was read
abbrev pub ReadsFrame : Slot → Shape → ℕ → SlotView → Result Bool VideoEnd → Samples → SlotView → Type 0
ReadsFrame slot shape number old (Ok true) samples new = TookPicture shape number old samples new
ReadsFrame slot shape number old (Ok false) samples new = (new ≡ old) × IsAtEnd old.left
ReadsFrame slot shape number old (Err (Bad break)) samples new =
    PictureStops shape number old (bad break.rule) new × (break.slot ≡ slot) × (break.frame ≡ number)
ReadsFrame slot shape number old (Err (Limit limit count)) samples new =
    PictureStops shape number old (over limit count) new
ReadsFrame slot shape number old (Err (Read failed)) samples new = PictureFails shape old new × (failed ≡ slot)
ReadsFrame slot shape number old (Err Memory) samples new = PictureLacksMemory shape old new
