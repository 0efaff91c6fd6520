-- Judging the formats of the frames, and reading that of the primary ones.
use Rattle.std.specs.Prelude.{◌≡◌, ℕ, List, [], ◌++◌, Option, Some, None, Result, Ok, Err, ⊤, ◌⊎◌}
use Rattle.std.specs.Io.KnownBytes.{IsAtEnd}
use Rattle.apv_base.specs.declared.exits.Exit.{Exit}
use Rattle.apv_base.specs.declared.exits.Exit.TheVariants as exits
use Rattle.apv_base.specs.declared.format.Format.{Format}
use Rattle.apv_base.specs.declared.header.FrameHeader.{FrameHeader}
use Rattle.apv_base.specs.declared.options.Form.{Form}
use Rattle.apv_base.specs.declared.options.Form.TheVariants.{Planar, Y4m}
use Rattle.apv_base.specs.declared.slot.Slot.{Slot}
use Rattle.apv_base.specs.declared.slot.Slot.TheVariants.{Input, Preview}
use Rattle.apv_base.specs.model.Header.{IsSoundHeader}
use Rattle.apv_base.specs.model.Output.{is_y4m}
use Rattle.apv_base.specs.model.Video.{VideoFault}
use Rattle.apv_files.specs.SlotView.{SlotView}
use Rattle.apv_files.specs.Loops.{TookAll, TookFailed}
use Rattle.apv_video.specs.OpenVideo.{IsWithinLine}
use Rattle.apv_video.specs.declared.open.Shape.{Shape}
use Rattle.apv_words.specs.declared.encoder.EncSettings.{EncSettings}
use Rattle.apv_encoding.specs.Answer.{FormatAt, FormatStops}
use Rattle.apv_encoding.specs.Settings.{check_input, check_preview, preview_header, primary_header}
use Rattle.apv_encoding.specs.Tracks.{video_exit}
use Rattle.apv_tracks.specs.Plain.{plain_settings}

-- ---- judging

-- a check has no fault, and the value is right; or it has one, and this is the exit for it in that slot, at frame 0
abbrev pub Judges : {T : Type 0} → Slot → Option VideoFault → (T → Type 0) → Result T Exit → Type 0
Judges slot check IsRight (Ok value) = (check ≡ None) × IsRight value
Judges slot check IsRight (Err exit) =
    (fault : VideoFault) × (check ≡ Some fault) × (exit ≡ video_exit slot 0 fault)

-- a value of which nothing is said
abbrev pub Passes : {T : Type 0} → T → Type 0
Passes value = ⊤

-- the header of the primary frames, which breaks no rule
pub record IsPrimaryHeader (settings : EncSettings) (format : Format) (header : FrameHeader) : Type 0 where
  pub is : header ≡ primary_header (plain_settings settings) format
  pub sound : IsSoundHeader header

-- the header of the preview frames of a size, which breaks no rule, where there are such frames
abbrev pub IsPreviewHeader : EncSettings → Option (ℕ × ℕ) → Option FrameHeader → Type 0
IsPreviewHeader settings None header = header ≡ None
IsPreviewHeader settings (Some size) None = ⊥
IsPreviewHeader settings (Some size) (Some header) =
    (header ≡ preview_header (plain_settings settings) size) × IsSoundHeader header

-- the formats of primary and of preview frames pass
pub record Pass (settings : EncSettings) (format : Format) : Type 0 where
  pub input : check_input (plain_settings settings) format ≡ None
  pub preview : check_preview (plain_settings settings).preview ≡ None

-- ---- reading

-- what the pictures of Input are: of this format, in a file of the form that the settings name
abbrev pub input_shape : Form → Format → Shape
input_shape form format = record { format = format; y4m = is_y4m form }

-- no byte of Input after the header is among these: none at all where the form is planar, else none after a line feed
abbrev pub IsWithinHeader : Form → List ℕ → Type 0
IsWithinHeader Planar taken = taken ≡ []
IsWithinHeader Y4m taken = IsWithinLine taken

-- this format was taken, whatever follows
pub record TookFormat (settings : EncSettings) (old : SlotView) (format : Format) (new : SlotView) : Type 0 where
  pub taken : List ℕ
  pub within : IsWithinHeader settings.form taken
  pub took : TookAll old taken new
  pub format_at : (rest : List ℕ) → FormatAt (taken ++ rest) (plain_settings settings).source format rest

-- no header is there, or a format doesn't pass: whatever follows, or where nothing follows
pub record FormatAnswered (settings : EncSettings) (old : SlotView) (exit : Exit) (new : SlotView) : Type 0 where
  pub taken : List ℕ
  pub within : IsWithinHeader settings.form taken
  pub took : TookAll old taken new
  pub stops :
      ((rest : List ℕ) → FormatStops (plain_settings settings) (taken ++ rest) exit)
      ⊎ (IsAtEnd new.left × FormatStops (plain_settings settings) taken exit)

-- bytes of the header of a Y4M file were taken, and then a read failed
pub record FormatFails (settings : EncSettings) (old new : SlotView) : Type 0 where
  pub taken : List ℕ
  pub y4m : settings.form ≡ Y4m
  pub within : IsWithinLine taken
  pub failed : TookFailed old taken new

-- why the format wasn't read or doesn't pass
pub data FormatEnds (settings : EncSettings) (old new : SlotView) : Exit → Type 0 where
  format_memory : (taken : List ℕ) → IsWithinHeader settings.form taken → TookAll old taken new
      → FormatEnds settings old new exits.Memory
  format_fault : FormatFails settings old new → FormatEnds settings old new (exits.ReadFailed Input)
  format_answer : (exit : Exit) → FormatAnswered settings old exit new → FormatEnds settings old new exit
