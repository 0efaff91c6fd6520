-- What the decoder writes of a file, and where it stops, for plain settings.
use Rattle.std.specs.Prelude.{◌≡◌, ◌≢◌, ℕ, Bool, true, false, ◌&&◌, List, [], ◌∷◌, ◌++◌, length, map}
use Rattle.std.specs.Prelude.{Option, Some, None}
use Rattle.std.specs.Prelude.{if◌then◌else◌, ◌==◌}
use Rattle.std.specs.List.{AllByRecursion, flat_map, filter}
use Rattle.apv_base.specs.declared.exits.Exit.{Exit}
use Rattle.apv_base.specs.declared.exits.Exit.TheVariants.{NoTag, FormatChange}
use Rattle.apv_base.specs.declared.rules.UnitEnd.{UnitEnd}
use Rattle.apv_base.specs.declared.format.Format.{Format}
use Rattle.apv_base.specs.declared.options.Form.{Form}
use Rattle.apv_base.specs.declared.options.Form.TheVariants.{Planar, Y4m}
use Rattle.apv_base.specs.declared.options.Select.{Select}
use Rattle.apv_base.specs.declared.options.Select.TheVariants.{Primary, NonPrimary, Preview, Depth, Alpha, All}
use Rattle.apv_base.specs.model.Header.{format_of}
use Rattle.apv_base.specs.model.Judge.{DecodedFrame, DecodedUnit, IsValidUnit, UnitBreaks}
use Rattle.apv_base.specs.model.Picture.{frame_picture}
use Rattle.apv_base.specs.model.Run.{Judgement, HasRun, exit_of}
use Rattle.apv_base.specs.model.Sound.{unit_payloads}
use Rattle.apv_base.specs.model.Video.{tag_of, header_line, frame_line}

-- what decides the outputs: whether pictures and payloads are written, the form of the picture file and the rate that
-- a Y4M file names, the frames that are selected, by their pbu_type and their group_id, and whether units are judged
-- strictly
pub record OutputSettings : Type 0 where
  pub output : Bool
  pub payloads : Bool
  pub form : Form
  pub rate : ℕ × ℕ
  pub select : Select
  pub group : Option ℕ
  pub strict : Bool

-- the settings where no output is asked for and nothing else is given: pictures in a planar file, at 30 pictures a
-- second, of the primary frames of all groups. Where a file stops, for no settings, is where it stops for these.
abbrev pub default_settings : OutputSettings
default_settings = record {
  output = false;
  payloads = false;
  form = Planar;
  rate = (30, 1);
  select = Primary;
  group = None;
  strict = false;
}

-- the form is that of a Y4M file
abbrev pub is_y4m : Form → Bool
is_y4m Planar = false
is_y4m Y4m = true

-- ---- the selected frames

-- the pbu_type is selected
abbrev pub has_kind : Select → ℕ → Bool
has_kind Primary kind = kind == 1
has_kind NonPrimary kind = kind == 2
has_kind Preview kind = kind == 25
has_kind Depth kind = kind == 26
has_kind Alpha kind = kind == 27
has_kind All kind = true

-- the group_id is selected
abbrev pub has_group : Option ℕ → ℕ → Bool
has_group None group = true
has_group (Some wanted) group = group == wanted

-- the frame is selected
abbrev pub is_selected : OutputSettings → DecodedFrame → Bool
is_selected settings frame = has_kind settings.select frame.kind && has_group settings.group frame.group

-- in the order of units and PBUs
abbrev pub all_frames : List DecodedUnit → List DecodedFrame
all_frames [] = []
all_frames (unit ∷ units) = unit.frames ++ all_frames units

-- the selected frames
abbrev pub selected : OutputSettings → List DecodedUnit → List DecodedFrame
selected settings units = filter (is_selected settings) (all_frames units)

-- the format of a frame
abbrev pub decoded_format : DecodedFrame → Format
decoded_format frame = format_of frame.frame.header.info

-- the formats of the selected frames
abbrev pub formats : OutputSettings → List DecodedUnit → List Format
formats settings units = map decoded_format (selected settings units)

-- ---- one format

-- pictures are in a Y4M file, which has one format
abbrev pub wants_format : OutputSettings → Bool
wants_format settings = settings.output && is_y4m settings.form

-- the formats are all the first one, which has a tag
abbrev pub AreOne : List Format → Type 0
AreOne [] = Unit {0}
AreOne (first ∷ more) = (tag_of first ≢ None) × AllByRecursion (λ format. format ≡ first) more

-- where pictures are in a Y4M file, their formats are one
abbrev pub FormatsAgree : OutputSettings → List Format → Type 0
FormatsAgree settings all = wants_format settings ≡ true → AreOne all

-- ---- the units of a file

-- why formats don't agree: the first has no tag, or another one differs from it
pub data FormatsDiffer (all : List Format) : Exit → Type 0 where
  no_tag : (first : Format) (more : List Format) → all ≡ first ∷ more → tag_of first ≡ None
      → FormatsDiffer all (NoTag first)
  other_format : (first : Format) (same : List Format) (other : Format) (more : List Format)
      → all ≡ first ∷ (same ++ other ∷ more) → AreOne (first ∷ same) → other ≢ first
      → FormatsDiffer all (FormatChange first other)

-- why the unit of these bytes isn't decoded after these
pub data IsUndecoded (settings : OutputSettings) (before : List DecodedUnit) (bytes : List ℕ) : Exit → Type 0 where
  broken : (end : UnitEnd) → UnitBreaks settings.strict (length before) bytes end
      → IsUndecoded settings before bytes (exit_of end)
  differs : (unit : DecodedUnit) (exit : Exit) → unit.bytes ≡ bytes → IsValidUnit settings.strict unit
      → wants_format settings ≡ true → FormatsDiffer (formats settings (before ++ unit ∷ [])) exit
      → IsUndecoded settings before bytes exit

-- a unit is accepted where it is valid, and the formats of the selected frames so far agree
abbrev pub by_content : OutputSettings → Judgement DecodedUnit
by_content settings = record {
  bytes = λ unit. unit.bytes;
  Accepts =
      λ before unit. IsValidUnit settings.strict unit × FormatsAgree settings (formats settings (before ++ unit ∷ []));
  Refuses = λ before bytes exit. IsUndecoded settings before bytes exit;
}

-- the units of a file, and what stops the decoder after them
abbrev pub DecodesTo : OutputSettings → List ℕ → List DecodedUnit → Exit → Type 0
DecodesTo settings file units exit = HasRun (by_content settings) file units exit

-- ---- the outputs

-- a picture as it is written
abbrev pub picture_of : OutputSettings → DecodedFrame → List ℕ
picture_of settings frame = (if is_y4m settings.form then frame_line else []) ++ frame_picture frame.frame frame.levels

-- the header line for a format with this tag
abbrev pub header_with : ℕ × ℕ → Format → Option (List ℕ) → List ℕ
header_with rate format None = []
header_with rate format (Some tag) = header_line format rate tag

-- the header line of a Y4M file, which comes before its first picture
abbrev pub header_of : OutputSettings → List Format → List ℕ
header_of settings [] = []
header_of settings (first ∷ more) = if is_y4m settings.form then header_with settings.rate first (tag_of first) else []

-- what Output holds
abbrev pub dec_out : OutputSettings → List DecodedUnit → List ℕ
dec_out settings units =
    if settings.output
    then header_of settings (formats settings units) ++ flat_map (picture_of settings) (selected settings units)
    else []

-- what MetaOut holds
abbrev pub dec_payloads : OutputSettings → List DecodedUnit → List ℕ
dec_payloads settings units = if settings.payloads then flat_map (λ unit. unit_payloads unit.pbus) units else []
