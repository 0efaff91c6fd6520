-- What the outputs of a run hold, for the settings of its words.
use Rattle.std.specs.Prelude.{◌≡◌, ℕ, Bool, false, ◌&&◌, List, [], ◌∷◌, ◌++◌, Option, Some, None, is_some}
use Rattle.std.specs.Prelude.{if◌then◌else◌}
use Rattle.std.specs.List.{flat_map, filter}
use Rattle.apv_base.specs.declared.format.Format.{Format}
use Rattle.apv_base.specs.declared.options.Form.{Form}
use Rattle.apv_base.specs.declared.slot.Slot.{Slot}
use Rattle.apv_base.specs.declared.slot.Slot.TheVariants.{Output, MetaOut}
use Rattle.apv_base.specs.model.Judge.{DecodedUnit}
use Rattle.apv_base.specs.model.Output.{OutputSettings, has_kind, has_group, is_selected, picture_of}
use Rattle.apv_base.specs.model.Output.{dec_out, dec_payloads, formats, header_with, is_y4m, wants_format}
use Rattle.apv_base.specs.model.Picture.{picture}
use Rattle.apv_base.specs.model.Sound.{unit_payloads}
use Rattle.apv_base.specs.model.Video.{frame_line, tag_of}
use Rattle.apv_grid.specs.Buffer.{Buffer, samples_of}
use Rattle.apv_words.specs.declared.decoder.DecSettings.{DecSettings}

-- what decides the outputs
abbrev pub output_settings : DecSettings → OutputSettings
output_settings settings = record {
  output = is_some settings.output;
  payloads = is_some settings.metadata;
  form = settings.form;
  rate = settings.rate;
  select = settings.select;
  group = settings.group;
  strict = settings.strict;
}

-- an output is wanted
abbrev pub is_wanted : OutputSettings → Slot → Bool
is_wanted settings Output = settings.output
is_wanted settings MetaOut = settings.payloads
is_wanted settings _ = false

-- what an output holds of units
abbrev pub output_of : OutputSettings → List DecodedUnit → Slot → List ℕ
output_of settings units Output = dec_out settings units
output_of settings units MetaOut = dec_payloads settings units
output_of settings units _ = []

-- a frame of this pbu_type and group_id is selected
abbrev pub selects : DecSettings → ℕ → ℕ → Bool
selects settings kind group = has_kind settings.select kind && has_group settings.group group

-- the picture of a frame that is in this buffer, after its line in a Y4M file, where it is selected, or nothing
abbrev pub picture_if : Form → Bool → Buffer ℕ → List ℕ
picture_if form is_selected buffer =
    if is_selected
    then (if is_y4m form then frame_line else []) ++ picture buffer.grid.format (samples_of buffer)
    else []

-- the pictures of the selected frames of a unit, one after another
abbrev pub selected_pictures : OutputSettings → DecodedUnit → List ℕ
selected_pictures settings unit = flat_map (picture_of settings) (filter (is_selected settings) unit.frames)

-- the header line of a Y4M file for this format, or nothing where there is none
abbrev pub header_text : OutputSettings → Option Format → List ℕ
header_text settings None = []
header_text settings (Some format) = header_with settings.rate format (tag_of format)

-- the pictures of the selected frames of a unit where pictures are wanted, after the header line for a format where
-- they are the first of a Y4M file, or nothing
abbrev pub unit_pictures : OutputSettings → Option Format → DecodedUnit → List ℕ
unit_pictures settings header unit =
    if settings.output then header_text settings header ++ selected_pictures settings unit else []

-- the first of formats, where there is one
abbrev pub first_format : List Format → Option Format
first_format [] = None
first_format (format ∷ more) = Some format

-- This is the format of the first selected frame of units whose pictures are in a Y4M file. Of other outputs it is none.
abbrev pub IsFirstFormat : OutputSettings → List DecodedUnit → Option Format → Type 0
IsFirstFormat settings units format =
    format ≡ (if wants_format settings then first_format (formats settings units) else None)

-- The format whose header line comes before the pictures of a unit: that of the first selected frame so far, where there
-- was none before the unit.
abbrev pub new_format : Option Format → Option Format → Option Format
new_format None now = now
new_format (Some format) now = None

-- the payloads of a unit where they are wanted, or nothing
abbrev pub unit_metadata : OutputSettings → DecodedUnit → List ℕ
unit_metadata settings unit = if settings.payloads then unit_payloads unit.pbus else []
