-- The settings of a command line as those of the definitions.
use Rattle.std.specs.Prelude.{ℕ, List, [], ◌∷◌, Option, Some, None, is_some}
use Rattle.apv_base.specs.declared.format.Chroma.TheVariants.{C400}
use Rattle.apv_base.specs.declared.format.Format.{Format}
use Rattle.apv_base.specs.declared.options.Form.{Form}
use Rattle.apv_base.specs.declared.options.Form.TheVariants.{Planar, Y4m}
use Rattle.apv_words.specs.declared.encoder.EncSettings.{EncSettings}
use Rattle.apv_encoding.specs.Generated.{generated_format}
use Rattle.apv_encoding.specs.Settings.{EncoderSettings, RateControl, Source, planar, y4m, fixed, limited, given_or}

-- the format that the options of the format give: all four are given where a planar file is read
abbrev pub format_of_options : EncSettings → Format
format_of_options settings = record {
  width = given_or settings.width 0;
  height = given_or settings.height 0;
  chroma = given_or settings.chroma C400;
  depth = given_or settings.depth 0;
}

-- the format of a planar file: that of a generated video where there is a seed, else that of the options
abbrev pub format_by : EncSettings → Option ℕ → Format
format_by settings None = format_of_options settings
format_by settings (Some seed) = generated_format

abbrev pub given_format : EncSettings → Format
given_format settings = format_by settings settings.generate

abbrev pub source_by : Form → Format → Source
source_by Planar format = planar format
source_by Y4m format = y4m

-- the QP, or the limit with the first and the last QP that are tried
abbrev pub rate_by : EncSettings → Option ℕ → RateControl
rate_by settings None = fixed (given_or settings.qp 0)
rate_by settings (Some limit) = limited limit settings.qp_min settings.qp_max

-- the width and height of the preview, where its file is named: both are given then
abbrev pub preview_by : EncSettings → Option (List ℕ) → Option (ℕ × ℕ)
preview_by settings None = None
preview_by settings (Some name) = Some (given_or settings.preview_width 0, given_or settings.preview_height 0)

-- the settings
abbrev pub plain_settings : EncSettings → EncoderSettings
plain_settings settings = record {
  source = source_by settings.form (given_format settings);
  profile = settings.profile;
  level = settings.level;
  band = settings.band;
  rate = rate_by settings settings.limit;
  offsets = settings.qp_offset_1 ∷ settings.qp_offset_2 ∷ settings.qp_offset_3 ∷ [];
  matrices = settings.matrix_0 ∷ settings.matrix_1 ∷ settings.matrix_2 ∷ settings.matrix_3 ∷ [];
  colour = settings.colour;
  tile_width = settings.tile_width;
  tile_height = settings.tile_height;
  sizes_present = settings.tile_sizes;
  preview = preview_by settings settings.preview;
  depth = is_some settings.depth_map;
  alpha = is_some settings.alpha;
  au_info = settings.au_info;
  filler = settings.filler;
  output = is_some settings.output;
  recon = is_some settings.recon;
}
