-- The options of the encoder and its settings.
use Rattle.std.specs.Prelude.{◌≡◌, ◌≤◌, ◌+◌, ◌*◌, ℕ, ℤ, pos, neg_ℤ, unsigned_abs, Bool, true, false, not, ◌==◌, List, [], ◌∷◌}
use Rattle.std.specs.Prelude.{IfSome, Option, Some, None, is_some, codes, replicate, slice_index, if◌then◌else◌}
use Rattle.std.specs.Option.{option_map, option_map_or}
use Rattle.std.specs.Str.{bytes_eq}
use Rattle.clap.specs.Lexer.{strip_byte}
use Rattle.apv_base.specs.declared.format.Chroma.{Chroma}
use Rattle.apv_base.specs.declared.format.Chroma.TheVariants.{C400, C422, C444, C4444}
use Rattle.apv_base.specs.declared.format.Colour.{Colour}
use Rattle.apv_base.specs.declared.options.Form.TheVariants.{Planar}
use Rattle.apv_base.specs.model.Header.{IsSoundColour}
use Rattle.apv_base.specs.model.Quant.{IsMatrix}
use Rattle.apv_base.specs.model.Profile.{is_known}
use Rattle.apv_base.specs.declared.options.Opt.TheVariants as opts
use Rattle.apv_words.specs.Decoder.{form_of, forms, thread_counts}
use Rattle.apv_words.specs.Settings.{Gives, rows_of}
use Rattle.apv_words.specs.Table.{Below, HasValue, LacksValue, RowCondition, With, Without}
use Rattle.apv_words.specs.Table.{Choice, Flag, Name, NameOrDash, Number, Numbers, Signed, ValueKind}
use Rattle.apv_words.specs.Table.{Optional, OptionRow, RequiredWhere, RowRequirement, Text}
use Rattle.apv_words.specs.Table.{optional, row}
use Rattle.apv_words.specs.Values.{is_choice, number_of, part_after, part_before}
use Rattle.apv_words.specs.declared.encoder.EncSettings.{EncSettings}
use Rattle.apv_words.specs.declared.table.Bounds.{Bounds}

abbrev pub from_to : ℕ → ℕ → Bounds
from_to minimum maximum = record { minimum = minimum; maximum = maximum }

abbrev pub picture_size : ValueKind
picture_size = Number (from_to 1 16777215)

abbrev pub qp : ValueKind
qp = Number (from_to 0 75)

-- up to 75, with an optional `-`
abbrev pub qp_offset : ValueKind
qp_offset = Signed 75

-- 64 entries of a quantisation matrix
abbrev pub matrix : ValueKind
matrix = Numbers (replicate 64 (from_to 1 255))

-- primaries, transfer, matrix coefficients and full range
abbrev pub colour_bounds : List Bounds
colour_bounds = from_to 0 255 ∷ from_to 0 255 ∷ from_to 0 255 ∷ from_to 0 1 ∷ []

abbrev pub colour : ValueKind
colour = Numbers colour_bounds

abbrev pub chromas : List Text
chromas = codes "400" ∷ codes "422" ∷ codes "444" ∷ codes "4444" ∷ []

abbrev pub profiles : List Text
profiles =
    codes "422-10" ∷ codes "422-12" ∷ codes "444-10" ∷ codes "444-12" ∷ codes "4444-10"
    ∷ codes "4444-12" ∷ codes "400-10" ∷ []

abbrev pub levels : List Text
levels =
    codes "1" ∷ codes "1.1" ∷ codes "2" ∷ codes "2.1" ∷ codes "3" ∷ codes "3.1" ∷ codes "4"
    ∷ codes "4.1" ∷ codes "5" ∷ codes "5.1" ∷ codes "6" ∷ codes "6.1" ∷ codes "7" ∷ codes "7.1" ∷ []

-- a generated video has no input, no form and no format of its own
abbrev pub generated : RowCondition
generated = With (codes "generate")

abbrev pub not_generated : RowCondition
not_generated = Without (codes "generate")

-- an option of the format: required where the form is planar, and may not be given otherwise
abbrev pub where_planar : RowRequirement
where_planar = RequiredWhere (not_generated ∷ LacksValue (codes "form") (codes "y4m") ∷ [])

abbrev pub not_planar : List RowCondition
not_planar = generated ∷ HasValue (codes "form") (codes "y4m") ∷ []

-- an option of the preview's size: required with a preview, and may not be given without one
abbrev pub where_preview : RowRequirement
where_preview = RequiredWhere (With (codes "preview") ∷ [])

abbrev pub no_preview : List RowCondition
no_preview = Without (codes "preview") ∷ []

abbrev pub limited : RowCondition
limited = With (codes "limit")

abbrev pub not_limited : RowCondition
not_limited = Without (codes "limit")

-- the options of the encoder
abbrev pub enc_table : List OptionRow
enc_table =
    optional opts.Generate (codes "generate") (Number (from_to 0 4294967295))
    ∷ row opts.Input (codes "input") NameOrDash (RequiredWhere (not_generated ∷ [])) (generated ∷ [])
    ∷ row opts.Output (codes "output") NameOrDash (RequiredWhere (not_generated ∷ [])) []
    ∷ row opts.Form (codes "form") (Choice forms) Optional (generated ∷ [])
    ∷ row opts.Width (codes "width") picture_size where_planar not_planar
    ∷ row opts.Height (codes "height") picture_size where_planar not_planar
    ∷ row opts.Chroma (codes "chroma") (Choice chromas) where_planar not_planar
    ∷ row opts.Depth (codes "depth") (Number (from_to 10 12)) where_planar not_planar
    ∷ optional opts.Profile (codes "profile") (Choice profiles)
    ∷ optional opts.Level (codes "level") (Choice levels)
    ∷ optional opts.Band (codes "band") (Number (from_to 0 3))
    ∷ row opts.Qp (codes "qp") qp (RequiredWhere (not_limited ∷ [])) (limited ∷ [])
    ∷ optional opts.Limit (codes "limit") (Number (from_to 1 536870912))
    ∷ row opts.QpMin (codes "qp-min") qp Optional (not_limited ∷ [])
    ∷ row opts.QpMax (codes "qp-max") qp Optional (not_limited ∷ Below (codes "qp-min") ∷ [])
    ∷ optional opts.QpOffset1 (codes "qp-offset-1") qp_offset
    ∷ optional opts.QpOffset2 (codes "qp-offset-2") qp_offset
    ∷ optional opts.QpOffset3 (codes "qp-offset-3") qp_offset
    ∷ optional opts.Matrix0 (codes "matrix-0") matrix
    ∷ optional opts.Matrix1 (codes "matrix-1") matrix
    ∷ optional opts.Matrix2 (codes "matrix-2") matrix
    ∷ optional opts.Matrix3 (codes "matrix-3") matrix
    ∷ optional opts.Colour (codes "colour") colour
    ∷ optional opts.TileWidth (codes "tile-width") (Number (from_to 16 1048575))
    ∷ optional opts.TileHeight (codes "tile-height") (Number (from_to 8 1048575))
    ∷ optional opts.TileSizes (codes "tile-sizes") Flag
    ∷ optional opts.Preview (codes "preview") Name
    ∷ optional opts.DepthMap (codes "depth-map") Name
    ∷ optional opts.Alpha (codes "alpha") Name
    ∷ row opts.PreviewWidth (codes "preview-width") picture_size where_preview no_preview
    ∷ row opts.PreviewHeight (codes "preview-height") picture_size where_preview no_preview
    ∷ optional opts.Metadata (codes "metadata") Name
    ∷ optional opts.AuInfo (codes "au-info") Flag
    ∷ optional opts.Filler (codes "filler") (Number (from_to 0 16777216))
    ∷ optional opts.Recon (codes "recon") Name
    ∷ optional opts.TileQp (codes "tile-qp") Name
    ∷ optional opts.Threads (codes "threads") (Number thread_counts)
    ∷ optional opts.Digest (codes "digest") Flag
    ∷ []

-- the options that are built: all but this one
abbrev pub is_built_enc_option : Text → Bool
is_built_enc_option name = not (is_choice (codes "digest" ∷ []) name)

-- the options that are built; every other one is an unknown word
abbrev pub built_enc_table : List OptionRow
built_enc_table = rows_of is_built_enc_option enc_table

abbrev pub chroma_of : Text → Chroma
chroma_of text =
    if bytes_eq text (codes "400") then C400
    else if bytes_eq text (codes "422") then C422
    else if bytes_eq text (codes "444") then C444
    else C4444

-- the profile_idc of the name of a profile
abbrev pub profile_of : Text → ℕ
profile_of text =
    if bytes_eq text (codes "422-10") then 33
    else if bytes_eq text (codes "422-12") then 44
    else if bytes_eq text (codes "444-10") then 55
    else if bytes_eq text (codes "444-12") then 66
    else if bytes_eq text (codes "4444-10") then 77
    else if bytes_eq text (codes "4444-12") then 88
    else 99

-- the level_idc of a level: 30 times the level, which has tenths after a point (46) or none
abbrev pub level_of : Text → ℕ
level_of text = 30 * number_of (part_before 46 text) + 3 * number_of (part_after 46 text)

-- the number, or what follows `-`, which is below 0
abbrev pub signed_by : Text → Option Text → ℤ
signed_by text (Some digits) = neg_ℤ (pos (number_of digits))
signed_by text None = pos (number_of text)

abbrev pub signed_of : Text → ℤ
signed_of text = signed_by text (strip_byte 45 text)

-- numbers with commas (44) between them, as many as there are bounds
abbrev pub numbers_of : List Bounds → Text → List ℕ
numbers_of [] text = []
numbers_of (bounds ∷ []) text = number_of text ∷ []
numbers_of (bounds ∷ next ∷ more) text = number_of (part_before 44 text) ∷ numbers_of (next ∷ more) (part_after 44 text)

-- the entries of a quantisation matrix
abbrev pub matrix_of : Text → List ℕ
matrix_of text = numbers_of (replicate 64 (from_to 1 255)) text

-- the colour description of four numbers
abbrev pub colour_by : List ℕ → Colour
colour_by numbers = record {
  primaries = slice_index numbers 0;
  transfer = slice_index numbers 1;
  matrix = slice_index numbers 2;
  full_range = slice_index numbers 3 == 1;
}

abbrev pub colour_of : Text → Colour
colour_of text = colour_by (numbers_of colour_bounds text)

-- the settings by the value of each option and whether it is given
abbrev pub enc_settings_by : (Text → Option Text) → (Text → Bool) → EncSettings
enc_settings_by value given = record {
  generate = option_map number_of (value (codes "generate"));
  input = value (codes "input");
  output = value (codes "output");
  form = option_map_or form_of (value (codes "form")) Planar;
  width = option_map number_of (value (codes "width"));
  height = option_map number_of (value (codes "height"));
  chroma = option_map chroma_of (value (codes "chroma"));
  depth = option_map number_of (value (codes "depth"));
  profile = option_map profile_of (value (codes "profile"));
  level = option_map_or level_of (value (codes "level")) 123;
  band = option_map_or number_of (value (codes "band")) 0;
  qp = option_map number_of (value (codes "qp"));
  limit = option_map number_of (value (codes "limit"));
  qp_min = option_map number_of (value (codes "qp-min"));
  qp_max = option_map number_of (value (codes "qp-max"));
  qp_offset_1 = option_map_or signed_of (value (codes "qp-offset-1")) (pos 0);
  qp_offset_2 = option_map_or signed_of (value (codes "qp-offset-2")) (pos 0);
  qp_offset_3 = option_map_or signed_of (value (codes "qp-offset-3")) (pos 0);
  matrix_0 = option_map matrix_of (value (codes "matrix-0"));
  matrix_1 = option_map matrix_of (value (codes "matrix-1"));
  matrix_2 = option_map matrix_of (value (codes "matrix-2"));
  matrix_3 = option_map matrix_of (value (codes "matrix-3"));
  colour = option_map colour_of (value (codes "colour"));
  tile_width = option_map number_of (value (codes "tile-width"));
  tile_height = option_map number_of (value (codes "tile-height"));
  tile_sizes = given (codes "tile-sizes");
  preview = value (codes "preview");
  depth_map = value (codes "depth-map");
  alpha = value (codes "alpha");
  preview_width = option_map number_of (value (codes "preview-width"));
  preview_height = option_map number_of (value (codes "preview-height"));
  metadata = value (codes "metadata");
  au_info = given (codes "au-info");
  filler = option_map number_of (value (codes "filler"));
  recon = value (codes "recon");
  tile_qp = value (codes "tile-qp");
  threads = option_map_or number_of (value (codes "threads")) 1;
}

-- the words give these settings by the options of the table
abbrev pub HasEncSettings : List OptionRow → List Text → EncSettings → Type 0
HasEncSettings table words settings = Gives enc_settings_by table words settings

-- the settings are within the bounds of their options, and the profile is one of the seven
pub record HasEncBounds (settings : EncSettings) : Type 0 where
  pub width : IfSome settings.width (λ n. (1 ≤ n) × (n ≤ 16777215))
  pub height : IfSome settings.height (λ n. (1 ≤ n) × (n ≤ 16777215))
  pub depth : IfSome settings.depth (λ n. (10 ≤ n) × (n ≤ 12))
  pub profile : IfSome settings.profile (λ idc. is_known idc ≡ true)
  pub level : settings.level ≤ 213
  pub band : settings.band ≤ 3
  pub qp : IfSome settings.qp (λ n. n ≤ 75)
  pub limit : IfSome settings.limit (λ n. (1 ≤ n) × (n ≤ 536870912))
  pub qp_min : IfSome settings.qp_min (λ n. n ≤ 75)
  pub qp_max : IfSome settings.qp_max (λ n. n ≤ 75)
  pub qp_offset_1 : unsigned_abs settings.qp_offset_1 ≤ 75
  pub qp_offset_2 : unsigned_abs settings.qp_offset_2 ≤ 75
  pub qp_offset_3 : unsigned_abs settings.qp_offset_3 ≤ 75
  pub matrix_0 : IfSome settings.matrix_0 IsMatrix
  pub matrix_1 : IfSome settings.matrix_1 IsMatrix
  pub matrix_2 : IfSome settings.matrix_2 IsMatrix
  pub matrix_3 : IfSome settings.matrix_3 IsMatrix
  pub colour : IfSome settings.colour IsSoundColour
  pub tile_width : IfSome settings.tile_width (λ n. (16 ≤ n) × (n ≤ 1048575))
  pub tile_height : IfSome settings.tile_height (λ n. (8 ≤ n) × (n ≤ 1048575))
  pub preview_width : IfSome settings.preview_width (λ n. (1 ≤ n) × (n ≤ 16777215))
  pub preview_height : IfSome settings.preview_height (λ n. (1 ≤ n) × (n ≤ 16777215))
  pub filler : IfSome settings.filler (λ n. n ≤ 16777216)
  pub threads : (1 ≤ settings.threads) × (settings.threads ≤ 64)

-- the first QP that is tried, where it is given, isn't after the last one, where that is given
abbrev pub AreInOrder : Option ℕ → Option ℕ → Type 0
AreInOrder first last = IfSome first (λ least. IfSome last (λ most. least ≤ most))

-- The options that are built give an input exactly where no video is generated, and an output then. A video that is
-- generated is planar. A QP is given exactly where there is no limit, and the size of the preview exactly where its file
-- is named.
pub record HasEncFiles (settings : EncSettings) : Type 0 where
  pub input : is_some settings.input ≡ not (is_some settings.generate)
  pub output : is_some settings.generate ≡ false → is_some settings.output ≡ true
  pub form : is_some settings.generate ≡ true → settings.form ≡ Planar
  pub qp : is_some settings.qp ≡ not (is_some settings.limit)
  pub order : AreInOrder settings.qp_min settings.qp_max
  pub preview_width : is_some settings.preview_width ≡ is_some settings.preview
  pub preview_height : is_some settings.preview_height ≡ is_some settings.preview
