-- The settings of the decoder.
use Rattle.std.specs.Prelude.{ℕ, Bool, List, [], ◌∷◌, Option, codes}
use Rattle.std.specs.Prelude.{if◌then◌else◌}
use Rattle.std.specs.Option.{option_map, option_map_or}
use Rattle.std.specs.Str.{bytes_eq}
use Rattle.apv_base.specs.declared.options.Form.{Form}
use Rattle.apv_base.specs.declared.options.Form.TheVariants.{Planar, Y4m}
use Rattle.apv_base.specs.declared.options.Opt.TheVariants as opts
use Rattle.apv_base.specs.declared.options.Select.{Select}
use Rattle.apv_base.specs.declared.options.Select.TheVariants.{Primary, NonPrimary, Preview, Depth}
use Rattle.apv_base.specs.declared.options.Select.TheVariants.{Alpha, All}
use Rattle.apv_words.specs.Settings.{Gives}
use Rattle.apv_words.specs.Table.{Choice, Flag, Name, NameOrDash, Number, OptionRow, Ratio, Text}
use Rattle.apv_words.specs.Table.{optional, required}
use Rattle.apv_words.specs.Values.{part_after, part_before, number_of}
use Rattle.apv_words.specs.declared.table.Bounds.{Bounds}
use Rattle.apv_words.specs.declared.decoder.DecSettings.{DecSettings}

abbrev pub selections : List Text
selections =
    codes "primary" ∷ codes "non-primary" ∷ codes "preview" ∷ codes "depth" ∷ codes "alpha"
    ∷ codes "all" ∷ []

abbrev pub forms : List Text
forms = codes "planar" ∷ codes "y4m" ∷ []

abbrev pub groups : Bounds
groups = record { minimum = 0; maximum = 65535 }

abbrev pub rates : Bounds
rates = record { minimum = 1; maximum = 1000000 }

abbrev pub thread_counts : Bounds
thread_counts = record { minimum = 1; maximum = 64 }

-- the options of the decoder
abbrev pub dec_table : List OptionRow
dec_table =
    required opts.Input (codes "input") NameOrDash
    ∷ optional opts.Output (codes "output") NameOrDash
    ∷ optional opts.Metadata (codes "metadata") Name
    ∷ optional opts.Select (codes "select") (Choice selections)
    ∷ optional opts.Group (codes "group") (Number groups)
    ∷ optional opts.Form (codes "form") (Choice forms)
    ∷ optional opts.Rate (codes "rate") (Ratio rates)
    ∷ optional opts.Threads (codes "threads") (Number thread_counts)
    ∷ optional opts.Strict (codes "strict") Flag
    ∷ []

abbrev pub select_of : Text → Select
select_of text =
    if bytes_eq text (codes "non-primary") then NonPrimary
    else if bytes_eq text (codes "preview") then Preview
    else if bytes_eq text (codes "depth") then Depth
    else if bytes_eq text (codes "alpha") then Alpha
    else if bytes_eq text (codes "all") then All
    else Primary

abbrev pub form_of : Text → Form
form_of text = if bytes_eq text (codes "y4m") then Y4m else Planar

-- the numbers before and after the colon
abbrev pub rate_of : Text → ℕ × ℕ
rate_of text = (number_of (part_before 58 text), number_of (part_after 58 text))

-- the settings by the value of each option and whether it is given
abbrev pub settings_by : (Text → Option Text) → (Text → Bool) → DecSettings
settings_by value given = record {
  input = value (codes "input");
  output = value (codes "output");
  metadata = value (codes "metadata");
  select = option_map_or select_of (value (codes "select")) Primary;
  group = option_map number_of (value (codes "group"));
  form = option_map_or form_of (value (codes "form")) Planar;
  rate = option_map_or rate_of (value (codes "rate")) (30, 1);
  threads = option_map_or number_of (value (codes "threads")) 1;
  strict = given (codes "strict");
}

-- the words give these settings by the options of the table
abbrev pub HasSettings : List OptionRow → List Text → DecSettings → Type 0
HasSettings table words settings = Gives settings_by table words settings
