-- What the console gets of a run, and what a run over a generated video reports.
use Rattle.std.specs.Prelude.{◌≡◌, ℕ, List, String, map, string_bytes, Option, Some, None}
use Rattle.std.specs.declared.alloc.Global.{Global}
use Rattle.apv_base.specs.declared.exits.Exit.{Exit}
use Rattle.apv_base.specs.declared.exits.Exit.TheVariants.{Done}
use Rattle.apv_base.specs.declared.format.Format.{Format}
use Rattle.apv_console.specs.Line.{line_of, report_line}
use Rattle.apv_console.specs.Tells.{TellsLine}
use Rattle.apv_console.specs.declared.report.Report.{Report}
use Rattle.apv_files.specs.SlotView.{SlotView}
use Rattle.apv_words.specs.Encoder.{HasEncSettings, built_enc_table}
use Rattle.apv_words.specs.declared.encoder.EncSettings.{EncSettings}
use Rattle.apv_encoding.specs.Answer.{HasFormats, Inputs, tile_offsets}
use Rattle.apv_encoding.specs.Laws.{Encoding, HasEncoding}
use Rattle.apv_encoding.specs.Settings.{primary_track}
use Rattle.apv_tracks.specs.Plain.{plain_settings}
use Rattle.apv_enc.specs.Report.{report_of}
use Rattle.apv_enc.specs.Run.{AreFiles}
use Rattle.apv_enc.specs.declared.end.RunEnd.{RunEnd}

-- the video of this seed is encoded to its end with the other inputs, and this is the report of its access units
pub record HasReport (settings : EncSettings) (held : List ℕ → Option (List ℕ)) (seed : ℕ) (report : Report)
    : Type 0 where
  pub inputs : Inputs
  pub told : AreFiles settings held inputs
  pub format : Format
  pub begin : List ℕ
  pub formats : HasFormats (plain_settings settings) inputs format begin
  pub encoding : Encoding
  pub made : HasEncoding (plain_settings settings) inputs encoding
  pub end : encoding.exit ≡ Done
  pub is : report ≡ report_of seed (primary_track (plain_settings settings) format (tile_offsets inputs.offsets))
      encoding.units

-- there is such a report exactly where there is a seed
abbrev pub IsToldReport : EncSettings → (List ℕ → Option (List ℕ)) → Option ℕ → Option Report → Type 0
IsToldReport settings held None report = report ≡ None
IsToldReport settings held (Some seed) report = (it : Report) × (report ≡ Some it) × HasReport settings held seed it

-- the line that is told of an end: that of the report after Done, where there is one, else that of the answer
abbrev pub line_by : Exit → Option Report → List ℕ
line_by Done (Some report) = report_line report
line_by exit report = line_of exit

abbrev pub line_of_end : RunEnd → List ℕ
line_of_end end = line_by end.exit end.report

-- the line of a run: that of its answer, or, after Done where a video was generated, that of the report
pub data IsLineOf (words : List (String Global)) (held : List ℕ → Option (List ℕ)) (exit : Exit) : List ℕ → Type 0 where
  of_answer : ((settings : EncSettings) → HasEncSettings built_enc_table (map string_bytes words) settings
      → exit ≡ Done → settings.generate ≡ None) → IsLineOf words held exit (line_of exit)
  of_report : (settings : EncSettings) (seed : ℕ) (report : Report)
      → HasEncSettings built_enc_table (map string_bytes words) settings → settings.generate ≡ Some seed
      → exit ≡ Done → HasReport settings held seed report → IsLineOf words held exit (report_line report)

-- the console got that line, or a prefix of it where a write to it failed
pub record TellsRun (words : List (String Global)) (held : List ℕ → Option (List ℕ)) (old : SlotView) (exit : Exit)
    (new : SlotView) : Type 0 where
  pub line : List ℕ
  pub is : IsLineOf words held exit line
  pub told : TellsLine old line exit new

-- the words give settings where the answer is Done
abbrev pub GiveSettings : List (String Global) → Exit → Type 0
GiveSettings words exit =
    exit ≡ Done → (settings : EncSettings) × HasEncSettings built_enc_table (map string_bytes words) settings
