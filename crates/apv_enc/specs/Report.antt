-- What a run over a generated video reports.
use Rattle.std.specs.Prelude.{◌≡◌, ℕ, suc, ◌+◌, ◌-◌, List, [], ◌∷◌, length, map, Option, Some, None}
use Rattle.std.specs.List.{flat_map}
use Rattle.apv_base.specs.model.Encode.{frame_with}
use Rattle.apv_base.specs.model.Header.{format_of}
use Rattle.apv_base.specs.model.Picture.{Samples, sample}
use Rattle.apv_base.specs.model.Run.{sized}
use Rattle.apv_console.specs.declared.report.Report.{Report}
use Rattle.apv_encoding.specs.AccessUnit.{EncodedUnit}
use Rattle.apv_encoding.specs.Answer.{primary_levels}
use Rattle.apv_encoding.specs.Difference.{larger, maximum, peak_difference}
use Rattle.apv_encoding.specs.Generated.{generated_picture}
use Rattle.apv_encoding.specs.Settings.{Track}

-- the smaller of two numbers
abbrev pub smaller : ℕ → ℕ → ℕ
smaller a b = a - (a - b)

-- the minimum of a list of bytes, which of an empty one is 255
unfoldable pub minimum : List ℕ → ℕ
minimum [] = 255
minimum (value ∷ values) = smaller value (minimum values)

-- the QPs of access units
abbrev pub unit_qps : List EncodedUnit → List ℕ
unit_qps units = map (λ unit. unit.q) units

-- the file of access units, each after its size
abbrev pub file_of : List EncodedUnit → List ℕ
file_of units = flat_map (λ unit. sized unit.bytes) units

-- the samples that a decoder makes of the primary frame of an access unit
abbrev pub decoded_samples : Track → EncodedUnit → Samples
decoded_samples primary unit =
    sample (frame_with primary.header (primary.qps unit.q) (primary_levels unit)) (primary_levels unit)

-- for each access unit, the maximum difference between a sample of the generated picture and the decoded one, where the
-- pictures of the access units are the generated ones from the first on
abbrev pub peaks_from : ℕ → Track → ℕ → List EncodedUnit → List ℕ
peaks_from seed primary first [] = []
peaks_from seed primary first (unit ∷ units) =
    peak_difference (format_of primary.header.info) (generated_picture seed first) (decoded_samples primary unit)
    ∷ peaks_from seed primary (suc first) units

-- the report of access units of a generated video, whose primary frames are of this track
abbrev pub report_of : ℕ → Track → List EncodedUnit → Report
report_of seed primary units = record {
  seed = seed;
  frames = length units;
  bytes = length (file_of units);
  least_qp = minimum (unit_qps units);
  greatest_qp = maximum (unit_qps units);
  peak = maximum (peaks_from seed primary 0 units);
}

-- there is a report exactly where there is a seed, and it is that of the access units
abbrev pub IsReported : Option ℕ → Track → List EncodedUnit → Option Report → Type 0
IsReported None primary units report = report ≡ None
IsReported (Some seed) primary units report = report ≡ Some (report_of seed primary units)

-- ---- one access unit after another

-- the report of no access unit
abbrev pub empty_report : ℕ → Report
empty_report seed = record { seed = seed; frames = 0; bytes = 0; least_qp = 255; greatest_qp = 0; peak = 0 }

-- a report of one access unit more, of this QP, size and peak difference
abbrev pub added : Report → ℕ → ℕ → ℕ → Report
added report qp size peak = record {
  seed = report.seed;
  frames = report.frames + 1;
  bytes = report.bytes + (4 + size);
  least_qp = smaller report.least_qp qp;
  greatest_qp = larger report.greatest_qp qp;
  peak = larger report.peak peak;
}
