-- What is kept of the access units of a generated video.
use Rattle.std.specs.Prelude.{◌≡◌, ℕ, List, Option, Some, None}
use Rattle.apv_console.specs.declared.report.Report.{Report}
use Rattle.apv_encoding.specs.AccessUnit.{EncodedUnit}
use Rattle.apv_encoding.specs.Settings.{Track}
use Rattle.apv_enc.specs.Report.{report_of}
use Rattle.apv_enc.specs.declared.check.Check.{Check}

abbrev pub report_in : Check → Report
report_in check = check.report

-- there is a check exactly where there is a seed, and its report is that of the access units
abbrev pub IsCheckOf : Option ℕ → Track → List EncodedUnit → Option Check → Type 0
IsCheckOf None primary units check = check ≡ None
IsCheckOf (Some seed) primary units None = ⊥
IsCheckOf (Some seed) primary units (Some check) = report_in check ≡ report_of seed primary units

-- the report of a check, where there is one
abbrev pub report_by : Option Check → Option Report
report_by None = None
report_by (Some check) = Some (report_in check)
