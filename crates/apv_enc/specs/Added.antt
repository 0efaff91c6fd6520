-- What a check becomes of one access unit more.
use Rattle.std.specs.Prelude.{◌≡◌, ℕ, ◌≤◌, List, ◌∷◌, Option, Some, None, false}
use Rattle.apv_base.specs.model.Header.{format_of}
use Rattle.apv_base.specs.model.Judge.{DecodedFrame, DecodedUnit, IsValidUnit}
use Rattle.apv_base.specs.model.Picture.{sample}
use Rattle.apv_console.specs.declared.report.Report.{Report}
use Rattle.apv_encoding.specs.Difference.{peak_difference}
use Rattle.apv_encoding.specs.Generated.{generated_picture}
use Rattle.apv_search.specs.declared.choice.Chosen.{Chosen}
use Rattle.apv_enc.specs.Check.{report_in}
use Rattle.apv_enc.specs.Report.{added}
use Rattle.apv_enc.specs.declared.check.Check.{Check}

-- bytes are a valid access unit, and this is its first frame
pub record HasFirstFrame (bytes : List ℕ) (first : DecodedFrame) : Type 0 where
  pub unit : DecodedUnit
  pub more : List DecodedFrame
  pub of_bytes : unit.bytes ≡ bytes
  pub valid : IsValidUnit false unit
  pub frames : unit.frames ≡ first ∷ more

-- a report of one access unit more, whose first frame is this one
abbrev pub report_with : Report → Chosen → DecodedFrame → Report
report_with report chosen first =
    added report chosen.qp chosen.size (peak_difference (format_of first.frame.header.info)
    (generated_picture report.seed report.frames) (sample first.frame first.levels))

-- where there is a check, it took up the access unit of these bytes
abbrev pub IsAddedTo : Option Check → Chosen → List ℕ → Option Check → Type 0
IsAddedTo None chosen bytes new = new ≡ None
IsAddedTo (Some old) chosen bytes None = ⊥
IsAddedTo (Some old) chosen bytes (Some new) =
    ((first : DecodedFrame) → HasFirstFrame bytes first
    → report_in new ≡ report_with (report_in old) chosen first) × (chosen.qp ≤ 255)
