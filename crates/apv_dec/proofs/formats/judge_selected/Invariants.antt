use Rattle.apv_base.specs.model.Judge.{DecodedUnit}
use Rattle.apv_dec.specs.Judged.{IsJudged}
use Rattle.apv_dec.specs.Outputs.{output_settings}
use Rattle.apv_dec.proofs.FormatLemmas.{AgreeSoFar}
use Rattle.apv_dec.proofs.formats.judge_selected.Given as goal

-- the formats of the selected frames of the PBUs that were passed agree
abbrev pub invariant-loop-pbu : goal.invariant-loop-pbu
invariant-loop-pbu l =
    (goal.iterator-loop-pbu).can_next l.pbu-iterator
    × (goal.iterator-loop-pbu).is_finite l.pbu-iterator
    × ((unit : DecodedUnit) → IsJudged l.settings.strict l.unit l.frames unit
    → AgreeSoFar (output_settings l.settings) unit l.frames l.pbu-iterator l.index l.fn.first l.first)
