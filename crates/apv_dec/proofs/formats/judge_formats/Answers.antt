use Rattle.std.proofs.Common.{◌∙◌, sym}
use Rattle.apv_dec.specs.Outputs.{output_settings}
use Rattle.apv_dec.proofs.FormatLemmas.{units-judged}
use Rattle.apv_dec.proofs.formats.judge_formats.Goals as goal

pub returns-then-wants_format : goal.returns-then-wants_format
returns-then-wants_format c before judged agree first is =
    units-judged (output_settings c.args.settings.now) before judged c.args.first c.judge_selected.result (sym c.wants_format.ensures ∙ c.if-wants_format.true) agree first
    (λ all are e. c.judge_selected.ensures all judged are e is)
