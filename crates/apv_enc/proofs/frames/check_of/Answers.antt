use Rattle.std.proofs.Common.{◌∙◌}
use Rattle.apv_enc.proofs.ReportLemmas.{none-reported}
use Rattle.apv_enc.proofs.frames.check_of.Goals as goal

pub returns-in-Some : goal.returns-in-Some
returns-in-Some c primary = rw c.in-Some.is (c.new.ensures ∙ none-reported c.in-Some.seed primary)
