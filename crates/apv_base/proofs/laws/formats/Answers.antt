use Rattle.apv_base.proofs.FormatLemmas.{formats-once, formats-some}
use Rattle.apv_base.proofs.laws.formats.Goals as goal

pub returns-clause-once : goal.returns-clause-once
returns-clause-once c = formats-once

pub returns-clause-some : goal.returns-clause-some
returns-clause-some c = formats-some
