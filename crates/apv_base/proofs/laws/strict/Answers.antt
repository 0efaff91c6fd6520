use Rattle.apv_base.proofs.StrictLemmas.{strict-once, strict-some}
use Rattle.apv_base.proofs.laws.strict.Goals as goal

pub returns-clause-once : goal.returns-clause-once
returns-clause-once c = strict-once

pub returns-clause-some : goal.returns-clause-some
returns-clause-some c = strict-some
