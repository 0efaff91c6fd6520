use Rattle.apv_base.proofs.JudgeLemmas.{unit-once}
use Rattle.apv_laws.proofs.ComponentLemmas.{component-once}
use Rattle.apv_laws.proofs.SomeBlockLemmas.{component-some}
use Rattle.apv_laws.proofs.SomeJudgeLemmas.{unit-some}
use Rattle.apv_laws.proofs.laws.unit.Goals as goal

pub returns-clause-once : goal.returns-clause-once
returns-clause-once c = unit-once component-once

pub returns-clause-some : goal.returns-clause-some
returns-clause-some c = unit-some component-some
