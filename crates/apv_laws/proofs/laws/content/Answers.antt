use Rattle.apv_base.proofs.JudgeLemmas.{content-once}
use Rattle.apv_laws.proofs.ComponentLemmas.{component-once}
use Rattle.apv_laws.proofs.SomeBlockLemmas.{component-some}
use Rattle.apv_laws.proofs.SomeContentLemmas.{content-some}
use Rattle.apv_laws.proofs.laws.content.Goals as goal

pub returns-clause-once : goal.returns-clause-once
returns-clause-once c = content-once component-once

pub returns-clause-some : goal.returns-clause-some
returns-clause-some c = content-some component-some
