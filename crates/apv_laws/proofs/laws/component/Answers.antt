use Rattle.apv_laws.proofs.ComponentLemmas.{component-once}
use Rattle.apv_laws.proofs.SomeBlockLemmas.{component-some}
use Rattle.apv_laws.proofs.laws.component.Goals as goal

pub returns-clause-once : goal.returns-clause-once
returns-clause-once c = component-once

pub returns-clause-some : goal.returns-clause-some
returns-clause-some c = component-some
