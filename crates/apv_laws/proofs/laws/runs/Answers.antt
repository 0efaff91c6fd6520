use Rattle.std.proofs.Common.{ap}
use Rattle.apv_base.specs.model.Output.{by_content, dec_out, dec_payloads}
use Rattle.apv_base.proofs.JudgeLemmas.{by_content-once}
use Rattle.apv_base.proofs.OneRunLemmas.{has-one-run}
use Rattle.apv_laws.proofs.ComponentLemmas.{component-once}
use Rattle.apv_laws.proofs.SomeBlockLemmas.{component-some}
use Rattle.apv_laws.proofs.SomeJudgeLemmas.{by_content-runs}
use Rattle.apv_laws.proofs.laws.runs.Goals as goal

pub returns-clause-one : goal.returns-clause-one
returns-clause-one c = λ settings. has-one-run (by_content settings) (by_content-once component-once settings)

pub returns-clause-some : goal.returns-clause-some
returns-clause-some c = λ settings. (by_content-runs component-once component-some settings).some

pub returns-clause-output : goal.returns-clause-output
returns-clause-output c =
    λ settings file units others exit other p q.
    let same = (has-one-run (by_content settings) (by_content-once component-once settings) file).one units others exit other p q in
    ap (dec_out settings) same.0

pub returns-clause-payloads : goal.returns-clause-payloads
returns-clause-payloads c =
    λ settings file units others exit other p q.
    let same = (has-one-run (by_content settings) (by_content-once component-once settings) file).one units others exit other p q in
    ap (dec_payloads settings) same.0
