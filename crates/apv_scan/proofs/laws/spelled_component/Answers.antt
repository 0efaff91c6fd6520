use Rattle.apv_scan.proofs.ComponentLemmas.{spelled}
use Rattle.apv_scan.proofs.laws.spelled_component.Goals as goal

pub returns : goal.returns
returns c = spelled
