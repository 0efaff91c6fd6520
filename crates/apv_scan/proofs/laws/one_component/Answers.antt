use Rattle.apv_scan.proofs.ComponentLemmas.{one_component}
use Rattle.apv_scan.proofs.laws.one_component.Goals as goal

pub returns : goal.returns
returns c = one_component
