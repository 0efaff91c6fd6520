use Rattle.apv_base.proofs.SoundLemmas.{by_structure-runs}
use Rattle.apv_base.proofs.laws.runs.Goals as goal

pub returns : goal.returns
returns c = by_structure-runs
