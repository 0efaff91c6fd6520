use Rattle.apv_workers.proofs.SomeLevelsLemmas.{some-levels}
use Rattle.apv_workers.proofs.laws.some_levels.Goals as goal

pub returns : goal.returns
returns c = some-levels c.some_nearest.ensures
