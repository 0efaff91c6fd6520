use Rattle.apv_grid.proofs.PartLemmas.{splits-into-runs}
use Rattle.apv_grid.proofs.laws.halves_of_a_run.Goals as goal

pub returns : goal.returns
returns c = splits-into-runs
