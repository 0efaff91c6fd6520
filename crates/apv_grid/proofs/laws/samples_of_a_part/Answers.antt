use Rattle.apv_grid.proofs.PartLemmas.{samples-in-parts}
use Rattle.apv_grid.proofs.laws.samples_of_a_part.Goals as goal

pub returns : goal.returns
returns c = samples-in-parts
