use Rattle.apv_grid.proofs.LawLemmas.{coded-in-block}
use Rattle.apv_grid.proofs.laws.samples_of_a_block.Goals as goal

pub returns : goal.returns
returns c = coded-in-block
