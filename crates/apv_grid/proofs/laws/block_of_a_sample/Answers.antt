use Rattle.apv_grid.proofs.LawLemmas.{sample-in-block}
use Rattle.apv_grid.proofs.laws.block_of_a_sample.Goals as goal

pub returns : goal.returns
returns c = sample-in-block
