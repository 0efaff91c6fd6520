use Rattle.apv_grid.proofs.PartLemmas.{values-of-tile}
use Rattle.apv_grid.proofs.laws.run_of_a_tile.Goals as goal

pub returns : goal.returns
returns c = values-of-tile
