use Rattle.apv_tile.proofs.TransformLemmas.{samples_by_matrix}
use Rattle.apv_tile.proofs.laws.samples_of_a_frame.Goals as goal

pub returns : goal.returns
returns c = samples_by_matrix
