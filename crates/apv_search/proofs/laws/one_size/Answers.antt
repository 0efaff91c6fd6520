use Rattle.apv_search.proofs.SizeLemmas.{one-size}
use Rattle.apv_search.proofs.laws.one_size.Goals as goal

pub returns : goal.returns
returns c = one-size c.one_nearest.ensures
