use Rattle.apv_search.proofs.SizeLemmas.{one-choice}
use Rattle.apv_search.proofs.laws.one_choice.Goals as goal

pub returns : goal.returns
returns c = one-choice c.one_nearest.ensures
