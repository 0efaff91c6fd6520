use Rattle.apv_encoding.proofs.ChosenLemmas.{chosen-once, chosen-some}
use Rattle.apv_encoding.proofs.laws.chosen.Goals as goal

pub returns-clause-once : goal.returns-clause-once
returns-clause-once c = chosen-once c.one_nearest.ensures

pub returns-clause-some : goal.returns-clause-some
returns-clause-some c = chosen-some c.one_nearest.ensures
