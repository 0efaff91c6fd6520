use Rattle.apv_quant.proofs.SomeLevelLemmas.{some-level}
use Rattle.apv_quant.proofs.laws.some_nearest.Goals as goal

pub returns : goal.returns
returns c = some-level
