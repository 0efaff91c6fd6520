use Rattle.apv_quant.proofs.LawLemmas.{one_nearest}
use Rattle.apv_quant.proofs.laws.one_nearest.Goals as goal

pub returns : goal.returns
returns c = one_nearest
