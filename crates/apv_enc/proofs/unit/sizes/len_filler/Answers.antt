use Rattle.apv_enc.proofs.PartSizeLemmas.{filler-size}
use Rattle.apv_enc.proofs.unit.sizes.len_filler.Goals as goal

pub returns-in-Some-clause-size : goal.returns-in-Some-clause-size
returns-in-Some-clause-size c = rw c.in-Some.is (filler-size c.in-Some.count)
