use Rattle.std.proofs.Common.{arith}
use Rattle.apv_enc.proofs.PartSizeLemmas.{au-part-size}
use Rattle.apv_enc.proofs.unit.sizes.len_au_info.Goals as goal

pub returns-then-asked-clause-size : goal.returns-then-asked-clause-size
returns-then-asked-clause-size c listed e = omega (arith, e, au-part-size c.args.asked listed c.if-asked.true)
