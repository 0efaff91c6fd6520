use Rattle.std.proofs.Common.{◌∙◌, arith}
use Rattle.apv_unit.proofs.AuEntryLemmas.{has-count, count-is}
use Rattle.apv_unit.proofs.au_info.au_count.Goals as goal

pub be16-requires : goal.be16-requires
be16-requires c = has-count c.args.body.now c.requires.sound.0 c.requires.sound.1

pub returns : goal.returns
returns c values is = c.be16.ensures ∙ count-is c.args.body.now values (λ i. omega (arith, c.type_inv.body i)) is
