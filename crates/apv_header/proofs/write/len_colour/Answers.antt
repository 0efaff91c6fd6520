use Rattle.std.proofs.Common.{sym, ◌∙◌}
use Rattle.apv_header.proofs.LengthLemmas.{length-described, length-undescribed}
use Rattle.apv_header.proofs.write.len_colour.Goals as goal

pub returns-then-is_some-clause-bits : goal.returns-then-is_some-clause-bits
returns-then-is_some-clause-bits c = length-described c.args.colour.now (sym c.if-is_some.true ∙ c.is_some.ensures)

pub returns-else-is_some-clause-bits : goal.returns-else-is_some-clause-bits
returns-else-is_some-clause-bits c = length-undescribed c.args.colour.now (sym c.if-is_some.false ∙ c.is_some.ensures)
