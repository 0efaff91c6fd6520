use Rattle.std.proofs.Common.{sym, arith}
use Rattle.apv_dec.proofs.FormatLemmas.{first-refused, other-refused}
use Rattle.apv_dec.proofs.formats.next_format.Goals as goal

pub returns-in-None-tag_of : goal.returns-in-None-tag_of
returns-in-None-tag_of c before are first = first-refused before c.args.first c.args.format c.in-None.is first (sym c.in-None-tag_of.ensures)

pub returns-else-eq : goal.returns-else-eq
returns-else-eq c before are first = other-refused before c.args.first c.in-Some.first c.args.format c.in-Some.is are first (λ e. grind (arith, e, c.if-eq.ensures))
