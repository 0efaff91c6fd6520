use Rattle.std.proofs.lemmas.Result.{err_from_is_err_and, MatchResult-weaker}
use Rattle.apv_unit.proofs.AuInfoLemmas.{entry-group, entry-band, entry-capture, entry-passes}
use Rattle.apv_unit.proofs.au_info.pass_entry.Goals as goal

pub returns-in_err-pass_reserved : goal.returns-in_err-pass_reserved
returns-in_err-pass_reserved c =
    let p = err_from_is_err_and c.from_residual.result c.from_residual.ensures.1 in
    rw (p.1, p.2) (entry-group c.args.reader.now.left c.in_err-pass_reserved.field-0.0 c.in_err-pass_reserved.ensures)

pub returns-in_err-pass_reserved-2 : goal.returns-in_err-pass_reserved-2
returns-in_err-pass_reserved-2 c =
    let p = err_from_is_err_and c.from_residual-in_err-pass_reserved-2.result c.from_residual-in_err-pass_reserved-2.ensures.1 in
    rw (p.1, p.2)
    (entry-band c.args.reader.now.left c.pass_reserved.new.reader.left c.in_err-pass_reserved-2.field-0.0 c.in_ok-pass_reserved.ensures c.in_err-pass_reserved-2.ensures)

pub returns : goal.returns
returns c =
    MatchResult-weaker c.pass_reserved-3.result c.pass_reserved-3.ensures
    (λ _ p. entry-passes c.args.reader.now.left c.pass_reserved.new.reader.left c.pass_reserved-2.new.reader.left c.pass_reserved-3.new.reader.left c.in_ok-pass_reserved.ensures c.in_ok-pass_reserved-2.ensures p)
    (λ end b. entry-capture c.args.reader.now.left c.pass_reserved.new.reader.left c.pass_reserved-2.new.reader.left end c.in_ok-pass_reserved.ensures c.in_ok-pass_reserved-2.ensures b)
