use Rattle.std.proofs.Common.{refl}
use Rattle.apv_header.proofs.FieldLemmas.{err-gives, cut-breaks, reads-walks, walks-walks, walks-breaks}
use Rattle.apv_header.proofs.PartLemmas.{flag-read}
use Rattle.apv_header.proofs.read.read_colour.Goals as goal

pub returns-in_err-present-clause-err : goal.returns-in_err-present-clause-err
returns-in_err-present-clause-err c = err-gives _ _ _ c.from_residual.ensures.1 (λ next. cut-breaks _ _ c.in_err-present.ensures.err)

pub returns-then-not-present-clause-ok : goal.returns-then-not-present-clause-ok
returns-then-not-present-clause-ok c next = reads-walks _ _ _ (flag-read c.in_ok-present.ensures.ok c.if-not-present.true) (λ left. refl)

pub returns-in_err-colour-clause-err : goal.returns-in_err-colour-clause-err
returns-in_err-colour-clause-err c =
    err-gives _ _ _ c.from_residual-in_err-colour.ensures.1 (λ next.
    walks-breaks (reads-walks _ _ _ (flag-read c.in_ok-present.ensures.ok c.if-not-present.false) (λ left. refl)) (
    c.in_err-colour.ensures.err _))

pub returns-clause-ok : goal.returns-clause-ok
returns-clause-ok c next =
    walks-walks (reads-walks _ _ _ (flag-read c.in_ok-present.ensures.ok c.if-not-present.false) (λ left. refl)) (
    c.in_ok-colour.ensures.ok _)
