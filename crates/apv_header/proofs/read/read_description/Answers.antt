use Rattle.std.proofs.Common.{refl}
use Rattle.apv_header.proofs.FieldLemmas.{err-gives, cut-breaks, reads-walks, walks-walks, walks-breaks}
use Rattle.apv_header.proofs.read.read_description.Goals as goal

pub returns-in_err-primaries-clause-err : goal.returns-in_err-primaries-clause-err
returns-in_err-primaries-clause-err c = err-gives _ _ _ c.from_residual.ensures.1 (λ next. cut-breaks _ _ c.in_err-primaries.ensures.err)

pub returns-in_err-transfer-clause-err : goal.returns-in_err-transfer-clause-err
returns-in_err-transfer-clause-err c =
    err-gives _ _ _ c.from_residual-in_err-transfer.ensures.1 (λ next.
    walks-breaks (reads-walks _ _ _ c.in_ok-primaries.ensures.ok (λ left. refl)) (
    cut-breaks _ _ c.in_err-transfer.ensures.err))

pub returns-in_err-matrix-clause-err : goal.returns-in_err-matrix-clause-err
returns-in_err-matrix-clause-err c =
    err-gives _ _ _ c.from_residual-in_err-matrix.ensures.1 (λ next.
    walks-breaks (reads-walks _ _ _ c.in_ok-primaries.ensures.ok (λ left. refl)) (
    walks-breaks (reads-walks _ _ _ c.in_ok-transfer.ensures.ok (λ left. refl)) (
    cut-breaks _ _ c.in_err-matrix.ensures.err)))

pub returns-in_err-full_range-clause-err : goal.returns-in_err-full_range-clause-err
returns-in_err-full_range-clause-err c =
    err-gives _ _ _ c.from_residual-in_err-full_range.ensures.1 (λ next.
    walks-breaks (reads-walks _ _ _ c.in_ok-primaries.ensures.ok (λ left. refl)) (
    walks-breaks (reads-walks _ _ _ c.in_ok-transfer.ensures.ok (λ left. refl)) (
    walks-breaks (reads-walks _ _ _ c.in_ok-matrix.ensures.ok (λ left. refl)) (
    cut-breaks _ _ c.in_err-full_range.ensures.err))))

pub returns-clause-ok : goal.returns-clause-ok
returns-clause-ok c next =
    walks-walks (reads-walks _ _ _ c.in_ok-primaries.ensures.ok (λ left. refl)) (
    walks-walks (reads-walks _ _ _ c.in_ok-transfer.ensures.ok (λ left. refl)) (
    walks-walks (reads-walks _ _ _ c.in_ok-matrix.ensures.ok (λ left. refl)) (
    reads-walks _ _ _ c.in_ok-full_range.ensures.ok (λ left. refl))))
