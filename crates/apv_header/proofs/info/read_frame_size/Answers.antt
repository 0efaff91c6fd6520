use Rattle.std.proofs.Common.{refl}
use Rattle.apv_header.proofs.FieldLemmas.{err-gives, cut-breaks, reads-walks, walks-walks, walks-breaks}
use Rattle.apv_header.proofs.info.read_frame_size.Goals as goal

pub returns-in_err-width-clause-err : goal.returns-in_err-width-clause-err
returns-in_err-width-clause-err c = err-gives _ _ _ c.from_residual.ensures.1 (λ next. cut-breaks _ _ c.in_err-width.ensures.err)

pub returns-in_err-height-clause-err : goal.returns-in_err-height-clause-err
returns-in_err-height-clause-err c =
    err-gives _ _ _ c.from_residual-in_err-height.ensures.1 (λ next.
    walks-breaks (reads-walks _ _ _ c.in_ok-width.ensures.ok (λ left. refl)) (
    cut-breaks _ _ c.in_err-height.ensures.err))

pub returns-in_err-chroma-clause-err : goal.returns-in_err-chroma-clause-err
returns-in_err-chroma-clause-err c =
    err-gives _ _ _ c.from_residual-in_err-chroma.ensures.1 (λ next.
    walks-breaks (reads-walks _ _ _ c.in_ok-width.ensures.ok (λ left. refl)) (
    walks-breaks (reads-walks _ _ _ c.in_ok-height.ensures.ok (λ left. refl)) (
    c.in_err-chroma.ensures.err _)))

pub returns-clause-ok : goal.returns-clause-ok
returns-clause-ok c next =
    walks-walks (reads-walks _ _ _ c.in_ok-width.ensures.ok (λ left. refl)) (
    walks-walks (reads-walks _ _ _ c.in_ok-height.ensures.ok (λ left. refl)) (
    c.in_ok-chroma.ensures.ok _))
