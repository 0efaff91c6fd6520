use Rattle.std.proofs.Common.{refl, arith}
use Rattle.apv_header.proofs.FieldLemmas.{err-gives, cut-breaks, reads-walks, walks-walks, walks-breaks}
use Rattle.apv_header.proofs.InfoLemmas.{info-format}
use Rattle.apv_header.proofs.info.read_info.Goals as goal

pub returns-in_err-profile-clause-err : goal.returns-in_err-profile-clause-err
returns-in_err-profile-clause-err c = err-gives _ _ _ c.from_residual.ensures.1 (λ next. c.in_err-profile.ensures.err _)

pub returns-in_err-width-clause-err : goal.returns-in_err-width-clause-err
returns-in_err-width-clause-err c =
    err-gives _ _ _ c.from_residual-in_err-width.ensures.1 (λ next.
    walks-breaks (c.in_ok-profile.ensures.ok _) (
    c.in_err-width.ensures.err _))

pub returns-in_err-depth-clause-err : goal.returns-in_err-depth-clause-err
returns-in_err-depth-clause-err c =
    err-gives _ _ _ c.from_residual-in_err-depth.ensures.1 (λ next.
    walks-breaks (c.in_ok-profile.ensures.ok _) (
    walks-breaks (c.in_ok-width.ensures.ok _) (
    c.in_err-depth.ensures.err _)))

pub returns-in_err-capture-clause-err : goal.returns-in_err-capture-clause-err
returns-in_err-capture-clause-err c =
    err-gives _ _ _ c.from_residual-in_err-capture.ensures.1 (λ next.
    walks-breaks (c.in_ok-profile.ensures.ok _) (
    walks-breaks (c.in_ok-width.ensures.ok _) (
    walks-breaks (c.in_ok-depth.ensures.ok _) (
    cut-breaks _ _ c.in_err-capture.ensures.err))))

pub returns-in_err-read_reserved-clause-err : goal.returns-in_err-read_reserved-clause-err
returns-in_err-read_reserved-clause-err c =
    err-gives _ _ _ c.from_residual-in_err-read_reserved.ensures.1 (λ next.
    walks-breaks (c.in_ok-profile.ensures.ok _) (
    walks-breaks (c.in_ok-width.ensures.ok _) (
    walks-breaks (c.in_ok-depth.ensures.ok _) (
    walks-breaks (reads-walks _ _ _ c.in_ok-capture.ensures.ok (λ left. refl)) (
    c.in_err-read_reserved.ensures.err _)))))

pub returns-clause-ok : goal.returns-clause-ok
returns-clause-ok c next =
    info-format c.in_ok-width.width c.in_ok-width.height c.in_ok-depth.depth c.in_ok-width.chroma next (omega (arith, c.in_ok-depth.ensures.known.0)) (
    walks-walks (c.in_ok-profile.ensures.ok _) (
    walks-walks (c.in_ok-width.ensures.ok _) (
    walks-walks (c.in_ok-depth.ensures.ok _) (
    walks-walks (reads-walks _ _ _ c.in_ok-capture.ensures.ok (λ left. refl)) (
    c.in_ok-read_reserved.ensures.ok _)))))
