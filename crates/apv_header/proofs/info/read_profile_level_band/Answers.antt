use Rattle.std.proofs.Common.{refl}
use Rattle.apv_header.proofs.FieldLemmas.{err-gives, cut-breaks, reads-walks, walks-walks, walks-breaks}
use Rattle.apv_header.proofs.info.read_profile_level_band.Goals as goal

pub returns-in_err-profile-clause-err : goal.returns-in_err-profile-clause-err
returns-in_err-profile-clause-err c = err-gives _ _ _ c.from_residual.ensures.1 (λ next. c.in_err-profile.ensures.err _)

pub returns-in_err-level-clause-err : goal.returns-in_err-level-clause-err
returns-in_err-level-clause-err c =
    err-gives _ _ _ c.from_residual-in_err-level.ensures.1 (λ next. walks-breaks (c.in_ok-profile.ensures.ok _) (cut-breaks _ _ c.in_err-level.ensures.err))

pub returns-in_err-band-clause-err : goal.returns-in_err-band-clause-err
returns-in_err-band-clause-err c =
    err-gives _ _ _ c.from_residual-in_err-band.ensures.1 (λ next.
    walks-breaks (c.in_ok-profile.ensures.ok _) (
    walks-breaks (reads-walks _ _ _ c.in_ok-level.ensures.ok (λ left. refl)) (
    cut-breaks _ _ c.in_err-band.ensures.err)))

pub returns-in_err-read_reserved-clause-err : goal.returns-in_err-read_reserved-clause-err
returns-in_err-read_reserved-clause-err c =
    err-gives _ _ _ c.from_residual-in_err-read_reserved.ensures.1 (λ next.
    walks-breaks (c.in_ok-profile.ensures.ok _) (
    walks-breaks (reads-walks _ _ _ c.in_ok-level.ensures.ok (λ left. refl)) (
    walks-breaks (reads-walks _ _ _ c.in_ok-band.ensures.ok (λ left. refl)) (
    c.in_err-read_reserved.ensures.err _))))

pub returns-clause-ok : goal.returns-clause-ok
returns-clause-ok c next =
    walks-walks (c.in_ok-profile.ensures.ok _) (
    walks-walks (reads-walks _ _ _ c.in_ok-level.ensures.ok (λ left. refl)) (
    walks-walks (reads-walks _ _ _ c.in_ok-band.ensures.ok (λ left. refl)) (
    c.in_ok-read_reserved.ensures.ok _)))
