use Rattle.std.proofs.Common.{sym, ◌∙◌}
use Rattle.apv_header.proofs.FieldLemmas.{err-gives, cut-breaks, reads-walks, reads-breaks}
use Rattle.apv_header.proofs.InfoLemmas.{profile-passes, profile-fault}
use Rattle.apv_header.proofs.info.read_profile.Goals as goal

pub returns-in_err-profile-clause-err : goal.returns-in_err-profile-clause-err
returns-in_err-profile-clause-err c = err-gives _ _ _ c.from_residual.ensures.1 (λ next. cut-breaks _ _ c.in_err-profile.ensures.err)

pub returns-then-not-profile_known-clause-err : goal.returns-then-not-profile_known-clause-err
returns-then-not-profile_known-clause-err c next =
    reads-breaks _ _ next _ c.in_ok-profile.ensures.ok (profile-fault c.in_ok-profile.profile (sym c.profile_known.ensures ∙ c.if-not-profile_known.true))

pub returns-clause-ok : goal.returns-clause-ok
returns-clause-ok c next =
    reads-walks _ _ next c.in_ok-profile.ensures.ok (profile-passes c.in_ok-profile.profile (sym c.profile_known.ensures ∙ c.if-not-profile_known.false))
