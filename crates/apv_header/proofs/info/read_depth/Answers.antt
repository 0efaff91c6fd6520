use Rattle.std.proofs.Common.{sym, ◌∙◌, ◌≡◌, ◌+◌, ◌-◌, arith}
use Rattle.apv_base.specs.model.Format.{idc_of}
use Rattle.apv_header.proofs.FieldLemmas.{err-gives, cut-breaks, reads-walks, reads-breaks}
use Rattle.apv_header.proofs.InfoLemmas.{depth-outside, depth-refused, depth-passes}
use Rattle.apv_header.proofs.info.read_depth.Goals as goal

pub returns-in_err-value-clause-err : goal.returns-in_err-value-clause-err
returns-in_err-value-clause-err c = err-gives _ _ _ c.from_residual.ensures.1 (λ next. cut-breaks _ _ c.in_err-value.ensures.err)

pub returns-then-value-lt2-clause-err : goal.returns-then-value-lt2-clause-err
returns-then-value-lt2-clause-err c next =
    reads-breaks _ _ next _ c.in_ok-value.ensures.ok (depth-outside c.args.profile (idc_of c.args.chroma) c.in_ok-value.value c.then-value-lt2.either)

pub returns-then-not-profile_takes-clause-err : goal.returns-then-not-profile_takes-clause-err
returns-then-not-profile_takes-clause-err c next =
    reads-breaks _ _ next _ c.in_ok-value.ensures.ok (depth-refused c.args.profile c.in_ok-value.value c.args.chroma c.if-value-lt2.false c.if-value-gt4.false (sym c.profile_takes.ensures ∙ c.if-not-profile_takes.true))

pub returns-clause-ok : goal.returns-clause-ok
returns-clause-ok c next =
    let back : c.in_ok-value.value + 8 - 8 ≡ c.in_ok-value.value = omega arith in
    rw back (reads-walks _ _ next c.in_ok-value.ensures.ok (depth-passes c.args.profile c.in_ok-value.value c.args.chroma c.if-value-lt2.false c.if-value-gt4.false (sym c.profile_takes.ensures ∙ c.if-not-profile_takes.false)))
