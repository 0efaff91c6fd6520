use Rattle.std.proofs.Common.{sym, ◌∙◌, ◌≡◌, Some}
use Rattle.apv_base.specs.model.Format.{chroma_of, idc_of}
use Rattle.apv_header.proofs.FieldLemmas.{err-gives, cut-breaks, reads-walks, reads-breaks}
use Rattle.apv_header.proofs.InfoLemmas.{chroma-unknown, chroma-same, code-of}
use Rattle.apv_header.proofs.info.read_chroma.Goals as goal

pub returns-in_err-idc-clause-err : goal.returns-in_err-idc-clause-err
returns-in_err-idc-clause-err c = err-gives _ _ _ c.from_residual.ensures.1 (λ next. cut-breaks _ _ c.in_err-idc.ensures.err)

pub returns-in_default-clause-err : goal.returns-in_default-clause-err
returns-in_default-clause-err c next =
    reads-breaks _ _ next _ c.in_ok-idc.ensures.ok (chroma-unknown c.args.width c.args.height c.in_ok-idc.idc (sym c.of_idc.ensures ∙ c.in_default.is))

pub returns-in_err-check_frame_size-clause-err : goal.returns-in_err-check_frame_size-clause-err
returns-in_err-check_frame_size-clause-err c =
    err-gives _ _ _ c.from_residual-in_err-check_frame_size.ensures.1 (λ next.
    reads-breaks _ _ next _ c.in_ok-idc.ensures.ok (chroma-same c.args.width c.args.height c.in_ok-idc.idc c.in-Some.chroma _ (sym c.of_idc.ensures ∙ c.in-Some.is) c.in_err-check_frame_size.ensures.err))

pub returns-clause-ok : goal.returns-clause-ok
returns-clause-ok c next =
    let found : chroma_of c.in_ok-idc.idc ≡ Some c.in-Some.chroma = sym c.of_idc.ensures ∙ c.in-Some.is in
    let code : c.in_ok-idc.idc ≡ idc_of c.in-Some.chroma = code-of c.in_ok-idc.idc c.in-Some.chroma found in
    rw (← code) (reads-walks _ _ next c.in_ok-idc.ensures.ok (chroma-same c.args.width c.args.height c.in_ok-idc.idc c.in-Some.chroma _ found c.in_ok-check_frame_size.ensures.ok))
