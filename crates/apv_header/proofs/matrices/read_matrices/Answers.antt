use Rattle.std.proofs.Common.{◌≡◌, ◌∙◌, refl}
use Rattle.apv_base.specs.model.Format.{comps_of}
use Rattle.apv_header.proofs.FieldLemmas.{err-gives, cut-breaks, reads-walks, walks-walks, walks-breaks}
use Rattle.apv_header.proofs.PartLemmas.{flag-read, comps-breaks, comps-walks}
use Rattle.apv_header.proofs.matrices.read_matrices.Goals as goal

pub returns-in_err-present-clause-err : goal.returns-in_err-present-clause-err
returns-in_err-present-clause-err c = err-gives _ _ _ c.from_residual.ensures.1 (λ next. cut-breaks _ _ c.in_err-present.ensures.err)

pub returns-then-not-present-clause-ok : goal.returns-then-not-present-clause-ok
returns-then-not-present-clause-ok c next = reads-walks _ _ _ (flag-read c.in_ok-present.ensures.ok c.if-not-present.true) (λ left. refl)

pub returns-in_err-matrices-clause-err : goal.returns-in_err-matrices-clause-err
returns-in_err-matrices-clause-err c =
    let comps : c.from.result ≡ comps_of c.args.chroma = c.from.ensures ∙ c.comps.ensures in
    err-gives _ _ _ c.from_residual-in_err-matrices.ensures.1 (λ next.
    walks-breaks (reads-walks _ _ _ (flag-read c.in_ok-present.ensures.ok c.if-not-present.false) (λ left. refl)) (
    comps-breaks c.from.result (comps_of c.args.chroma) next comps (c.in_err-matrices.ensures.err next)))

pub returns-clause-ok : goal.returns-clause-ok
returns-clause-ok c next =
    let comps : c.from.result ≡ comps_of c.args.chroma = c.from.ensures ∙ c.comps.ensures in
    walks-walks (reads-walks _ _ _ (flag-read c.in_ok-present.ensures.ok c.if-not-present.false) (λ left. refl)) (
    comps-walks c.from.result (comps_of c.args.chroma) c.in_ok-matrices.matrices next comps (c.in_ok-matrices.ensures.ok next))
