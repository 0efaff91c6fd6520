use Rattle.apv_header.proofs.FieldLemmas.{err-gives, cut-breaks, zero-breaks, zero-walks}
use Rattle.apv_header.proofs.fields.read_reserved.Goals as goal

pub returns-in_err-read_field-clause-err : goal.returns-in_err-read_field-clause-err
returns-in_err-read_field-clause-err c = err-gives _ _ _ c.from_residual.ensures.1 (λ next. cut-breaks _ _ c.in_err-read_field.ensures.err)

pub returns-then-branch-ne0-clause-err : goal.returns-then-branch-ne0-clause-err
returns-then-branch-ne0-clause-err c next = zero-breaks _ next c.in_ok-read_field.ensures.ok c.if-branch-ne0.true

pub returns-clause-ok : goal.returns-clause-ok
returns-clause-ok c next = zero-walks _ next c.in_ok-read_field.ensures.ok c.if-branch-ne0.false
