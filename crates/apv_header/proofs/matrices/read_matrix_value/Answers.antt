use Rattle.apv_header.proofs.FieldLemmas.{err-gives, cut-breaks, reads-walks, reads-breaks}
use Rattle.apv_header.proofs.PartLemmas.{matrix_value-passes, matrix_value-fault}
use Rattle.apv_header.proofs.matrices.read_matrix_value.Goals as goal

pub returns-in_err-value-clause-err : goal.returns-in_err-value-clause-err
returns-in_err-value-clause-err c = err-gives _ _ _ c.from_residual.ensures.1 (λ next. cut-breaks _ _ c.in_err-value.ensures.err)

pub returns-then-value-eq0-clause-err : goal.returns-then-value-eq0-clause-err
returns-then-value-eq0-clause-err c next = reads-breaks _ _ next _ c.in_ok-value.ensures.ok (matrix_value-fault c.in_ok-value.value c.if-value-eq0.true)

pub returns-clause-ok : goal.returns-clause-ok
returns-clause-ok c next = reads-walks _ _ next c.in_ok-value.ensures.ok (matrix_value-passes c.in_ok-value.value c.if-value-eq0.false)
