use Rattle.std.proofs.Common.{◌≡◌, false, subst, rules}
use Rattle.std.proofs.lemmas.Result.{err_from_is_err_and}
use Rattle.apv_scan.specs.Walk.{Progress, EndsBlock, BreaksNext}
use Rattle.apv_scan.proofs.tables.cursor.Cursor.begin.Goals as goal

pub returns-in_err-next_step-clause-err : goal.returns-in_err-next_step-clause-err
returns-in_err-next_step-clause-err c =
    let p = err_from_is_err_and c.from_residual.result c.from_residual.ensures.1 in
    let P : Progress → Type 0 = λ now. BreaksNext now c.in_err-next_step.field-0.0 in
    rw (p.1, p.2) (subst P c.in_default.ensures.same c.in_err-next_step.ensures)

pub returns-then-not-branch-clause-ends : goal.returns-then-not-branch-clause-ends
returns-then-not-branch-clause-ends c =
    let no : c.in_ok-next_step.field-0 ≡ false = search rules in
    let P : Progress → Type 0 = λ now. EndsBlock now c.next_step.new.self.reader in
    subst P c.in_default.ensures.same (rw no at c.in_ok-next_step.ensures.ends)
