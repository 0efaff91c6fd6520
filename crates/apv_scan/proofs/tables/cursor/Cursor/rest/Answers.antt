use Rattle.std.proofs.Common.{◌≡◌, false, rules, arith}
use Rattle.std.proofs.lemmas.Result.{err_from_is_err_and}
use Rattle.apv_scan.specs.Cursor.{progress_of}
use Rattle.apv_scan.proofs.CursorLemmas.{goes_both, ends_full, stops_later, finishes}
use Rattle.apv_scan.proofs.tables.cursor.Cursor.rest.Goals as goal

pub returns-then-self-eq64-clause-ok : goal.returns-then-self-eq64-clause-ok
returns-then-self-eq64-clause-ok c =
    finishes (progress_of c.args.self.now c.args.levels.now) (progress_of c.steps_by_table.new.self c.steps_by_table.new.levels) c.steps_by_table.new.self.reader
    (goes_both _ (progress_of c.loop-self.self c.loop-self.levels) _ c.loop-self.invariant c.steps_by_table.ensures) (omega arith)
    (ends_full (progress_of c.steps_by_table.new.self c.steps_by_table.new.levels) (omega arith))

pub returns-in_err-next_step-clause-err : goal.returns-in_err-next_step-clause-err
returns-in_err-next_step-clause-err c =
    let p = err_from_is_err_and c.from_residual.result c.from_residual.ensures.1 in
    rw (p.1, p.2)
    (stops_later (progress_of c.args.self.now c.args.levels.now) (progress_of c.steps_by_table.new.self c.steps_by_table.new.levels) _
    (goes_both _ (progress_of c.loop-self.self c.loop-self.levels) _ c.loop-self.invariant c.steps_by_table.ensures) c.in_err-next_step.ensures)

pub returns-then-not-branch-clause-ok : goal.returns-then-not-branch-clause-ok
returns-then-not-branch-clause-ok c =
    let no : c.in_ok-next_step.field-0 ≡ false = search rules in
    rw (rw no at c.in_ok-next_step.ensures.same)
    (finishes (progress_of c.args.self.now c.args.levels.now) (progress_of c.steps_by_table.new.self c.steps_by_table.new.levels) c.next_step.new.self.reader
    (goes_both _ (progress_of c.loop-self.self c.loop-self.levels) _ c.loop-self.invariant c.steps_by_table.ensures) (omega arith) (rw no at c.in_ok-next_step.ensures.ends))
