use Rattle.std.proofs.Common.{subst}
use Rattle.apv_scan.specs.Cursor.{progress_of}
use Rattle.apv_scan.specs.Walk.{Progress, ReadsStep}
use Rattle.apv_scan.proofs.tables.cursor.Cursor.next_step.Goals as goal

pub returns : goal.returns
returns c =
    let P : Progress → Type 0 = λ old. ReadsStep old c.decode_step.result (progress_of c.decode_step.new.self c.decode_step.new.levels) in
    subst P c.if-step_by_table.ensures.same c.decode_step.ensures
