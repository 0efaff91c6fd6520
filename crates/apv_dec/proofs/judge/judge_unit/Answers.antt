use Rattle.std.proofs.Common.{sym, subst}
use Rattle.apv_base.specs.declared.exits.Exit.{Exit}
use Rattle.apv_dec.specs.Judged.{IsRefused, breaks}
use Rattle.apv_dec.proofs.JudgeLemmas.{judged, frames-refused}
use Rattle.apv_dec.proofs.judge.judge_unit.Goals as goal

pub returns-in-Err-clause-err : goal.returns-in-Err-clause-err
returns-in-Err-clause-err g c =
    subst (λ (x : Exit). IsRefused c.args.strictly c.args.number c.args.unit.now x) (sym c.unit_exit.ensures) (breaks c.in-Err.end c.in-Err.ensures)

pub returns-in-Ok-decode-clause-ok : goal.returns-in-Ok-decode-clause-ok
returns-in-Ok-decode-clause-ok g c =
    let passes = c.in-Ok.ensures in
    judged c.args.strictly c.args.unit.now c.decode.new.self passes.0 passes.1 (c.in-Ok-decode.ensures.ok passes.0 passes.1.structure)

pub returns-in-Err-decode-clause-err : goal.returns-in-Err-decode-clause-err
returns-in-Err-decode-clause-err g c =
    let passes = c.in-Ok.ensures in
    subst (λ (x : Exit). IsRefused c.args.strictly c.args.number c.args.unit.now x) (sym c.frames_exit.ensures)
    (frames-refused c.args.strictly c.args.number c.args.unit.now passes.0 c.in-Err-decode.fault passes.1 (c.in-Err-decode.ensures.err passes.0 passes.1.structure))
