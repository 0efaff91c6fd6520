use Rattle.apv_base.specs.model.Judge.{in_structure}
use Rattle.apv_dec.proofs.JudgeLemmas.{strict-breaks}
use Rattle.apv_dec.proofs.judge.judge_rules.Goals as goal

pub returns-in-Err : goal.returns-in-Err
returns-in-Err c = in_structure c.in-Err.end c.in-Err.ensures

pub returns-in-Err-judge_strictly : goal.returns-in-Err-judge_strictly
returns-in-Err-judge_strictly c =
    let sound = c.in-Ok.ensures in
    let broken = c.in-Err-judge_strictly.ensures sound.0 sound.1 in
    strict-breaks c.args.strictly c.args.number c.args.unit.now sound.0 c.in-Err-judge_strictly.broken sound.1 broken.0 broken.1
