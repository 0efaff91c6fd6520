use Rattle.apv_frame.proofs.unit.UnitFrames.push.Goals.{in-Ok-push, in-Err-push}
use Rattle.apv_frame.proofs.unit.UnitFrames.push.Goals as goal

pub returns-clause-ok : goal.returns-clause-ok
returns-clause-ok g c = elim c.match-push.branch [
  | in-Ok-push w ↦ rw w.result-is (record { buffer = c.decode_into.new.frame; pushed = cc (w.in-Ok-push.ensures.items, c.self.view_is, c.frame_of.ensures.frames); samples = c.in-Ok-decode_into.ensures.ok })
  | in-Err-push w ↦ rw w.result-is (tt {0})
]

pub returns-clause-err : goal.returns-clause-err
returns-clause-err g c = elim c.match-push.branch [
  | in-Ok-push w ↦ rw w.result-is (tt {0})
  | in-Err-push w ↦ rw w.result-is (tt {0})
]
