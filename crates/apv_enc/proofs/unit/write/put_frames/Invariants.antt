use Rattle.apv_enc.proofs.PartWriteLemmas.{ArePutSoFar}
use Rattle.apv_enc.proofs.unit.write.put_frames.Given as goal

abbrev pub invariant-loop-index : goal.invariant-loop-index
invariant-loop-index g l = ArePutSoFar l.kinds l.tracks l.index l.place l.out
