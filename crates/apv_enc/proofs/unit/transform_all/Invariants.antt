use Rattle.apv_enc.proofs.CodedTrackLemmas.{FirstTransformed}
use Rattle.apv_enc.proofs.unit.transform_all.Given as goal

abbrev pub invariant-loop-index : goal.invariant-loop-index
invariant-loop-index g l = FirstTransformed l.index l.fn.tracks l.tracks
