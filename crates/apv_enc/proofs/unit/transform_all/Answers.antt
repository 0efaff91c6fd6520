use Rattle.std.proofs.Common.{arith}
use Rattle.apv_enc.proofs.CodedTrackLemmas.{all-transformed}
use Rattle.apv_enc.proofs.unit.transform_all.Goals as goal

pub returns : goal.returns
returns g c = all-transformed c.loop-index.index c.args.tracks.now c.loop-index.tracks (omega (arith, c.loop-index-test.false, c.loop-index.auto.tracks)) c.loop-index.invariant
