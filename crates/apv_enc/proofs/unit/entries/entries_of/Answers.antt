use Rattle.std.proofs.Common.{arith}
use Rattle.apv_enc.proofs.PartWriteLemmas.{listed-all}
use Rattle.apv_enc.proofs.unit.entries.entries_of.Goals as goal

pub returns-clause-listed : goal.returns-clause-listed
returns-clause-listed c =
    listed-all c.args.kinds.now c.args.tracks.now c.loop-index.index c.loop-index.entries (omega (arith, c.loop-index-test.false, c.loop-index.auto.index-end)) c.requires.kinds c.loop-index.invariant.listed
