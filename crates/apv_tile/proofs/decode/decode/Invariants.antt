use Rattle.apv_tile.proofs.DecodeLemmas.{AreDecoded}
use Rattle.apv_tile.proofs.decode.decode.Given as goal

-- the blocks so far are read and decoded
abbrev pub invariant-loop-block : goal.invariant-loop-block
invariant-loop-block l = AreDecoded l.scaling l.depth l.bytes l.block l.reader l.context l.samples
