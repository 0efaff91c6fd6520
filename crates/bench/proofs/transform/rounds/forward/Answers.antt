use Rattle.std.proofs.Common.{arith}
use Rattle.std.proofs.Math.Pow.{pow_mono}
use Rattle.bench.proofs.transform.rounds.forward.Goals as goal

-- a sample of 10 bits is one of each greater depth
pub forward-requires-clause-samples : goal.forward-requires-clause-samples
forward-requires-clause-samples c place small = omega (arith, c.requires.samples place small, pow_mono c.requires.depth.0)
