use Rattle.std.proofs.Common.{arith}
use Rattle.apv_bits.proofs.ReaderLemmas.{left_is, passes}
use Rattle.apv_bits.proofs.reader.BitReader.skip.Goals as goal

pub invariant_of-self : goal.invariant_of-self
invariant_of-self c = omega (arith, left_is c.self.inside.bytes.now c.self.inside.place c.args.self.now (omega arith) c.self.view_is)

pub returns : goal.returns
returns c = passes c.self.inside.bytes.now c.self.inside.place c.args.n c.args.self.now c.self.view_is c.requires
