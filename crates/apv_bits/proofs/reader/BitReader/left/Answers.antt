use Rattle.std.proofs.Common.{arith}
use Rattle.apv_bits.proofs.ReaderLemmas.{left_is, whole_bytes}
use Rattle.apv_bits.proofs.reader.BitReader.left.Goals as goal

pub returns-clause-bytes : goal.returns-clause-bytes
returns-clause-bytes c = whole_bytes c.self.inside.bytes.now c.self.inside.place c.args.self.now (omega arith) (omega arith) c.self.view_is

pub returns-clause-left : goal.returns-clause-left
returns-clause-left c = omega (arith, left_is c.self.inside.bytes.now c.self.inside.place c.args.self.now (omega arith) c.self.view_is)
