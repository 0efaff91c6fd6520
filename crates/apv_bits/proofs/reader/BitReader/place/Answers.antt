use Rattle.std.proofs.Common.{arith}
use Rattle.apv_bits.proofs.ReaderLemmas.{whole_bytes}
use Rattle.apv_bits.proofs.reader.BitReader.place.Goals as goal

pub returns-clause-bytes : goal.returns-clause-bytes
returns-clause-bytes c = whole_bytes c.self.inside.bytes.now c.self.inside.place c.args.self.now (omega arith) (omega arith) c.self.view_is
