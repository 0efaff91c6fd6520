use Rattle.std.proofs.Common.{sym}
use Rattle.apv_bits.proofs.WriterLemmas.{length-after}
use Rattle.apv_bits.proofs.writer.BitWriter.left.Goals as goal

pub returns : goal.returns
returns c = sym (length-after c.args.self.now.bytes.now c.args.self.now.place)
