use Rattle.std.proofs.Common.{arith}
use Rattle.apv_bits.proofs.WriterLemmas.{length-after}
use Rattle.apv_bits.proofs.writer.BitWriter.put_word.Goals as goal

pub put_field-requires-clause-within : goal.put_field-requires-clause-within
put_field-requires-clause-within c =
    omega (arith, c.args.self.now.within, length-after c.args.self.now.bytes.now c.args.self.now.place)

pub invariant_of-self : goal.invariant_of-self
invariant_of-self c = record {
  small = omega (arith, c.args.self.now.small);
  within = omega (arith, c.args.self.now.within, length-after c.args.self.now.bytes.now c.args.self.now.place);
}
