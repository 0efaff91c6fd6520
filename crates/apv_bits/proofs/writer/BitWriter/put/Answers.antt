use Rattle.std.proofs.Common.{◌+◌, ◌*◌, ◌≤◌, length, arith}
use Rattle.apv_base.specs.model.Bits.{bin}
use Rattle.apv_base.proofs.BitsLemmas.{length-bin}
use Rattle.apv_bits.proofs.WriterLemmas.{length-after, now_written, now_after}
use Rattle.apv_bits.proofs.writer.BitWriter.put.Goals as goal

pub put_field-requires-clause-within : goal.put_field-requires-clause-within
put_field-requires-clause-within c =
    omega (arith, c.args.self.now.within, length-after c.args.self.now.bytes.now c.args.self.now.place)

pub invariant_of-self : goal.invariant_of-self
invariant_of-self c = record {
  small = omega (arith, c.args.self.now.small);
  within = omega (arith, c.args.self.now.within, length-after c.args.self.now.bytes.now c.args.self.now.place);
}

pub returns-clause-appends : goal.returns-clause-appends
returns-clause-appends c =
    let room : c.args.self.now.place + c.args.n ≤ 8 * length c.args.self.now.bytes.now =
    omega (arith, c.args.self.now.within, length-after c.args.self.now.bytes.now c.args.self.now.place) in
    let put = rw c.from.ensures at c.put_field.ensures in
    record {
      written = now_written c.args.self.now.bytes.now c.put_field.new.bytes (bin c.args.n c.args.value) c.args.self.now.place c.args.n (length-bin c.args.n c.args.value) room put;
      after = now_after c.args.self.now.bytes.now c.put_field.new.bytes (bin c.args.n c.args.value) c.args.self.now.place c.args.n (length-bin c.args.n c.args.value) room put;
    }
