use Rattle.std.proofs.Common.{arith, refl, ap, Some, drop}
use Rattle.std.proofs.lemmas.Grind.{common_steps}
use Rattle.apv_files.proofs.Prefixes.{drop-copied, length-zero}
use Rattle.apv_files.proofs.memory_slot.MemorySlot.read.Goals as goal

pub returns-clause-here : goal.returns-clause-here
returns-clause-here c = record {
  fits = grind (arith, common_steps);
  prefix = rw c.requires.reading (ap Some (drop-copied c.args.self.now.bytes.items c.args.self.now.at c.min-count.result c.args.buf.now c.copy_from_slice.new.self (grind (arith, common_steps)) (grind (arith, common_steps))));
  end = λ none. rw c.requires.reading (length-zero (drop c.args.self.now.at c.args.self.now.bytes.items) (grind (arith, common_steps)));
  rest = rw c.requires.reading refl;
}
