use Rattle.apv_base.proofs.BitsLemmas.{length-bin}
use Rattle.apv_bits.proofs.packed.Word.new.Goals as goal

pub returns-clause-len : goal.returns-clause-len
returns-clause-len c = length-bin c.args.n c.args.value
