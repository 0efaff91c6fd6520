use Rattle.std.proofs.Common.{length, sym, ap, ◌∙◌}
use Rattle.apv_base.proofs.BitsLemmas.{length-bin}
use Rattle.apv_bits.proofs.packed.Word.bit_len.Goals as goal

pub returns-clause-len : goal.returns-clause-len
returns-clause-len c = sym (length-bin c.self.inside.len c.self.inside.bits) ∙ ap length c.self.view_is
