use Rattle.std.proofs.Common.{length, sym, ap, ◌∙◌}
use Rattle.apv_bits.proofs.WindowLemmas.{length-prefix}
use Rattle.apv_bits.proofs.window_bits.Window.left.Goals as goal

pub returns-clause-left : goal.returns-clause-left
returns-clause-left c = sym (length-prefix c.self.inside.left c.self.inside.bits c.self.invariant) ∙ ap length c.self.view_is
