use Rattle.std.proofs.Common.{length, ap, arith}
use Rattle.apv_bits.proofs.WindowLemmas.{length-prefix}
use Rattle.apv_bits.proofs.window_bits.Window.taken.Goals as goal

pub returns : goal.returns
returns c = omega (arith, length-prefix c.self.inside.left c.self.inside.bits c.self.invariant, ap length c.self.view_is)
