use Rattle.std.proofs.Common.{length, take, sym, ap, ◌∙◌, arith}
use Rattle.apv_bits.proofs.WindowLemmas.{length-prefix, top_bits, top_below, pow_32}
use Rattle.apv_bits.proofs.window_bits.Window.top.Goals as goal

pub overflow_cast-result-2 : goal.overflow_cast-result-2
overflow_cast-result-2 c = omega (arith, top_below c.args.n c.self.inside.bits (omega arith) (omega arith), pow_32 c.args.n c.requires.few)

pub returns-clause-small : goal.returns-clause-small
returns-clause-small c = top_below c.args.n c.self.inside.bits (omega arith) (omega arith)

pub returns-clause-bits : goal.returns-clause-bits
returns-clause-bits c =
    ap (take c.args.n) (sym c.self.view_is)
    ∙ top_bits c.self.inside.left c.args.n c.self.inside.bits
    (omega (arith, length-prefix c.self.inside.left c.self.inside.bits c.self.invariant, ap length c.self.view_is)) c.self.invariant
