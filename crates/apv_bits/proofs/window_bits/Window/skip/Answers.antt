use Rattle.std.proofs.Common.{length, drop, ap, ◌∙◌, arith}
use Rattle.apv_bits.proofs.WindowLemmas.{length-prefix, skipped}
use Rattle.apv_bits.proofs.window_bits.Window.skip.Goals as goal

pub returns : goal.returns
returns c =
    skipped c.self.inside.left c.args.n c.self.inside.bits
    (omega (arith, length-prefix c.self.inside.left c.self.inside.bits c.self.invariant, ap length c.self.view_is)) c.self.invariant
    ∙ ap (drop c.args.n) c.self.view_is
