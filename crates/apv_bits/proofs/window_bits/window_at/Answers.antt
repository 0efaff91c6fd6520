use Rattle.apv_bits.proofs.WindowLemmas.{shows}
use Rattle.apv_bits.proofs.window_bits.window_at.Goals as goal

pub returns-clause-some : goal.returns-clause-some
returns-clause-some c = shows c.args.bytes.now c.args.place c.in_ok-eight.eight c.in_ok-eight.ensures.bits
