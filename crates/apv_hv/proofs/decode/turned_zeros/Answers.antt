use Rattle.std.proofs.Common.{refl, arith}
use Rattle.apv_hv.proofs.DecodeLemmas.{zeros_few, zeros_first, zeros_second, zeros_further}
use Rattle.apv_hv.proofs.decode.turned_zeros.Goals as goal

pub returns-clause-few : goal.returns-clause-few
returns-clause-few c = zeros_few c.args.bits _ (omega arith) refl

pub returns-clause-first : goal.returns-clause-first
returns-clause-first c = zeros_first c.args.bits _ (omega arith) refl

pub returns-clause-second : goal.returns-clause-second
returns-clause-second c = zeros_second c.args.bits _ (omega arith) refl

pub returns-clause-further : goal.returns-clause-further
returns-clause-further c = zeros_further c.args.bits _ (omega arith) refl
