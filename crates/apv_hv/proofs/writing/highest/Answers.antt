use Rattle.std.proofs.Common.{◌-◌, arith}
use Rattle.apv_hv.proofs.WritingLemmas.{at_least, log_of_power}
use Rattle.apv_hv.proofs.writing.highest.Goals as goal

pub returns-clause-least : goal.returns-clause-least
returns-clause-least c below = log_of_power c.args.k c.ilog2.result (omega arith) (omega arith)

pub returns-clause-from_k : goal.returns-clause-from_k
returns-clause-from_k c =
    at_least c.args.k c.ilog2.result (c.max.result - c.least_count-count.result) (omega arith) c.ilog2.ensures.next_power_gt
