use Rattle.std.proofs.Common.{rules}
use Rattle.apv_files.proofs.Reading.{so-far-stopped}
use Rattle.apv_files.proofs.loops.read_more.Goals as goal

pub returns-then-is_err-clause-here : goal.returns-then-is_err-clause-here
returns-then-is_err-clause-here g c = so-far-stopped _ _ _ c.args.count c.loop-left.left c.in_ok-taken.taken _ _ _ c.loop-left.invariant.here c.in_ok-taken.ensures.here (search rules)
