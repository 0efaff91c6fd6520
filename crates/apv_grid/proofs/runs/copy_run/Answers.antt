use Rattle.std.proofs.Common.{◌+◌, ◌-◌, arith}
use Rattle.apv_grid.proofs.StripLemmas.{run-copies}
use Rattle.apv_grid.proofs.runs.copy_run.Goals as goal

pub returns : goal.returns
returns c = run-copies c.args.from.now c.args.to.now c.args.a c.args.b (c.args.a + 8 - c.args.a) (c.args.b + 8 - c.args.b) c.requires.from c.requires.to (omega arith) (omega arith)
