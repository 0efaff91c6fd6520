use Rattle.std.proofs.Common.{◌+◌, ◌*◌}
use Rattle.apv_grid.specs.Strip.{WritesSamples}
use Rattle.apv_grid.proofs.runs.write_whole.Given as goal

abbrev pub invariant-loop-k : goal.invariant-loop-k
invariant-loop-k l = WritesSamples l.half l.row l.start l.x l.initial.values l.values l.a (l.a + 8 * l.k)
