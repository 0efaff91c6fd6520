use Rattle.std.proofs.Common.{◌+◌, ◌*◌}
use Rattle.apv_grid.specs.Strip.{ReadsSamples}
use Rattle.apv_grid.proofs.runs.read_whole.Given as goal

abbrev pub invariant-loop-k : goal.invariant-loop-k
invariant-loop-k l = ReadsSamples l.half l.values l.start l.x l.initial.row l.row l.a (l.a + 8 * l.k)
