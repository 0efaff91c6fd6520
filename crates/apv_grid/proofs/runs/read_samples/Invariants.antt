use Rattle.apv_grid.specs.Strip.{ReadsSamples}
use Rattle.apv_grid.proofs.runs.read_samples.Given as goal

abbrev pub invariant-loop-i : goal.invariant-loop-i
invariant-loop-i l = ReadsSamples l.half l.values l.start l.x l.initial.row l.row l.a l.i
