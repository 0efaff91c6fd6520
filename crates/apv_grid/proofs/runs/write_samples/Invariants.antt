use Rattle.apv_grid.specs.Strip.{WritesSamples}
use Rattle.apv_grid.proofs.runs.write_samples.Given as goal

abbrev pub invariant-loop-i : goal.invariant-loop-i
invariant-loop-i l = WritesSamples l.half l.row l.start l.x l.initial.values l.values l.a l.i
