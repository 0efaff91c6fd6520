use Rattle.apv_grid.specs.Strip.{Copies}
use Rattle.apv_grid.proofs.bands.copy_few.Given as goal

abbrev pub invariant-loop-i : goal.invariant-loop-i
invariant-loop-i l = Copies l.from l.a l.initial.to l.to l.b l.i
