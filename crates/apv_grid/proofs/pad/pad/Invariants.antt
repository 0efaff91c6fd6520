use Rattle.apv_grid.specs.Pad.{Pads}
use Rattle.apv_grid.proofs.pad.pad.Given as goal

abbrev pub invariant-loop-comp : goal.invariant-loop-comp
invariant-loop-comp l = Pads l.grid 0 l.comp l.initial.values l.values
