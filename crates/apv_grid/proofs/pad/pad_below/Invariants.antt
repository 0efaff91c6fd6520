use Rattle.apv_grid.specs.Pad.{SetsRows, last_row}
use Rattle.apv_grid.proofs.pad.pad_below.Given as goal

abbrev pub invariant-loop-y : goal.invariant-loop-y
invariant-loop-y l = SetsRows l.grid l.comp l.height l.y (last_row l.grid l.initial.values l.comp) l.initial.values l.values
