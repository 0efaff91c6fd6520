use Rattle.apv_grid.specs.Pad.{SetsRows, nearest_in_row}
use Rattle.apv_grid.proofs.pad.pad_right.Given as goal

abbrev pub invariant-loop-y : goal.invariant-loop-y
invariant-loop-y l = SetsRows l.grid l.comp 0 l.y (nearest_in_row l.grid l.initial.values l.comp) l.initial.values l.values
