use Rattle.std.proofs.Common.{refl}
use Rattle.apv_grid.specs.Strip.{row_place}
use Rattle.apv_grid.proofs.runs.place_in_row.Goals as goal

pub returns-then-half : goal.returns-then-half
unfolding row_place
returns-then-half c = rw c.if-half.true refl

pub returns-else-half : goal.returns-else-half
unfolding row_place
returns-else-half c = rw c.if-half.false refl
