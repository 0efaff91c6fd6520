-- What a run of tiles is seen as.
use base.Fml.{GName}
use Rattle.apv_grid.specs.declared.pieces.Pieces.{Pieces}

-- which slice has its values
abbrev pub pieces_name : {T : Type 0} → Pieces T → GName
pieces_name pieces = pieces.values.ghost_name
