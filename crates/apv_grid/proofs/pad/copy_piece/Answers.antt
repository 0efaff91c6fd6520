use Rattle.std.proofs.Common.{◌∙◌}
use Rattle.std.proofs.lemmas.List.{length-take-le}
use Rattle.apv_grid.proofs.PadLemmas.{piece-set}
use Rattle.apv_grid.proofs.pad.copy_piece.Goals as goal

pub returns : goal.returns
returns c =
    let g = c.args in
    piece-set g.grid.now g.comp g.from g.to g.x g.n _ _ c.read_row.new.row g.values.now c.write_row.new.values (length-take-le g.n _ c.requires.few)
    (c.read_row.auto.row ∙ length-take-le g.n _ c.requires.few) c.read_row.ensures c.write_row.ensures
