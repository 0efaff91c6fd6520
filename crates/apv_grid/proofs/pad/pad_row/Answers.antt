use Rattle.std.proofs.Common.{◌-◌, ◌≤◌, refl, arith}
use Rattle.std.proofs.lemmas.List.{length-take-le}
use Rattle.apv_grid.proofs.PadLemmas.{edge-set}
use Rattle.apv_grid.proofs.pad.pad_row.Goals as goal

pub returns-clause-row : goal.returns-clause-row
returns-clause-row c =
    let g = c.args in
    let few : c.filled_width.result - c.width-width.result ≤ 16 = omega arith in
    edge-set g.grid.now g.comp g.y c.width-width.result _ _ (c.filled_width.result - c.width-width.result) _ c.read_row.new.row g.values.now c.write_row.new.values c.width-width.ensures.width
    (omega arith) (omega arith) (length-take-le (c.filled_width.result - c.width-width.result) _ few) refl few c.read_row.ensures c.write_row.ensures
