use Rattle.std.proofs.Common.{rules}
use Rattle.apv_encoding.specs.Generated.{generated_picture}
use Rattle.apv_generated.proofs.SampleLemmas.{row-is, row-keeps}
use Rattle.apv_generated.proofs.picture.put_piece.Goals as goal

pub returns-clause-row : goal.returns-clause-row
returns-clause-row c =
    let g = c.args in
    let grid = g.frame.now.grid in
    let f = generated_picture g.seed g.number in
    rw c.put_row.ensures.grid
    (row-is grid f g.comp g.x g.y g.count _ c.generate.new.row g.frame.now.values c.put_row.new.self.values (search rules) (λ i less. c.generate.ensures.samples i (search rules)) c.put_row.ensures.row)

pub returns-clause-kept : goal.returns-clause-kept
returns-clause-kept c =
    let g = c.args in
    let grid = g.frame.now.grid in
    let f = generated_picture g.seed g.number in
    rw c.put_row.ensures.grid
    (row-keeps grid f g.comp g.x g.y g.count _ c.generate.new.row g.frame.now.values c.put_row.new.self.values (search rules) (λ i less. c.generate.ensures.samples i (search rules)) c.put_row.ensures.row)
