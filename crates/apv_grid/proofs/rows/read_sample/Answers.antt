use Rattle.std.proofs.Common.{◌≡◌, ◌+◌, ℕ, ap, ◌∙◌, arith}
use Rattle.apv_grid.specs.Buffer.{samples_in}
use Rattle.apv_grid.proofs.rows.read_sample.Goals as goal

pub returns : goal.returns
returns c =
    let e : c.args.x + 0 ≡ c.args.x = omega arith in
    c.read_row.ensures 0 (omega arith) ∙ ap (λ (x : ℕ). samples_in c.args.grid.now c.args.values.now c.args.comp x c.args.y) e
