use Rattle.std.proofs.Common.{length, ap, sym, ◌∙◌}
use Rattle.apv_grid.specs.Buffer.{value_count}
use Rattle.apv_base.specs.model.Grid.{tile_count}
use Rattle.apv_workers.proofs.Pieces.{run-whole}
use Rattle.apv_workers.proofs.encode.transform.all_samples.Goals as goal

pub returns-clause-all : goal.returns-clause-all
returns-clause-all c =
    let p = c.pieces-values in
    let whole = run-whole p.result.grid p.result.first p.result.count (length p.result.values.now) p.ensures.tiles.0 (p.ensures.tiles.1 ∙ ap tile_count (sym p.ensures.pieces.0)) p.result.run in
    ap length (sym p.ensures.pieces.1) ∙ whole ∙ ap value_count p.ensures.pieces.0
