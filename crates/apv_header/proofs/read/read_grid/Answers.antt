use Rattle.std.proofs.Common.{refl, sym, ap, ◌∙◌}
use Rattle.apv_base.specs.model.Grid.{tile_rule}
use Rattle.apv_base.specs.model.Header.{head_end}
use Rattle.apv_header.proofs.FieldLemmas.{err-gives, cut-breaks, reads-walks, reads-breaks, walks-walks, walks-breaks}
use Rattle.apv_header.proofs.read.read_grid.Goals as goal

pub returns-in_err-tile_width-clause-err : goal.returns-in_err-tile_width-clause-err
returns-in_err-tile_width-clause-err c = err-gives _ _ _ c.from_residual.ensures.1 (λ next. cut-breaks _ _ c.in_err-tile_width.ensures.err)

pub returns-in_err-tile_height-clause-err : goal.returns-in_err-tile_height-clause-err
returns-in_err-tile_height-clause-err c =
    err-gives _ _ _ c.from_residual-in_err-tile_height.ensures.1 (λ next.
    walks-breaks (reads-walks _ _ _ c.in_ok-tile_width.ensures.ok (λ left. refl)) (
    cut-breaks _ _ c.in_err-tile_height.ensures.err))

pub returns-in-Ok-clause-ok : goal.returns-in-Ok-clause-ok
returns-in-Ok-clause-ok c next =
    walks-walks (reads-walks _ _ _ c.in_ok-tile_width.ensures.ok (λ left. refl)) (
    reads-walks _ _ _ c.in_ok-tile_height.ensures.ok (λ left. ap head_end (ap tile_rule (sym c.in-Ok.ensures.ok.0) ∙ c.in-Ok.ensures.ok.1.tiles)))

pub returns-in-Err-clause-err : goal.returns-in-Err-clause-err
returns-in-Err-clause-err c next =
    walks-breaks (reads-walks _ _ _ c.in_ok-tile_width.ensures.ok (λ left. refl)) (
    reads-breaks _ _ _ _ c.in_ok-tile_height.ensures.ok (λ left. ap head_end c.in-Err.ensures.err))
