use Rattle.std.proofs.Common.{◌≡◌, ◌+◌, ◌∙◌, ◌≤◌, refl, sym, min, arith, rules}
use Rattle.apv_base.specs.model.Format.{macroblock_columns, macroblock_rows}
use Rattle.apv_base.specs.model.Grid.{tile_x, tile_y, tile_h}
use Rattle.apv_grid.proofs.LayoutLemmas.{tile-start-is, tile-start-within, macroblocks-before}
use Rattle.apv_grid.proofs.grid.Grid.tile_start.Goals as goal

pub returns-clause-start : goal.returns-clause-start
returns-clause-start c =
    let grid = c.args.self.now in
    let columns : c.macroblock_columns-columns.result ≡ macroblock_columns grid.format = search rules in
    let rows : c.rect.result.y + c.rect.result.h ≤ macroblock_rows grid.format = c.rect.ensures.rows in
    let x : c.rect.result.x ≡ tile_x grid c.args.tile = search rules in
    let y : c.rect.result.y ≡ tile_y grid c.args.tile = search rules in
    let h : c.rect.result.h ≡ tile_h grid c.args.tile = search rules in
    let top : min (tile_y grid c.args.tile) (macroblock_rows grid.format) ≡ tile_y grid c.args.tile = omega (arith, y, rows) in
    let before : c.macroblocks_before.result ≡ macroblocks-before grid c.args.tile =
    c.macroblocks_before.ensures.count ∙ rw (columns, x, y, h, top) refl in
    rw (before, c.macroblock.ensures.count) (sym (tile-start-is grid c.args.tile c.tiles.ensures.sound c.requires))

pub returns-clause-few : goal.returns-clause-few
returns-clause-few c = omega (arith, returns-clause-start c, tile-start-within c.args.self.now c.args.tile c.requires)
