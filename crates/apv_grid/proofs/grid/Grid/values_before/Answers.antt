use Rattle.std.proofs.Common.{◌≡◌, sym, arith, rules}
use Rattle.apv_base.specs.model.Grid.{tile_w, tile_h}
use Rattle.apv_grid.specs.Buffer.{macroblock_before}
use Rattle.apv_grid.proofs.LayoutLemmas.{values-before-is, comps-within}
use Rattle.apv_grid.proofs.grid.Grid.values_before.Goals as goal

pub returns-clause-count : goal.returns-clause-count
returns-clause-count c =
    let wide : c.rect-rect.result.w ≡ tile_w c.args.self.now c.args.tile = search rules in
    let high : c.rect-rect.result.h ≡ tile_h c.args.self.now c.args.tile = search rules in
    let values : c.macroblock_values.result ≡ macroblock_before c.args.self.now.format.chroma c.args.comp = search rules in
    rw (wide, high, values) (sym (values-before-is c.args.self.now c.args.tile c.args.comp))

pub returns-clause-few : goal.returns-clause-few
returns-clause-few c =
    omega (arith, returns-clause-count c, comps-within c.args.self.now c.args.tile c.args.comp c.requires.tile c.requires.comp)
