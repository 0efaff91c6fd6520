use Rattle.std.proofs.Common.{◌≡◌, sym, rules}
use Rattle.apv_base.specs.model.Format.{macroblock_columns, macroblock_rows}
use Rattle.apv_base.specs.model.Grid.{IsSoundGrid}
use Rattle.apv_grid.proofs.LayoutLemmas.{count-is, macroblock-values}
use Rattle.apv_grid.proofs.grid.Grid.values.Goals as goal

pub returns-clause-count : goal.returns-clause-count
returns-clause-count c =
    let sound : IsSoundGrid c.args.self.now = rw (← c.self.view_is) c.self.invariant in
    let columns : c.macroblock_columns-columns.result ≡ macroblock_columns c.args.self.now.format = search rules in
    let rows : c.macroblock_rows-rows.result ≡ macroblock_rows c.args.self.now.format = search rules in
    let values : c.macroblock.result ≡ macroblock-values c.args.self.now = c.macroblock.ensures.count in
    rw (columns, rows, values) (sym (count-is c.args.self.now sound))
