use Rattle.std.proofs.Common.{◌≤◌, ◌*◌, arith}
use Rattle.apv_base.specs.model.Format.{MAX_MACROBLOCKS}
use Rattle.apv_base.specs.model.Grid.{IsSoundGrid}
use Rattle.apv_grid.proofs.GridLemmas.{macroblocks-few, blocks-few}
use Rattle.apv_grid.proofs.grid.Grid.blocks.Goals as goal

pub overflow_mul-result : goal.overflow_mul-result
overflow_mul-result c =
    let sound : IsSoundGrid c.args.self.now = rw (← c.self.view_is) c.self.invariant in
    let rect = c.rect-rect.result in
    omega (arith, macroblocks-few c.args.self.now rect.x rect.y rect.w rect.h sound c.rect-rect.ensures.columns c.rect-rect.ensures.rows)

pub overflow_mul-result-2 : goal.overflow_mul-result-2
overflow_mul-result-2 c =
    let sound : IsSoundGrid c.args.self.now = rw (← c.self.view_is) c.self.invariant in
    let rect = c.rect-rect.result in
    let few : rect.w * rect.h ≤ MAX_MACROBLOCKS = macroblocks-few c.args.self.now rect.x rect.y rect.w rect.h sound c.rect-rect.ensures.columns c.rect-rect.ensures.rows in
    omega (arith, blocks-few (rect.w * rect.h) c.macroblock_blocks-each.result few c.macroblock_blocks-each.ensures.few)

pub returns-clause-few : goal.returns-clause-few
returns-clause-few c =
    let sound : IsSoundGrid c.args.self.now = rw (← c.self.view_is) c.self.invariant in
    let rect = c.rect-rect.result in
    let few : rect.w * rect.h ≤ MAX_MACROBLOCKS = macroblocks-few c.args.self.now rect.x rect.y rect.w rect.h sound c.rect-rect.ensures.columns c.rect-rect.ensures.rows in
    blocks-few (rect.w * rect.h) c.macroblock_blocks-each.result few c.macroblock_blocks-each.ensures.few
