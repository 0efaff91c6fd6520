use Rattle.std.proofs.Common.{◌≤◌, ◌+◌, ◌*◌, arith}
use Rattle.apv_base.specs.model.Grid.{block_count}
use Rattle.apv_grid.specs.Buffer.{part_start, value_count}
use Rattle.apv_grid.proofs.LayoutLemmas.{part-within}
use Rattle.apv_grid.proofs.pieces.part.Goals as goal

pub overflow_add-start : goal.overflow_add-start
overflow_add-start g c =
    let within : part_start c.args.grid.now c.args.tile c.args.comp + 64 * block_count c.args.grid.now c.args.tile c.args.comp ≤ value_count c.args.grid.now =
    part-within c.args.grid.now c.args.tile c.args.comp c.requires.tile c.requires.comp in
    omega arith

pub split_at-requires : goal.split_at-requires
split_at-requires g c =
    let within : part_start c.args.grid.now c.args.tile c.args.comp + 64 * block_count c.args.grid.now c.args.tile c.args.comp ≤ value_count c.args.grid.now =
    part-within c.args.grid.now c.args.tile c.args.comp c.requires.tile c.requires.comp in
    omega arith

pub split_at-requires-2 : goal.split_at-requires-2
split_at-requires-2 g c =
    let within : part_start c.args.grid.now c.args.tile c.args.comp + 64 * block_count c.args.grid.now c.args.tile c.args.comp ≤ value_count c.args.grid.now =
    part-within c.args.grid.now c.args.tile c.args.comp c.requires.tile c.requires.comp in
    omega arith
