use Rattle.std.proofs.Common.{◌≡◌, ℕ, List, length, ap, sym, ◌∙◌, subst, ◌<◌}
use Rattle.std.proofs.lemmas.Result.{on_ok_weaker, IfErr-weaker}
use Rattle.apv_base.specs.model.Grid.{Grid, tile_count}
use Rattle.apv_base.specs.model.Header.{grid_of}
use Rattle.apv_grid.specs.Buffer.{tile_value_count, buffer_with}
use Rattle.apv_workers.specs.Decode.{frame_read, WereRead}
use Rattle.apv_workers.specs.TileDecoding.{is_ready}
use Rattle.apv_workers.proofs.Frames.{is-run, all-ready, all-decoded, first-break, starts-of, tiles-of-all, same-many, refill_whole}
use Rattle.apv_workers.proofs.decode.decode_tiles.Goals as goal

pub work-requires-clause-run : goal.work-requires-clause-run
work-requires-clause-run g c κs within =
    let read : WereRead c.args.body.now c.args.head.now c.args.table.now = record { small = c.requires.small; header = c.requires.header; tiles = c.requires.tiles } in
    let starts = starts-of c.args.body.now c.args.head.now c.args.table.now c.tile_cuts-cuts.result read c.tile_cuts-cuts.ensures.len c.tile_cuts-cuts.ensures.few c.tile_cuts-cuts.ensures.each in
    let tiles = tiles-of-all c.args.body.now c.args.head.now c.args.table.now c.pieces-first.result.grid c.args.frame.now.grid c.pieces-first.result.first c.pieces-first.result.count c.pieces-first.result.values.now read c.pieces-first.ensures.pieces.0 c.requires.grid c.pieces-first.ensures.tiles.0 c.pieces-first.ensures.tiles.1 c.pieces-first.result.run in
    is-run (grid_of c.args.head.now.header) c.tile_cuts-cuts.result c.pieces-first.result.first c.pieces-first.result.count c.pieces-first.result.values.now starts tiles

pub work-requires-clause-ready : goal.work-requires-clause-ready
work-requires-clause-ready g c κs within =
    let read : WereRead c.args.body.now c.args.head.now c.args.table.now = record { small = c.requires.small; header = c.requires.header; tiles = c.requires.tiles } in
    let starts = starts-of c.args.body.now c.args.head.now c.args.table.now c.tile_cuts-cuts.result read c.tile_cuts-cuts.ensures.len c.tile_cuts-cuts.ensures.few c.tile_cuts-cuts.ensures.each in
    let tiles = tiles-of-all c.args.body.now c.args.head.now c.args.table.now c.pieces-first.result.grid c.args.frame.now.grid c.pieces-first.result.first c.pieces-first.result.count c.pieces-first.result.values.now read c.pieces-first.ensures.pieces.0 c.requires.grid c.pieces-first.ensures.tiles.0 c.pieces-first.ensures.tiles.1 c.pieces-first.result.run in
    let P : Grid → ℕ → List ℕ → Type 0 = λ grid tile values. (tile < tile_count grid) × (length values ≡ tile_value_count grid tile) in
    all-ready (frame_read c.args.body.now c.args.head.now c.args.table.now) c.tile_cuts-cuts.result c.pieces-first.result.first c.pieces-first.result.count c.pieces-first.result.values.now starts tiles
    (is_ready (record { body = c.args.body; head = c.args.head; table = c.args.table; steps = c.steps.result }))
    (λ tile values lt len. let there = subst (λ (grid : Grid). P grid tile values) (sym c.requires.header.grid) (lt, len) in (read, there.0, there.1))

pub returns-clause-ok : goal.returns-clause-ok
returns-clause-ok g c =
    let read : WereRead c.args.body.now c.args.head.now c.args.table.now = record { small = c.requires.small; header = c.requires.header; tiles = c.requires.tiles } in
    let starts = starts-of c.args.body.now c.args.head.now c.args.table.now c.tile_cuts-cuts.result read c.tile_cuts-cuts.ensures.len c.tile_cuts-cuts.ensures.few c.tile_cuts-cuts.ensures.each in
    let tiles = tiles-of-all c.args.body.now c.args.head.now c.args.table.now c.pieces-first.result.grid c.args.frame.now.grid c.pieces-first.result.first c.pieces-first.result.count c.pieces-first.result.values.now read c.pieces-first.ensures.pieces.0 c.requires.grid c.pieces-first.ensures.tiles.0 c.pieces-first.ensures.tiles.1 c.pieces-first.result.run in
    let grid : Grid = grid_of c.args.head.now.header in
    let many : length c.work.new.values ≡ length c.pieces-first.result.values.now = c.work.auto.values in
    let all : length c.work.new.values ≡ length c.args.frame.now.values = many ∙ ap length c.pieces-first.ensures.pieces.1 in
    let new = same-many grid c.pieces-first.result.first c.pieces-first.result.count c.pieces-first.result.values.now c.work.new.values many tiles in
    on_ok_weaker c.work.result
    (all-decoded (frame_read c.args.body.now c.args.head.now c.args.table.now) c.tile_cuts-cuts.result c.pieces-first.result.first c.pieces-first.result.count c.work.new.values starts new c.pieces-first.result.values.now (buffer_with c.args.frame.now c.work.new.values)
    (c.block_of_a_sample.ensures grid (record { format = c.requires.header.header.info.format; tiles = c.requires.header.header.tiles })) (c.requires.grid ∙ c.requires.header.grid) (refill_whole c.args.frame.now.values c.work.new.values all))
    c.work.ensures.ok

pub returns-clause-err : goal.returns-clause-err
returns-clause-err g c =
    let read : WereRead c.args.body.now c.args.head.now c.args.table.now = record { small = c.requires.small; header = c.requires.header; tiles = c.requires.tiles } in
    let starts = starts-of c.args.body.now c.args.head.now c.args.table.now c.tile_cuts-cuts.result read c.tile_cuts-cuts.ensures.len c.tile_cuts-cuts.ensures.few c.tile_cuts-cuts.ensures.each in
    let tiles = tiles-of-all c.args.body.now c.args.head.now c.args.table.now c.pieces-first.result.grid c.args.frame.now.grid c.pieces-first.result.first c.pieces-first.result.count c.pieces-first.result.values.now read c.pieces-first.ensures.pieces.0 c.requires.grid c.pieces-first.ensures.tiles.0 c.pieces-first.ensures.tiles.1 c.pieces-first.result.run in
    IfErr-weaker c.work.result _ _ (first-break (frame_read c.args.body.now c.args.head.now c.args.table.now) c.tile_cuts-cuts.result c.pieces-first.result.first c.pieces-first.result.count c.pieces-first.result.values.now starts tiles) c.work.ensures.err
