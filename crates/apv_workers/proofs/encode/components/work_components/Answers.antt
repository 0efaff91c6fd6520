use Rattle.std.proofs.Common.{◌∙◌}
use Rattle.std.proofs.lemmas.Result.{IfErr-weaker}
use Rattle.apv_workers.proofs.Frames.{AreStarts, is-run}
use Rattle.apv_workers.proofs.Pieces.{all-tiles, all-ready, all-done, on_ok_sure}
use Rattle.apv_workers.proofs.encode.components.work_components.Goals as goal

pub work-requires-clause-run : goal.work-requires-clause-run
work-requires-clause-run g c κs within =
    let starts : AreStarts c.args.grid.now c.tile_cuts-cuts.result = record { len = c.tile_cuts-cuts.ensures.len; few = c.tile_cuts-cuts.ensures.few; each = c.tile_cuts-cuts.ensures.each } in
    let tiles = all-tiles c.args.grid.now c.tiles.result c.args.values.now c.tiles.ensures.sound c.tiles.ensures.count c.requires.all in
    is-run c.args.grid.now c.tile_cuts-cuts.result 0 c.tiles.result c.args.values.now starts tiles

pub work-requires-clause-ready : goal.work-requires-clause-ready
work-requires-clause-ready g c κs within =
    let starts : AreStarts c.args.grid.now c.tile_cuts-cuts.result = record { len = c.tile_cuts-cuts.ensures.len; few = c.tile_cuts-cuts.ensures.few; each = c.tile_cuts-cuts.ensures.each } in
    let tiles = all-tiles c.args.grid.now c.tiles.result c.args.values.now c.tiles.ensures.sound c.tiles.ensures.count c.requires.all in
    all-ready (g.W.ComponentWork.ready c.args.work.now) c.args.grid.now c.tile_cuts-cuts.result c.tiles.result c.args.values.now starts tiles c.requires.ready

pub returns : goal.returns
returns g c =
    let starts : AreStarts c.args.grid.now c.tile_cuts-cuts.result = record { len = c.tile_cuts-cuts.ensures.len; few = c.tile_cuts-cuts.ensures.few; each = c.tile_cuts-cuts.ensures.each } in
    let tiles = all-tiles c.args.grid.now c.tiles.result c.work.new.values c.tiles.ensures.sound c.tiles.ensures.count (c.work.auto.values ∙ c.requires.all) in
    all-done _ (g.W.ComponentWork.done c.args.work.now) c.args.grid.now c.tile_cuts-cuts.result c.tiles.result c.args.values.now c.work.new.values starts tiles
    (on_ok_sure c.work.result (IfErr-weaker c.work.result _ _ (λ e b. b.breaks) c.work.ensures.err) c.work.ensures.ok)
