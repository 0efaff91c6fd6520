use Rattle.std.proofs.Common.{◌≡◌, ap, ◌∙◌, arith}
use Rattle.std.proofs.lemmas.Result.{IfErr-weaker}
use Rattle.apv_base.specs.model.Grid.{tile_count}
use Rattle.apv_base.specs.model.Header.{grid_of}
use Rattle.apv_workers.proofs.Counted.{AreFourths, fourths-run, fourths-ready, all-counted}
use Rattle.apv_workers.proofs.Pieces.{on_ok_sure}
use Rattle.apv_workers.proofs.encode.counting.count_all.Goals as goal

pub work-requires-clause-run : goal.work-requires-clause-run
work-requires-clause-run g c κs within =
    let count : c.tiles.result ≡ tile_count (grid_of c.args.head.now.header) = c.tiles.ensures.count ∙ ap tile_count c.requires.head.grid in
    let fourths : AreFourths c.length_cuts-cuts.result c.tiles.result = record { len = c.length_cuts-cuts.ensures.len; few = c.tiles.ensures.few; each_is = c.length_cuts-cuts.ensures.each } in
    fourths-run c.length_cuts-cuts.result c.tiles.result c.args.lengths.now fourths (omega (arith, c.requires.four, count))

pub work-requires-clause-ready : goal.work-requires-clause-ready
work-requires-clause-ready g c κs within =
    let count : c.tiles.result ≡ tile_count (grid_of c.args.head.now.header) = c.tiles.ensures.count ∙ ap tile_count c.requires.head.grid in
    let fourths : AreFourths c.length_cuts-cuts.result c.tiles.result = record { len = c.length_cuts-cuts.ensures.len; few = c.tiles.ensures.few; each_is = c.length_cuts-cuts.ensures.each } in
    fourths-ready c.args.head.now.header (g.W.ComponentLength.ready c.args.work.now) c.length_cuts-cuts.result c.tiles.result c.args.lengths.now c.requires.ready count fourths (omega (arith, c.requires.four, count))

pub returns : goal.returns
returns g c =
    let count : c.tiles.result ≡ tile_count (grid_of c.args.head.now.header) = c.tiles.ensures.count ∙ ap tile_count c.requires.head.grid in
    let fourths : AreFourths c.length_cuts-cuts.result c.tiles.result = record { len = c.length_cuts-cuts.ensures.len; few = c.tiles.ensures.few; each_is = c.length_cuts-cuts.ensures.each } in
    all-counted _ c.args.head.now.header (g.W.ComponentLength.counts c.args.work.now) c.length_cuts-cuts.result c.tiles.result c.args.lengths.now c.work.new.values count fourths
    (on_ok_sure c.work.result (IfErr-weaker c.work.result _ _ (λ e b. b.breaks) c.work.ensures.err) c.work.ensures.ok)
