use Rattle.std.proofs.Common.{◌≡◌, ap, ◌∙◌, sym, arith}
use Rattle.std.proofs.lemmas.Result.{IfErr-weaker}
use Rattle.apv_base.specs.model.Grid.{tile_count}
use Rattle.apv_base.specs.model.Header.{grid_of, header_comps}
use Rattle.apv_workers.specs.Put.{put_start}
use Rattle.apv_workers.proofs.Pieces.{on_ok_sure}
use Rattle.apv_workers.proofs.PutTiles.{all-put-ready, all-put}
use Rattle.apv_workers.proofs.Written.{ArePutStarts, put-run}
use Rattle.apv_workers.proofs.encode.put.put_all.Goals as goal

pub work-requires-clause-run : goal.work-requires-clause-run
work-requires-clause-run g c κs within =
    let head = c.args.work.now.head.now in
    let lengths = c.args.work.now.lengths.now in
    let count : c.tiles.result ≡ tile_count (grid_of head.header) = c.tiles.ensures.count ∙ ap tile_count c.requires.ready.of_header.grid in
    let starts : ArePutStarts lengths (header_comps head.header) c.tiles.result c.put_cuts-cuts.result = record { len = c.put_cuts-cuts.ensures.len; few = c.tiles.ensures.few; each_is = λ tile le. c.put_cuts-cuts.ensures.each tile (omega (arith, le, count)) } in
    put-run lengths (header_comps head.header) c.tiles.result c.put_cuts-cuts.result c.args.out.now starts (c.requires.room ∙ ap (put_start lengths (header_comps head.header)) (sym count))

pub work-requires-clause-ready : goal.work-requires-clause-ready
work-requires-clause-ready g c κs within =
    let head = c.args.work.now.head.now in
    let lengths = c.args.work.now.lengths.now in
    let count : c.tiles.result ≡ tile_count (grid_of head.header) = c.tiles.ensures.count ∙ ap tile_count c.requires.ready.of_header.grid in
    let starts : ArePutStarts lengths (header_comps head.header) c.tiles.result c.put_cuts-cuts.result = record { len = c.put_cuts-cuts.ensures.len; few = c.tiles.ensures.few; each_is = λ tile le. c.put_cuts-cuts.ensures.each tile (omega (arith, le, count)) } in
    all-put-ready head c.args.work.now.levels.now lengths c.requires.ready c.tiles.result c.put_cuts-cuts.result c.args.out.now count starts (c.requires.room ∙ ap (put_start lengths (header_comps head.header)) (sym count)) c.requires.bytes

pub returns : goal.returns
returns g c =
    let head = c.args.work.now.head.now in
    let lengths = c.args.work.now.lengths.now in
    let count : c.tiles.result ≡ tile_count (grid_of head.header) = c.tiles.ensures.count ∙ ap tile_count c.requires.ready.of_header.grid in
    let starts : ArePutStarts lengths (header_comps head.header) c.tiles.result c.put_cuts-cuts.result = record { len = c.put_cuts-cuts.ensures.len; few = c.tiles.ensures.few; each_is = λ tile le. c.put_cuts-cuts.ensures.each tile (omega (arith, le, count)) } in
    all-put head c.args.work.now.levels.now lengths c.requires.ready _ c.tiles.result c.put_cuts-cuts.result c.args.out.now c.work.new.values count starts
    (c.work.auto.values ∙ c.requires.room ∙ ap (put_start lengths (header_comps head.header)) (sym count))
    (on_ok_sure c.work.result (IfErr-weaker c.work.result _ _ (λ e b. b.breaks) c.work.ensures.err) c.work.ensures.ok)
