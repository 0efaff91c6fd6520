use Rattle.std.proofs.Common.{◌≡◌, ◌<◌, [], ◌∷◌, length, drop, sym, ap, ◌∙◌, arith, length-append}
use Rattle.apv_base.specs.model.Grid.{tile_count}
use Rattle.apv_base.specs.model.Header.{header_comps, grid_of}
use Rattle.apv_base.specs.model.Tile.{tiles_table, layout_of, stated}
use Rattle.apv_header.proofs.TileLemmas.{tiles-begin, placed-none, placed-push, tiles-more, tiles-break, tiles-all, all-push, all-none}
use Rattle.apv_header.specs.Tiles.{HasCounts, HasNoOthers}
use Rattle.apv_header.proofs.tiles.read_tiles.Goals as goal

pub loop-tile-init : goal.loop-tile-init
loop-tile-init c =
    let head = c.args.head.now in
    record {
      walked = tiles-begin c.args.body.now _ (header_comps head.header) head.header.info.depth (tile_count (grid_of head.header)) (stated head.header.sizes_present head.sizes.items) c.new-tiles.result.items c.new-tiles.ensures;
      placed = placed-none _ _ c.new-tiles.result.items c.new-tiles.ensures;
      count = ap length c.new-tiles.ensures;
      counts = all-none (HasCounts c.args.body.now (header_comps head.header)) c.new-tiles.result.items c.new-tiles.ensures;
      others = all-none (HasNoOthers (header_comps head.header)) c.new-tiles.result.items c.new-tiles.ensures;
      inside = c.requires.head.inside;
    }

pub returns-in-Err-clause-err : goal.returns-in-Err-clause-err
returns-in-Err-clause-err c =
    let head = c.args.head.now in
    let within : c.loop-tile.tile < tile_count (grid_of c.args.head.now.header) = omega (arith, ap tile_count c.requires.head.grid) in
    tiles-break c.args.body.now (drop head.len c.args.body.now) _ (tiles_table (layout_of head.header head.sizes.items)) head.header.info (tile_count (grid_of head.header)) c.loop-tile.tile c.loop-tile.end
    (stated head.header.sizes_present head.sizes.items) c.stated_size-stated.result c.in-Err.rule c.loop-tile.invariant.walked within c.stated_size-stated.ensures c.in-Err.ensures

pub loop-tile-preserved : goal.loop-tile-preserved
loop-tile-preserved c =
    let head = c.args.head.now in
    let i = c.loop-tile.invariant in
    let found = c.in-Ok.ensures in
    let within : c.loop-tile.tile < tile_count (grid_of c.args.head.now.header) = omega (arith, ap tile_count c.requires.head.grid) in
    rw (c.push.ensures.items) (record {
      walked = tiles-more c.args.body.now (drop head.len c.args.body.now) (tiles_table (layout_of head.header head.sizes.items)) head.header.info (tile_count (grid_of head.header)) c.loop-tile.tile c.loop-tile.end
          (stated head.header.sizes_present head.sizes.items) c.stated_size-stated.result c.loop-tile.tiles.items c.in-Ok.entry i.walked i.count within c.stated_size-stated.ensures found;
      placed = placed-push _ _ c.loop-tile.end c.loop-tile.tiles.items c.in-Ok.entry i.placed found.place found.whole;
      count = omega (arith, length-append c.loop-tile.tiles.items (c.in-Ok.entry ∷ []), i.count);
      counts = all-push (HasCounts c.args.body.now (header_comps head.header)) c.loop-tile.tiles.items c.in-Ok.entry i.counts found.counts;
      others = all-push (HasNoOthers (header_comps head.header)) c.loop-tile.tiles.items c.in-Ok.entry i.others found.others;
      inside = found.inside;
    })

pub returns-clause-ok : goal.returns-clause-ok
returns-clause-ok c =
    let head = c.args.head.now in
    let i = c.loop-tile.invariant in
    let count : tile_count (grid_of c.args.head.now.header) ≡ c.tiles-tile-end.result = sym (c.tiles-tile-end.ensures.count ∙ ap tile_count c.requires.head.grid) in
    let all : c.loop-tile.tile ≡ tile_count (grid_of c.args.head.now.header) = omega arith in
    record {
      walked = tiles-all (drop head.len c.args.body.now) _ (drop c.loop-tile.end c.args.body.now) (tiles_table (layout_of head.header head.sizes.items)) (layout_of head.header head.sizes.items) (tile_count (grid_of head.header)) c.loop-tile.tile i.walked (omega arith);
      placed = i.placed;
      count = i.count ∙ all;
      inside = i.inside;
      counts = i.counts;
      others = i.others;
    }
