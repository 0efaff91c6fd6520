use Rattle.std.proofs.Common.{◌≡◌, ◌≤◌, ◌-◌, length, drop, map}
use Rattle.std.specs.List.{AllByRecursion}
use Rattle.apv_base.specs.model.Grid.{tile_count}
use Rattle.apv_base.specs.model.Header.{header_comps, grid_of}
use Rattle.apv_base.specs.model.Tile.{tiles_table, tiles_from, tiles_values, layout_of}
use Rattle.apv_base.proofs.WalkLemmas.{Onward}
use Rattle.apv_header.specs.Tiles.{tile_of_entry, ArePlaced, HasCounts, HasNoOthers}
use Rattle.apv_header.proofs.tiles.read_tiles.Given as goal

-- the walk over all tiles is that over the tiles so far and that over those which are left
abbrev pub invariant-loop-tile : goal.invariant-loop-tile
invariant-loop-tile l = record {
  walked : Onward 256 (tiles_table (layout_of l.head.header l.head.sizes.items)) (drop l.head.len l.body)
      (tiles_values (header_comps l.head.header) 0 (map (tile_of_entry l.body (header_comps l.head.header)) l.tiles.items))
      (tiles_from (layout_of l.head.header l.head.sizes.items) (tile_count (grid_of l.head.header) - l.tile) l.tile) (drop l.end l.body);
  placed : ArePlaced (header_comps l.head.header) l.head.len l.tiles.items l.end;
  count : length l.tiles.items ≡ l.tile;
  counts : AllByRecursion (HasCounts l.body (header_comps l.head.header)) l.tiles.items;
  others : AllByRecursion (HasNoOthers (header_comps l.head.header)) l.tiles.items;
  inside : l.end ≤ length l.body;
}
