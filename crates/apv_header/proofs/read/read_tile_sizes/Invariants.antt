use Rattle.std.proofs.Common.{◌≡◌, ◌-◌, ◌*◌, length}
use Rattle.apv_base.specs.declared.rules.HeadEnd.{HeadEnd}
use Rattle.apv_base.specs.model.Table.{Table}
use Rattle.apv_header.specs.Fields.{WalksBits}
use Rattle.apv_header.specs.Parts.{tile_size_fields}
use Rattle.apv_header.proofs.read.read_tile_sizes.Given as goal

-- the sizes so far are those of the first fields
abbrev pub invariant-loop-tile : goal.invariant-loop-tile
invariant-loop-tile l = record {
  count : length l.sizes.items ≡ l._tile;
  passed : (next : Table HeadEnd) → WalksBits (tile_size_fields l.count next) l.fn.reader (32 * l._tile) l.sizes.items (tile_size_fields (l.count - l._tile) next) l.reader;
}
