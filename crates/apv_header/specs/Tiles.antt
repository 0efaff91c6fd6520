-- What the table of a frame's tiles says of the body in which they are.
use Rattle.std.specs.Prelude.{◌≡◌, ◌≤◌, ℕ, ◌+◌, ◌-◌, List, [], ◌∷◌, map, take, drop, length, slice_index}
use Rattle.std.specs.Prelude.{Result, Ok, Err}
use Rattle.std.specs.List.{AllByRecursion}
use Rattle.apv_base.specs.declared.rules.TileBreak.{TileBreak}
use Rattle.apv_base.specs.model.CodedFrame.{IsTile}
use Rattle.apv_base.specs.model.Grid.{tile_count}
use Rattle.apv_base.specs.model.Header.{header_comps, grid_of}
use Rattle.apv_base.specs.model.Table.{walk, spell, done}
use Rattle.apv_base.specs.model.Tile.{Tile, Layout, tile_header_size, tiles_table, tiles_values, layout_of}
use Rattle.apv_base.specs.model.Tile.{tile_header_fields, tile_header_values}
use Rattle.apv_header.specs.declared.head.HeaderRead.{HeaderRead}
use Rattle.apv_header.specs.declared.tiles.TileEntry.{TileEntry}
use Rattle.apv_header.specs.declared.tiles.TileTable.{TileTable}

-- the tile that an entry of the table names
abbrev pub tile_of_entry : List ℕ → ℕ → TileEntry → Tile
tile_of_entry body comps entry = record {
  lengths = take comps entry.lengths;
  qps = take comps entry.qp;
  bytes = take (entry.size - tile_header_size comps) (drop (entry.place + tile_header_size comps) body);
}

-- the bytes of the tile header of a tile of that number with these data sizes and QPs, whatever else the frame says
abbrev pub IsTileHeader : List ℕ → ℕ → List ℕ → List ℕ → Type 0
IsTileHeader bytes index lengths qps =
    (layout : Layout) (size : ℕ) → layout.comps ≡ length qps
    → bytes ≡ spell 256 (tile_header_fields layout index size done)
    (tile_header_values (length qps) index lengths qps)

-- the values from a number on are 0
abbrev pub AreZeroFrom : ℕ → List ℕ → Type 0
AreZeroFrom n values = (k : ℕ) → n ≤ k → slice_index values k ≡ 0

-- an entry is 0 for the components that the frame doesn't have
pub record HasNoOthers (comps : ℕ) (entry : TileEntry) : Type 0 where
  pub lengths : AreZeroFrom comps entry.lengths
  pub qps : AreZeroFrom comps entry.qp

-- the tiles are one after another from a place of the body up to another, each after its size in four bytes
abbrev pub ArePlaced : ℕ → ℕ → List TileEntry → ℕ → Type 0
ArePlaced comps from [] end = from ≡ end
ArePlaced comps from (entry ∷ entries) end =
    (entry.place ≡ from + 4) × (tile_header_size comps ≤ entry.size)
    × ArePlaced comps (entry.place + entry.size) entries end

-- an entry has a length and a QP for each component
abbrev pub HasCounts : List ℕ → ℕ → TileEntry → Type 0
HasCounts body comps entry = IsTile comps (tile_of_entry body comps entry)

-- the walk over the tiles after a header gives these values
pub record AreTilesOf (body : List ℕ) (head : HeaderRead) (table : TileTable) : Type 0 where
  pub walked : let comps = header_comps head.header in
      ◌≡◌ {A = Result (List ℕ × List ℕ) TileBreak}
      (walk 256 (tiles_table (layout_of head.header head.sizes.items)) (drop head.len body))
      (Ok (tiles_values comps 0 (map (tile_of_entry body comps) table.tiles.items), drop table.end body))
  pub placed : ArePlaced (header_comps head.header) head.len table.tiles.items table.end
  pub count : length table.tiles.items ≡ tile_count (grid_of head.header)
  pub inside : table.end ≤ length body
  pub counts : AllByRecursion (HasCounts body (header_comps head.header)) table.tiles.items
  pub others : AllByRecursion (HasNoOthers (header_comps head.header)) table.tiles.items

-- the walk over the tiles after a header ends at the first tile that breaks a rule
abbrev pub TilesBreak : List ℕ → HeaderRead → TileBreak → Type 0
TilesBreak body head broken =
    ◌≡◌ {A = Result (List ℕ × List ℕ) TileBreak}
    (walk 256 (tiles_table (layout_of head.header head.sizes.items)) (drop head.len body)) (Err broken)
