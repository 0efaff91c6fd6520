-- What the encoder makes of a picture: its coefficients, and the PBU of a frame of levels.
use Rattle.std.specs.Prelude.{ℕ, ℤ, pos, ◌-ℤ◌, ◌+◌, ◌-◌, ◌*◌, ◌/◌, ◌%◌, ◌^◌, min, List, [], ◌∷◌, ◌++◌, length, map}
use Rattle.std.specs.List.{concat, range_with_len}
use Rattle.apv_base.specs.declared.header.FrameHeader.{FrameHeader}
use Rattle.apv_base.specs.model.Component.{bytes_of_bits, component_bytes}
use Rattle.apv_base.specs.model.Format.{component_width}
use Rattle.apv_base.specs.model.Grid.{Grid, tile_count, tile_x, tile_y, tile_w, block_columns, macroblock_blocks}
use Rattle.apv_base.specs.model.Header.{header_table, header_comps, grid_of}
use Rattle.apv_base.specs.model.CodedFrame.{CodedFrame, Levels, blocks_at, stated_sizes, head_values, tile_list_values}
use Rattle.apv_base.specs.model.Pbu.{pbu_table}
use Rattle.apv_base.specs.model.Picture.{Samples}
use Rattle.apv_base.specs.model.Table.{spell}
use Rattle.apv_base.specs.model.Tile.{Tile, tiles_table, layout_of}
use Rattle.apv_base.specs.model.Transform.{coefficient_of}

-- ---- coefficients

-- the first sample of a block of a tile, in its component's own samples
abbrev pub block_x : Grid → ℕ → ℕ → ℕ → ℕ
block_x grid tile comp block =
    let columns = block_columns grid.format.chroma comp in
    let macroblock = block / macroblock_blocks grid.format.chroma comp in
    8 * ((tile_x grid tile + macroblock % tile_w grid tile) * columns
    + block % macroblock_blocks grid.format.chroma comp % columns)

-- its row
abbrev pub block_y : Grid → ℕ → ℕ → ℕ → ℕ
block_y grid tile comp block =
    let columns = block_columns grid.format.chroma comp in
    let macroblock = block / macroblock_blocks grid.format.chroma comp in
    8 * ((tile_y grid tile + macroblock / tile_w grid tile) * 2
    + block % macroblock_blocks grid.format.chroma comp / columns)

-- a sample outside the visible area is the nearest visible one of its component
abbrev pub nearest_sample : Grid → Samples → ℕ → ℕ → ℕ → ℕ
nearest_sample grid samples comp x y =
    samples comp (min x (component_width grid.format comp - 1)) (min y (grid.format.height - 1))

-- the residual at x, y of a block
abbrev pub block_residual : Grid → Samples → ℕ → ℕ → ℕ → ℕ → ℕ → ℤ
block_residual grid samples tile comp block y x =
    pos (nearest_sample grid samples comp (block_x grid tile comp block + x) (block_y grid tile comp block + y)) -ℤ pos
    (2 ^ (grid.format.depth - 1))

-- the coefficient at place 8 * u + v of a block
abbrev pub coefficient : Grid → Samples → ℕ → ℕ → ℕ → ℕ → ℕ → ℤ
coefficient grid samples tile comp block u v =
    coefficient_of (block_residual grid samples tile comp block) grid.format.depth u v

-- ---- the PBU of a frame

-- the QP of each component of each tile
abbrev pub Qps : Type 0
Qps = ℕ → ℕ → ℕ

-- a list with an item for each number below n
abbrev pub each : {A : Type 0} → ℕ → (ℕ → A) → List A
each n item = map item (range_with_len 0 n)

-- a tile of blocks: no byte is between the components or after them
abbrev pub tile_with : ℕ → Qps → Levels → ℕ → Tile
tile_with comps qps levels tile = record {
  lengths = each comps (λ comp. length (component_bytes (blocks_at levels tile comp)));
  qps = each comps (qps tile);
  bytes = concat (each comps (λ comp. component_bytes (blocks_at levels tile comp)));
}

-- the tiles of a frame of this header, in their order
abbrev pub tiles_with : FrameHeader → Qps → Levels → List Tile
tiles_with header qps levels = each (tile_count (grid_of header)) (tile_with (header_comps header) qps levels)

-- the frame of a header, QPs and levels
abbrev pub frame_with : FrameHeader → Qps → Levels → CodedFrame
frame_with header qps levels = record { header = header; tiles = tiles_with header qps levels }

-- its bytes
unfoldable pub frame_body : CodedFrame → List ℕ
frame_body frame =
    bytes_of_bits (spell 2 header_table (head_values frame))
    ++ spell 256 (tiles_table (layout_of frame.header (stated_sizes frame))) (tile_list_values frame)

-- a PBU of a type and a group with this body, after its size
abbrev pub pbu_bytes : ℕ → ℕ → List ℕ → List ℕ
pbu_bytes kind group body = spell 256 pbu_table ((length body + 4) ∷ kind ∷ group ∷ 0 ∷ []) ++ body

-- the PBU of a frame, which has the group 1
abbrev pub frame_pbu : ℕ → FrameHeader → Qps → Levels → List ℕ
frame_pbu kind header qps levels = pbu_bytes kind 1 (frame_body (frame_with header qps levels))
