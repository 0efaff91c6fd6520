-- The tiles of a frame: tile() of the RFC with tile_header(), whose fields are whole bytes.
use Rattle.std.specs.Prelude.{ℕ, zero, suc, ◌+◌, ◌-◌, ◌*◌, Bool, true, false, ◌||◌, List, [], ◌∷◌, ◌++◌, length, take}
use Rattle.std.specs.Prelude.{drop, slice_index, Option, Some, None, nat_lt, if◌then◌else◌, ◌==◌}
use Rattle.std.specs.List.{sum}
use Rattle.apv_base.specs.declared.rules.Rule.{Rule}
use Rattle.apv_base.specs.declared.rules.Rule.TheVariants.{V14, V18, V20, V21, V22, V24}
use Rattle.apv_base.specs.declared.rules.TileBreak.{TileBreak}
use Rattle.apv_base.specs.declared.format.Chroma.{Chroma}
use Rattle.apv_base.specs.declared.format.Format.{Format}
use Rattle.apv_base.specs.model.Format.{chroma_of, comps_of, or_grey}
use Rattle.apv_base.specs.declared.header.FrameHeader.{FrameHeader}
use Rattle.apv_base.specs.model.Grid.{Grid, grid_with, tile_count}
use Rattle.apv_base.specs.model.Header.{header_comps, grid_of}
use Rattle.apv_base.specs.model.Quant.{max_qp}
use Rattle.apv_base.specs.model.Table.{Table, done, field, fields, plain, no_check, must_be_zero}

-- What the values of a header say of the tiles: the number of components, the bit depth, the number of tiles, and the
-- size that the header states for each tile, or none for any.
pub record Layout : Type 0 where
  pub comps : ℕ
  pub depth : ℕ
  pub count : ℕ
  pub sizes : Option (List ℕ)

-- the bytes of a tile header
abbrev pub tile_header_size : ℕ → ℕ
tile_header_size comps = 5 * comps + 5

-- ---- the checks

-- the size of the tile that is stated in the header is another
abbrev pub differs : Option (List ℕ) → ℕ → ℕ → Bool
differs None tile size = false
differs (Some sizes) tile size = nat_lt (slice_index sizes tile) size || nat_lt size (slice_index sizes tile)

-- tile_size: V18, and then V20
abbrev pub check_tile_size : Layout → ℕ → ℕ → ℕ → Option Rule
check_tile_size layout tile size left =
    if differs layout.sizes tile size then Some V18
    else (if nat_lt size (tile_header_size layout.comps) || nat_lt left size then Some V20 else None)

-- tile_header_size and tile_index: the value is this number
abbrev pub check_is : ℕ → ℕ → ℕ → Option Rule
check_is number value left = if value == number then None else Some V21

-- the bytes of all components
abbrev pub check_data : ℕ → ℕ → List ℕ → ℕ → ℕ → Option Rule
check_data comps size prefix last left =
    if nat_lt (size - tile_header_size comps) (sum prefix + last) then Some V24 else None

-- tile_qp is at most the maximum
abbrev pub check_qp : ℕ → ℕ → ℕ → Option Rule
check_qp depth qp left = if nat_lt (max_qp depth) qp then Some V22 else None

-- ---- the fields

-- a rule that the tile breaks
abbrev pub at_tile : ℕ → Option Rule → Option TileBreak
at_tile tile None = None
at_tile tile (Some rule) = Some (record { tile = tile; rule = rule })

-- a number of n bytes in a tile; where too few bytes are left, the tile doesn't fit
abbrev pub tile_field : ℕ → ℕ → (ℕ → ℕ → Option Rule) → (ℕ → Table TileBreak) → Table TileBreak
tile_field tile n check next =
    field n (record { tile = tile; rule = V20 }) (λ value left. at_tile tile (check value left)) next

-- count numbers of n bytes in a tile
abbrev pub tile_numbers : ℕ → ℕ → ℕ → (ℕ → ℕ → Option Rule) → (List ℕ → Table TileBreak) → Table TileBreak
tile_numbers tile count n check next =
    fields count n (record { tile = tile; rule = V20 }) (λ value left. at_tile tile (check value left)) next

-- tile_header() of a tile of that size
abbrev pub tile_header_fields : Layout → ℕ → ℕ → Table TileBreak → Table TileBreak
tile_header_fields layout tile size next =
    tile_field tile 2 (check_is (tile_header_size layout.comps)) (λ header_size.
    tile_field tile 2 (check_is tile) (λ index.
    tile_numbers tile (layout.comps - 1) 4 no_check (λ prefix.
    tile_field tile 4 (check_data layout.comps size prefix) (λ last.
    tile_numbers tile layout.comps 1 (check_qp layout.depth) (λ qps.
    tile_field tile 1 (must_be_zero V14) (λ reserved.
    next))))))

-- a tile: tile_size, the header, and the bytes of the components with dummy bytes after them
abbrev pub tile_fields : Layout → ℕ → Table TileBreak → Table TileBreak
tile_fields layout tile next =
    tile_field tile 4 (check_tile_size layout tile) (λ size.
    tile_header_fields layout tile size (
    plain (size - tile_header_size layout.comps) (record { tile = tile; rule = V20 }) next))

-- tiles from a number on
unfoldable pub tiles_from : Layout → ℕ → ℕ → Table TileBreak
tiles_from layout zero tile = done
tiles_from layout (suc count) tile = tile_fields layout tile (tiles_from layout count (suc tile))

-- all tiles of a frame
abbrev pub tiles_table : Layout → Table TileBreak
tiles_table layout = tiles_from layout layout.count 0

-- ---- what the values of a header say

-- frame_width, frame_height, chroma_format_idc and bit_depth_minus8: of the ten values of frame_info() those with the
-- indices 4 to 7
abbrev pub width_in : List ℕ → ℕ
width_in values = slice_index values 4

-- frame_height
abbrev pub height_in : List ℕ → ℕ
height_in values = slice_index values 5

-- the chroma format
abbrev pub chroma_in : List ℕ → Chroma
chroma_in values = or_grey (chroma_of (slice_index values 6))

-- the bit depth
abbrev pub depth_in : List ℕ → ℕ
depth_in values = slice_index values 7 + 8

-- the format
abbrev pub format_in : List ℕ → Format
format_in values = record {
  width = width_in values;
  height = height_in values;
  chroma = chroma_in values;
  depth = depth_in values;
}

-- the number of components
abbrev pub comps_in : List ℕ → ℕ
comps_in values = comps_of (chroma_in values)

-- color_description_present_flag, after frame_info() and a reserved byte
abbrev pub has_colour_in : List ℕ → Bool
has_colour_in values = slice_index values 11 == 1

-- the values after the colour description, which has four values where its flag is 1
abbrev pub after_colour : List ℕ → List ℕ
after_colour values = if has_colour_in values then drop 16 values else drop 12 values

-- the values after use_q_matrix and the matrices
abbrev pub after_matrices : List ℕ → List ℕ
after_matrices values =
    let later = after_colour values in
    if slice_index later 0 == 1 then drop (64 * comps_in values) (drop 1 later) else drop 1 later

-- tile_width_in_mbs, tile_height_in_mbs and tile_size_present_in_fh_flag are next, and then the sizes of the tiles
abbrev pub grid_in : List ℕ → Grid
grid_in values =
    let later = after_matrices values in
    grid_with (format_in values) (slice_index later 0) (slice_index later 1)

-- the sizes of the tiles where they are stated
abbrev pub sizes_in : List ℕ → Option (List ℕ)
sizes_in values =
    let later = after_matrices values in
    if slice_index later 2 == 1 then Some (take (tile_count (grid_in values)) (drop 3 later)) else None

-- the layout of the tiles
abbrev pub layout_in : List ℕ → Layout
layout_in values = record {
  comps = comps_in values;
  depth = depth_in values;
  count = tile_count (grid_in values);
  sizes = sizes_in values;
}

-- what a header with these sizes of tiles says
abbrev pub stated : Bool → List ℕ → Option (List ℕ)
stated false sizes = None
stated true sizes = Some sizes

-- the layout that a header with these sizes of tiles says
abbrev pub layout_of : FrameHeader → List ℕ → Layout
layout_of header sizes = record {
  comps = header_comps header;
  depth = header.info.depth;
  count = tile_count
      (grid_of header);
  sizes = stated header.sizes_present sizes;
}

-- ---- the values

-- a tile: the bytes of each component's data, its QPs, and the bytes after the tile header
pub record Tile : Type 0 where
  pub lengths : List ℕ
  pub qps : List ℕ
  pub bytes : List ℕ

-- the values of a tile_header()
abbrev pub tile_header_values : ℕ → ℕ → List ℕ → List ℕ → List ℕ
tile_header_values comps number lengths qps = tile_header_size comps ∷ number ∷ lengths ++ qps ++ 0 ∷ []

-- the values of a tile
abbrev pub tile_values : ℕ → ℕ → Tile → List ℕ
tile_values comps number tile =
    (tile_header_size comps + length tile.bytes) ∷ tile_header_values comps number tile.lengths tile.qps ++ tile.bytes

-- the values of tiles, from a number on
unfoldable pub tiles_values : ℕ → ℕ → List Tile → List ℕ
tiles_values comps number [] = []
tiles_values comps number (tile ∷ tiles) = tile_values comps number tile ++ tiles_values comps (suc number) tiles
