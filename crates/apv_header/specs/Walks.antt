-- Walks over the fields of a tile, whatever fields follow them.
use Rattle.std.specs.Prelude.{◌≡◌, ◌≤◌, ℕ, zero, suc, ◌+◌, ◌∷◌, [], List, take, drop, length, slice_index}
use Rattle.std.specs.Prelude.{Bool, false, not, ◌==◌, Option, Some, None, Result, Err}
use Rattle.apv_base.specs.declared.format.FrameInfo.{FrameInfo}
use Rattle.apv_base.specs.declared.rules.Rule.{Rule}
use Rattle.apv_base.specs.declared.rules.TileBreak.{TileBreak}
use Rattle.apv_base.specs.model.Bits.{number}
use Rattle.apv_base.specs.model.CodedFrame.{IsTile}
use Rattle.apv_base.specs.model.Format.{comps_of}
use Rattle.apv_base.specs.model.Table.{Table, walk, with_values}
use Rattle.apv_base.specs.model.Tile.{Layout, differs, tile_header_size, tile_header_fields, tile_header_values}
use Rattle.apv_base.specs.model.Tile.{tile_fields, tile_values}
use Rattle.apv_header.specs.declared.tiles.TileEntry.{TileEntry}
use Rattle.apv_header.specs.Tiles.{tile_of_entry, HasNoOthers, AreZeroFrom}

-- ---- steps of a walk

-- the walk over these fields gives these values and goes on there
abbrev pub WalksBytes : {E : Type 0} → (Table E → Table E) → List ℕ → List ℕ → List ℕ → Type 0
WalksBytes {E} table xs values ys =
    (next : Table E)
    → ◌≡◌ {A = Result (List ℕ × List ℕ) E} (walk 256 (table next) xs) (with_values values (walk 256 next ys))

-- the walk over these fields ends at this fault
abbrev pub BytesBreak : {E : Type 0} → (Table E → Table E) → List ℕ → E → Type 0
BytesBreak {E} table xs fault =
    (next : Table E) → ◌≡◌ {A = Result (List ℕ × List ℕ) E} (walk 256 (table next) xs) (Err fault)

-- count numbers of n bytes, one after another
unfoldable pub numbers : ℕ → ℕ → List ℕ → List ℕ
numbers n zero xs = []
numbers n (suc count) xs = number 256 (take n xs) ∷ numbers n count (drop n xs)

-- ---- what a frame says of its tiles

abbrev pub layout_with : ℕ → ℕ → ℕ → Option (List ℕ) → Layout
layout_with comps depth count sizes = record { comps = comps; depth = depth; count = count; sizes = sizes }

-- the size that is stated for a tile
abbrev pub stated_at : Option (List ℕ) → ℕ → Option ℕ
stated_at None tile = None
stated_at (Some sizes) tile = Some (slice_index sizes tile)

-- another size is stated
abbrev pub differs_from : Option ℕ → ℕ → Bool
differs_from None size = false
differs_from (Some stated) size = not (stated == size)

abbrev pub broken_at : ℕ → Rule → TileBreak
broken_at tile rule = record { tile = tile; rule = rule }

-- ---- a tile header

-- its fields, which don't depend on the number of tiles and their stated sizes
abbrev pub header_fields : ℕ → ℕ → ℕ → ℕ → Table TileBreak → Table TileBreak
header_fields comps depth tile size next = tile_header_fields (layout_with comps depth 0 None) tile size next

-- a header of a tile of that number and size with these data sizes and QPs, which are 0 of other components
pub record HasTileHeader (bytes : List ℕ) (info : FrameInfo) (tile size : ℕ) (found : List ℕ × List ℕ) : Type 0 where
  pub walked : let comps = comps_of info.chroma in
      WalksBytes (header_fields comps info.depth tile size) bytes
      (tile_header_values comps tile (take comps found.0) (take comps found.1)) (drop (tile_header_size comps) bytes)
  pub length_count : length (take (comps_of info.chroma) found.0) ≡ comps_of info.chroma
  pub qp_count : length (take (comps_of info.chroma) found.1) ≡ comps_of info.chroma
  pub lengths : AreZeroFrom (comps_of info.chroma) found.0
  pub qps : AreZeroFrom (comps_of info.chroma) found.1

-- the header of a tile of that number and size breaks a rule
abbrev pub TileHeaderBreaks : List ℕ → FrameInfo → ℕ → ℕ → Rule → Type 0
TileHeaderBreaks bytes info tile size rule =
    BytesBreak (header_fields (comps_of info.chroma) info.depth tile size) bytes (broken_at tile rule)

-- ---- a tile

-- a tile size that fits what follows it, and is the stated one
pub record HasTileSize (bytes : List ℕ) (info : FrameInfo) (tile : ℕ) (stated : Option ℕ) (size : ℕ) : Type 0 where
  pub long : 4 ≤ length bytes
  pub is : number 256 (take 4 bytes) ≡ size
  pub low : tile_header_size (comps_of info.chroma) ≤ size
  pub high : size + 4 ≤ length bytes
  pub same : (sizes : Option (List ℕ)) → stated ≡ stated_at sizes tile → differs sizes tile size ≡ false

-- the tile breaks a rule, in a frame that states this size for it
abbrev pub TileBreaks : List ℕ → FrameInfo → ℕ → Option ℕ → Rule → Type 0
TileBreaks bytes info tile stated rule =
    (count : ℕ) (sizes : Option (List ℕ)) → stated ≡ stated_at sizes tile
    → BytesBreak (tile_fields (layout_with (comps_of info.chroma) info.depth count sizes) tile) bytes
    (broken_at tile rule)

-- a tile at a place of a body, in a frame that states this size for it
pub record HasTile (body : List ℕ) (from : ℕ) (info : FrameInfo) (tile : ℕ) (stated : Option ℕ) (entry : TileEntry)
    : Type 0 where
  pub walked : (count : ℕ) (sizes : Option (List ℕ)) → stated ≡ stated_at sizes tile
      → WalksBytes (tile_fields (layout_with (comps_of info.chroma) info.depth count sizes) tile) (drop from body)
      (tile_values (comps_of info.chroma) tile (tile_of_entry body (comps_of info.chroma) entry))
      (drop (entry.place + entry.size) body)
  pub place : entry.place ≡ from + 4
  pub whole : tile_header_size (comps_of info.chroma) ≤ entry.size
  pub inside : entry.place + entry.size ≤ length body
  pub counts : IsTile (comps_of info.chroma) (tile_of_entry body (comps_of info.chroma) entry)
  pub others : HasNoOthers (comps_of info.chroma) entry
