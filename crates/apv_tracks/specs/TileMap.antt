-- The file of QP offsets.
use Rattle.std.specs.Prelude.{◌≡◌, ℕ, ◌≤◌, Bool, ◌&&◌, List, ◌++◌, length, Some, Result, Ok, Err, nat_lt, ◌⊎◌}
use Rattle.std.specs.Io.KnownBytes.{IsAtEnd}
use Rattle.apv_base.specs.declared.exits.Exit.{Exit}
use Rattle.apv_base.specs.declared.exits.Exit.TheVariants as exits
use Rattle.apv_base.specs.declared.slot.Slot.TheVariants.{TileQp}
use Rattle.apv_files.specs.SlotView.{SlotView}
use Rattle.apv_files.specs.Loops.{TookAll, TookFailed, ReadsFailed, ReadsStopped}
use Rattle.apv_encoding.specs.Answer.{HasBadOffset, HasOffsets}
use Rattle.apv_tracks.specs.declared.tile_map.MapEnd.{MapEnd}
use Rattle.apv_tracks.specs.declared.tile_map.MapEnd.TheVariants.{Bad, Read, Memory}

-- a byte that is outside -75 to 75 in two's complement
abbrev pub is_outside_byte : ℕ → Bool
is_outside_byte byte = nat_lt 75 byte && nat_lt byte 181

-- no byte is missing, is outside -75 to 75, or is after that of the last tile
abbrev pub HasNoBadOffset : ℕ → List ℕ → Type 0
HasNoBadOffset tiles bytes = HasOffsets tiles (Some bytes)

-- all that was left was taken: a good byte for each tile, and no other
pub record TookTileMap (tiles : ℕ) (old : SlotView) (bytes : List ℕ) (new : SlotView) : Type 0 where
  pub took : TookAll old bytes new
  pub end : IsAtEnd new.left
  pub right : HasNoBadOffset tiles bytes

-- At most 401 bytes were taken, and the byte at this place is the first bad one: whatever follows, or where nothing
-- follows, since all that was left was taken.
pub record TileMapStops (tiles : ℕ) (old : SlotView) (place : ℕ) (new : SlotView) : Type 0 where
  pub taken : List ℕ
  pub most : length taken ≤ 401
  pub took : TookAll old taken new
  pub stops :
      ((more : List ℕ) → HasBadOffset tiles (taken ++ more) place)
      ⊎ (IsAtEnd new.left × HasBadOffset tiles taken place)

-- the file of QP offsets was read
abbrev pub ReadsTileMap : {T : Type 0} → ℕ → SlotView → Result T MapEnd → List ℕ → SlotView → Type 0
ReadsTileMap tiles old (Ok _) bytes new = TookTileMap tiles old bytes new
ReadsTileMap tiles old (Err (Bad place)) bytes new = TileMapStops tiles old place new
ReadsTileMap tiles old (Err Read) bytes new = ReadsFailed old 401 new
ReadsTileMap tiles old (Err Memory) bytes new = ReadsStopped old 401 new

-- the exit for a file of QP offsets that wasn't read
abbrev pub map_exit : MapEnd → Exit
map_exit (Bad place) = exits.BadTileQp place
map_exit Read = exits.ReadFailed TileQp
map_exit Memory = exits.Memory

-- why the file of QP offsets wasn't read or isn't right
pub data OffsetsEnd (tiles : ℕ) (old new : SlotView) : Exit → Type 0 where
  offsets_memory : (taken : List ℕ) → TookAll old taken new → OffsetsEnd tiles old new exits.Memory
  offsets_fault : (taken : List ℕ) → TookFailed old taken new → OffsetsEnd tiles old new (exits.ReadFailed TileQp)
  offsets_bad : (place : ℕ) → TileMapStops tiles old place new → OffsetsEnd tiles old new (exits.BadTileQp place)
