-- Bodies of frames: frame() of the RFC, a header, tiles and filler.
use Rattle.std.specs.Prelude.{◌≡◌, ℕ, ◌-◌, ◌/◌, true, false, List, length, drop, Result, Ok, Err}
use Rattle.apv_base.specs.declared.rules.Rule.TheVariants.{V23}
use Rattle.apv_base.specs.declared.rules.HeadEnd.{HeadEnd}
use Rattle.apv_base.specs.declared.rules.HeadEnd.TheVariants.{Rule as breaks}
use Rattle.apv_base.specs.declared.rules.TileBreak.{TileBreak}
use Rattle.apv_base.specs.model.Bits.{bits}
use Rattle.apv_base.specs.model.Header.{header_table}
use Rattle.apv_base.specs.model.Pbu.{is_filler}
use Rattle.apv_base.specs.model.Table.{walk}
use Rattle.apv_base.specs.model.Tile.{tiles_table, layout_in}

-- the last bytes of a body, of which these bits are left
abbrev pub bytes_left : List ℕ → List ℕ → List ℕ
bytes_left body left = drop (length body - length left / 8) body

-- the values of the header, and the bits after it
abbrev pub WalksHeader : List ℕ → List ℕ → List ℕ → Type 0
WalksHeader body header left =
    ◌≡◌ {A = Result (List ℕ × List ℕ) HeadEnd} (walk 2 header_table (bits body)) (Ok (header, left))

-- the values of the tiles after a header with these values, and the bytes after them
abbrev pub WalksTiles : List ℕ → List ℕ → List ℕ → List ℕ → Type 0
WalksTiles header xs tiles after =
    ◌≡◌ {A = Result (List ℕ × List ℕ) TileBreak} (walk 256 (tiles_table (layout_in header)) xs) (Ok (tiles, after))

-- the body breaks no rule, and these are the values of its header and of its tiles
pub record IsFrame (body header tiles : List ℕ) : Type 0 where
  pub left : List ℕ
  pub after : List ℕ
  pub walked : WalksHeader body header left
  pub walked_tiles : WalksTiles header (bytes_left body left) tiles after
  pub filler : is_filler after ≡ true

-- the first rule that the body breaks, or the limit on a frame's size that it doesn't keep, and the tile
pub data FrameBreaks (body : List ℕ) : ℕ → HeadEnd → Type 0 where
  in_header : (end : HeadEnd) → ◌≡◌ {A = Result (List ℕ × List ℕ) HeadEnd} (walk 2 header_table (bits body)) (Err end)
      → FrameBreaks body 0 end
  in_tile : (header left : List ℕ) (broken : TileBreak) → WalksHeader body header left
      → ◌≡◌ {A = Result (List ℕ × List ℕ) TileBreak} (walk 256 (tiles_table (layout_in header)) (bytes_left body left))
      (Err broken) → FrameBreaks body broken.tile (breaks broken.rule)
  in_filler : (header left tiles after : List ℕ) → WalksHeader body header left
      → WalksTiles header (bytes_left body left) tiles after → is_filler after ≡ false → FrameBreaks body 0 (breaks V23)
