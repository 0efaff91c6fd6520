-- The frame of a body, and what is decoded of it.
use Rattle.std.specs.Prelude.{◌≡◌, ℕ, List}
use Rattle.apv_base.specs.model.CodedFrame.{CodedFrame, HasFrame}
use Rattle.apv_base.specs.model.Frame.{IsFrame}
use Rattle.apv_base.specs.model.Grid.{Grid}
use Rattle.apv_base.specs.model.Header.{grid_of}
use Rattle.apv_base.specs.model.Judge.{ContentBreaks}
use Rattle.apv_grid.specs.Buffer.{Buffer}
use Rattle.apv_header.specs.declared.head.HeaderRead.{HeaderRead}
use Rattle.apv_header.specs.declared.tiles.TileTable.{TileTable}
use Rattle.apv_header.specs.Read.{IsReadFrom}
use Rattle.apv_header.specs.Tiles.{AreTilesOf}
use Rattle.apv_workers.specs.declared.run.ContentBreak.{ContentBreak}
use Rattle.apv_workers.specs.Decode.{frame_read, IsDecoded, break_of}
use Rattle.apv_frame.specs.declared.decode.FrameFault.{FrameFault}
use Rattle.apv_frame.specs.declared.decode.FrameFault.TheVariants.{Broken, Memory}

-- the body breaks no rule of a frame's structure
abbrev pub IsFrameBody : List ℕ → Type 0
IsFrameBody body = (header tiles : List ℕ) × IsFrame body header tiles

-- the header and the tile table are those of the frame of the body
pub record AreParts (body : List ℕ) (head : HeaderRead) (table : TileTable) : Type 0 where
  pub header : IsReadFrom body head
  pub tiles : AreTilesOf body head table
  pub frame : HasFrame body (frame_read body head table)

-- the body is a frame of this grid
pub record HasGrid (body : List ℕ) (grid : Grid) : Type 0 where
  pub frame : CodedFrame
  pub is : HasFrame body frame
  pub same : grid ≡ grid_of frame.header

-- the body is a frame whose content breaks no rule, and the buffer has its grid and its samples
pub record HasSamples (body : List ℕ) (buffer : Buffer ℕ) : Type 0 where
  pub frame : CodedFrame
  pub is : HasFrame body frame
  pub grid : buffer.grid ≡ grid_of frame.header
  pub decoded : IsDecoded frame buffer

-- the body is a frame whose content breaks this rule first
pub record HasContentBreak (body : List ℕ) (broken : ContentBreak) : Type 0 where
  pub frame : CodedFrame
  pub is : HasFrame body frame
  pub breaks : ContentBreaks frame (break_of broken)

-- why a frame isn't decoded; memory may run out at any time
abbrev pub IsFault : List ℕ → FrameFault → Type 0
IsFault body (Broken broken) = HasContentBreak body broken
IsFault body Memory = Unit {0}
