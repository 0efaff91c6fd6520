-- The header and the tiles that are read of the body of a frame are those of the frame.
use Rattle.std.proofs.Common.{◌≡◌, ℕ, List, [], ◌∷◌, drop, map, sym, ap, ◌∙◌, subst, Result, Ok, Err}
use Rattle.std.specs.Prelude.{OnOk}
use Rattle.std.specs.List.{AllByRecursion}
use Rattle.apv_base.specs.declared.rules.TileBreak.{TileBreak}
use Rattle.apv_base.specs.declared.rules.HeadEnd.{HeadEnd}
use Rattle.apv_base.specs.model.Bits.{bits, AreBytes}
use Rattle.apv_base.specs.model.CodedFrame.{CodedFrame, HasFrame, IsTile, head_values}
use Rattle.apv_base.specs.model.Grid.{Grid}
use Rattle.apv_base.specs.model.Judge.{ContentBreaks}
use Rattle.apv_base.specs.model.Header.{header_values, header_comps, grid_of}
use Rattle.apv_base.specs.model.Tile.{tiles_values}
use Rattle.apv_base.proofs.CodedFrameLemmas.{header-same, tiles-same, same-frame, one-frame}
use Rattle.apv_base.proofs.FoundFrameLemmas.{some-frame}
use Rattle.apv_base.proofs.FrameLemmas.{same-tiles}
use Rattle.apv_base.proofs.TableLemmas.{pair_of-Ok}
use Rattle.apv_header.specs.declared.head.HeaderRead.{HeaderRead}
use Rattle.apv_header.specs.declared.tiles.TileEntry.{TileEntry}
use Rattle.apv_header.specs.declared.tiles.TileTable.{TileTable}
use Rattle.apv_header.specs.Read.{IsReadFrom, FrameHeaderBreaks}
use Rattle.apv_header.proofs.FrameWalks.{tiles-by-values}
use Rattle.apv_header.specs.Tiles.{tile_of_entry, HasCounts, AreTilesOf, TilesBreak}
use Rattle.apv_grid.specs.Buffer.{Buffer}
use Rattle.apv_workers.specs.declared.run.ContentBreak.{ContentBreak}
use Rattle.apv_workers.specs.Decode.{frame_read, IsDecoded, break_of}
use Rattle.apv_frame.specs.Frame.{IsFrameBody, AreParts, HasGrid, HasSamples, HasContentBreak}

-- each tile of the table has a length and a QP for each component
each-tile : (body : List ℕ) (comps : ℕ) (entries : List TileEntry) → AllByRecursion (HasCounts body comps) entries → AllByRecursion (IsTile comps) (map (tile_of_entry body comps) entries)
each-tile body comps [] all = tt {0}
each-tile body comps (entry ∷ entries) all = (all.0, each-tile body comps entries all.1)

-- what was read is the frame
pub read-is : (body : List ℕ) (head : HeaderRead) (table : TileTable) (frame : CodedFrame) → IsReadFrom body head → AreTilesOf body head table → HasFrame body frame → frame_read body head table ≡ frame
read-is body head table frame is tiles has =
    let heads = pair_of-Ok (sym is.walked ∙ has.walked) in
    let header = header-same head.header frame.header head.sizes.items _ is.header has.header heads.0 in
    let comps : header_comps head.header ≡ header_comps frame.header = ap header_comps header in
    let walks = same-tiles body (header_values head.header head.sizes.items) (bits (drop head.len body)) (head_values frame) has.left is.walked has.walked in
    let values = pair_of-Ok (sym tiles.walked ∙ sym (tiles-by-values body head is) ∙ walks ∙ has.walked_tiles) in
    let all : AllByRecursion (IsTile (header_comps head.header)) frame.tiles = subst (λ (n : ℕ). AllByRecursion (IsTile n) frame.tiles) (sym comps) has.tiles in
    same-frame (frame_read body head table) frame header
    (tiles-same (header_comps head.header) 0 (map (tile_of_entry body (header_comps head.header)) table.tiles.items) frame.tiles
    (each-tile body (header_comps head.header) table.tiles.items tiles.counts) all
    (values.0 ∙ ap (λ (n : ℕ). tiles_values n 0 frame.tiles) (sym comps)))

-- the header of a frame breaks no rule
pub header-sound : {A : Type 0} (body : List ℕ) (frame : CodedFrame) (end : HeadEnd) → HasFrame body frame → FrameHeaderBreaks body end → A
header-sound body frame end has broken = absurd (let no : ⊥ = cc (has.walked, broken) in no)

-- its tiles break no rule
pub tiles-sound : {A : Type 0} (body : List ℕ) (head : HeaderRead) (frame : CodedFrame) (broken : TileBreak) → IsReadFrom body head → HasFrame body frame → TilesBreak body head broken → A
tiles-sound body head frame broken is has breaks =
    let walks = same-tiles body (header_values head.header head.sizes.items) (bits (drop head.len body)) (head_values frame) has.left is.walked has.walked in
    let same = sym breaks ∙ sym (tiles-by-values body head is) ∙ walks ∙ has.walked_tiles in
    absurd (let no : ⊥ = cc same in no)

-- the header and the tile table that are read are those of the frame
pub parts-are : (body : List ℕ) (head : HeaderRead) (table : TileTable) (frame : CodedFrame) → IsReadFrom body head → AreTilesOf body head table → HasFrame body frame → AreParts body head table
parts-are body head table frame is tiles has = record {
  header = is;
  tiles = tiles;
  frame = subst (λ (f : CodedFrame). HasFrame body f) (sym (read-is body head table frame is tiles has)) has;
}

-- a body of bytes that breaks no rule of a frame is a frame
pub some-frame-body : (body : List ℕ) → AreBytes body → IsFrameBody body → (frame : CodedFrame) × HasFrame body frame
some-frame-body body bytes is = some-frame body is.0 is.1 bytes is.2

-- the grid of the header that is read is that of the frame
pub grid-is : (body : List ℕ) (head : HeaderRead) (frame : CodedFrame) → IsReadFrom body head → HasFrame body frame → HasGrid body head.grid
grid-is body head frame is has =
    let heads = pair_of-Ok (sym is.walked ∙ has.walked) in
    let header = header-same head.header frame.header head.sizes.items _ is.header has.header heads.0 in
    record { frame = frame; is = has; same = is.grid ∙ ap grid_of header }

-- ---- what is decoded of the parts

pub same-grid : (body : List ℕ) (head : HeaderRead) (table : TileTable) (grid : Grid) → AreParts body head table → HasGrid body grid → grid ≡ head.grid
same-grid body head table grid parts has =
    let frames = one-frame body has.frame (frame_read body head table) has.is parts.frame in
    has.same ∙ ap (λ (f : CodedFrame). grid_of f.header) frames ∙ sym parts.header.grid

pub samples-of-parts : (body : List ℕ) (head : HeaderRead) (table : TileTable) (buffer : Buffer ℕ) → AreParts body head table → buffer.grid ≡ head.grid → IsDecoded (frame_read body head table) buffer → HasSamples body buffer
samples-of-parts body head table buffer parts grid decoded = record {
  frame = frame_read body head table;
  is = parts.frame;
  grid = grid ∙ parts.header.grid;
  decoded = decoded;
}

pub break-of-parts : (body : List ℕ) (head : HeaderRead) (table : TileTable) (at : ContentBreak) → AreParts body head table → ContentBreaks (frame_read body head table) (break_of at) → HasContentBreak body at
break-of-parts body head table at parts breaks = record { frame = frame_read body head table; is = parts.frame; breaks = breaks }

-- what an Ok gives
pub on-ok : {T E P Q : Type 0} (result : Result T E) → (P → Q) → OnOk result P → OnOk result Q
on-ok (Ok value) f p = f p
on-ok (Err fault) f p = p
