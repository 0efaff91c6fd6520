-- What the entries of a table of tiles say of the body.
use Rattle.std.proofs.Common.{◌≡◌, ℕ, zero, suc, ◌+◌, ◌-◌, ◌<◌, ◌≤◌, List, [], ◌∷◌, length, get_or, take, drop, map, ap, ◌∙◌, subst, arith}
use Rattle.std.specs.List.{AllByRecursion}
use Rattle.std.proofs.lemmas.List.{get_or-take, length-take, length-map}
use Rattle.apv_base.specs.declared.format.Chroma.{Chroma}
use Rattle.apv_base.specs.declared.format.Chroma.TheVariants.{C400, C422, C444, C4444}
use Rattle.apv_base.specs.model.CodedFrame.{IsTile}
use Rattle.apv_base.specs.model.Format.{comps_of}
use Rattle.apv_base.specs.model.Grid.{tile_count}
use Rattle.apv_base.specs.model.Header.{header_comps, grid_of}
use Rattle.apv_base.specs.model.Quant.{max_qp}
use Rattle.apv_base.specs.model.Tile.{Tile, tile_header_size, layout_of}
use Rattle.apv_header.specs.Tiles.{ArePlaced, HasCounts, tile_of_entry}
use Rattle.apv_header.specs.declared.head.HeaderRead.{HeaderRead}
use Rattle.apv_header.specs.declared.tiles.TileEntry.{TileEntry}
use Rattle.apv_header.specs.declared.tiles.TileTable.{TileTable}
use Rattle.apv_workers.specs.Decode.{Fits, HasQps, WereRead}
use Rattle.apv_workers.proofs.TileWalk.{IsTileWithin, tiles-within}

-- an item of a list of which each is so
pub all-at : {A : Type 0} (P : A → Type 0) (xs : List A) (i : ℕ) (d : A) → AllByRecursion P xs → i < length xs → P (get_or xs i d)
all-at P [] i d all lt = absurd (omega arith)
all-at P (x ∷ xs) zero d all lt = all.0
all-at P (x ∷ xs) (suc i) d all lt = all-at P xs i d all.1 (omega arith)

pub comps-some : (chroma : Chroma) → 1 ≤ comps_of chroma
comps-some C400 = omega arith
comps-some C422 = omega arith
comps-some C444 = omega arith
comps-some C4444 = omega arith

-- the tiles of entries have a length and a QP for each component
tiles-whole : (body : List ℕ) (comps : ℕ) (entries : List TileEntry) → AllByRecursion (HasCounts body comps) entries → AllByRecursion (IsTile comps) (map (tile_of_entry body comps) entries)
tiles-whole body comps [] all = tt
tiles-whole body comps (entry ∷ entries) all = (all.0, tiles-whole body comps entries all.1)

-- tiles end where the last of them ends
placed-end : (comps from : ℕ) (entries : List TileEntry) (end : ℕ) → ArePlaced comps from entries end → from ≤ end
placed-end comps from [] end p = omega (arith, p)
placed-end comps from (entry ∷ entries) end p =
    let more = placed-end comps (entry.place + entry.size) entries end p.2 in
    omega (arith, p.0, more)

-- a tile ends no later than the last, and has room for its header
placed-at : (comps from : ℕ) (entries : List TileEntry) (end i : ℕ) (d : TileEntry) → ArePlaced comps from entries end → i < length entries
    → ((get_or entries i d).place + (get_or entries i d).size ≤ end) × (tile_header_size comps ≤ (get_or entries i d).size)
placed-at comps from [] end i d p lt = absurd (omega arith)
placed-at comps from (entry ∷ entries) end zero d p lt = (placed-end comps (entry.place + entry.size) entries end p.2, p.1)
placed-at comps from (entry ∷ entries) end (suc i) d p lt = placed-at comps (entry.place + entry.size) entries end i d p.2 (omega arith)

-- each tile of the table is within
tiles-of : (body : List ℕ) (head : HeaderRead) (table : TileTable) → WereRead body head table → AllByRecursion (IsTileWithin head.header.info.depth) (map (tile_of_entry body (header_comps head.header)) table.tiles.items)
tiles-of body head table r =
    let comps : ℕ = header_comps head.header in
    let tiles : List Tile = map (tile_of_entry body comps) table.tiles.items in
    let len : length tiles ≡ tile_count (grid_of head.header) = length-map table.tiles.items (tile_of_entry body comps) ∙ r.tiles.count in
    tiles-within (layout_of head.header head.sizes.items) (tile_count (grid_of head.header)) 0 (drop head.len body) tiles (drop table.end body) (comps-some head.header.info.chroma) len
    (tiles-whole body comps table.tiles.items r.tiles.counts) r.tiles.walked

-- the tile of an entry
tile-at : (body : List ℕ) (comps : ℕ) (entries : List TileEntry) (P : Tile → Type 0) (i : ℕ) (d : TileEntry) → AllByRecursion P (map (tile_of_entry body comps) entries) → i < length entries → P (tile_of_entry body comps (get_or entries i d))
tile-at body comps [] P i d all lt = absurd (omega arith)
tile-at body comps (entry ∷ entries) P zero d all lt = all.0
tile-at body comps (entry ∷ entries) P (suc i) d all lt = tile-at body comps entries P i d all.1 (omega arith)

module _ (body : List ℕ) (head : HeaderRead) (table : TileTable) (tile : ℕ) (d : TileEntry) (r : WereRead body head table) (lt : tile < tile_count head.grid) where
  abbrev comps : ℕ
  comps = header_comps head.header

  abbrev entry : TileEntry
  entry = get_or table.tiles.items tile d

  within-table : tile < length table.tiles.items
  within-table = let e : tile_count head.grid ≡ tile_count (grid_of head.header) = ap tile_count r.header.grid in omega (arith, lt, e, r.tiles.count)

  within : IsTileWithin head.header.info.depth (tile_of_entry body comps entry)
  within = tile-at body comps table.tiles.items (IsTileWithin head.header.info.depth) tile d (tiles-of body head table r) within-table

  pub entry-fits : Fits body comps entry
  entry-fits =
      let p = placed-at comps head.len table.tiles.items table.end tile d r.tiles.placed within-table in
      let w = within.bytes in
      let i = r.tiles.inside in
      record {
        inside = omega (arith, p.0, i);
        components = omega (arith, p.1, w, length-take (entry.size - tile_header_size comps) (drop (entry.place + tile_header_size comps) body));
      }

  pub entry-qps : HasQps comps head.header.info.depth entry
  entry-qps = λ comp less.
      let len : length (take comps entry.qp) ≡ comps = (all-at (HasCounts body comps) table.tiles.items tile d r.tiles.counts within-table).qps in
      let at = all-at (λ (qp : ℕ). qp ≤ max_qp head.header.info.depth) (take comps entry.qp) comp 0 within.qps (omega (arith, len, less)) in
      subst (λ (qp : ℕ). qp ≤ max_qp head.header.info.depth) (get_or-take comps entry.qp comp 0 less) at
