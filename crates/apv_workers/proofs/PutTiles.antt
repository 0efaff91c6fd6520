-- The tiles of a track in bytes.
use Rattle.std.proofs.Common.{◌≡◌, ℕ, ℤ, ◌+◌, ◌-◌, ◌*◌, ◌<◌, ◌≤◌, ◌++◌, List, [], length, get_or, take, refl, sym, ap, ap₂, ◌∙◌, arith}
use Rattle.std.specs.List.{sum, concat}
use Rattle.std.proofs.lemmas.List.{length-take-le, get_or-take, ext_get_or}
use Rattle.apv_base.proofs.HeaderLemmas.{comps-few}
use Rattle.apv_base.specs.model.Bits.{be}
use Rattle.apv_base.specs.model.CodedFrame.{blocks_at, tile_size, stated_sizes}
use Rattle.apv_base.specs.model.Component.{component_bytes}
use Rattle.apv_base.specs.model.Encode.{each, frame_with}
use Rattle.apv_base.specs.model.Grid.{Grid, tile_count}
use Rattle.apv_base.specs.model.Header.{grid_of, header_comps}
use Rattle.apv_base.specs.model.Run.{MAX_UNIT}
use Rattle.apv_base.specs.model.Table.{spell, done}
use Rattle.apv_base.specs.model.Tile.{Tile, Layout, tile_header_size, tile_header_fields, tile_header_values, stated}
use Rattle.apv_grid.specs.Buffer.{Buffer}
use Rattle.apv_header.specs.Tiles.{IsTileHeader}
use Rattle.apv_workers.specs.Cuts.{part}
use Rattle.apv_workers.specs.Lengths.{tile_lengths, level_bytes, AreCounted}
use Rattle.apv_workers.specs.Put.{tile_piece, head_tile, put_start, AreReadyToPut, CanPut, IsTilePut}
use Rattle.apv_workers.specs.Track.{levels_in, length_place, tiles_bytes, tiles_size}
use Rattle.apv_workers.specs.TrackFields.{head_qps}
use Rattle.apv_workers.specs.Work.{AllReady, AllDone}
use Rattle.apv_workers.specs.declared.track.TrackHead.{TrackHead}
use Rattle.apv_workers.proofs.Coded.{length-each, get_or-each, blocks-at}
use Rattle.apv_workers.proofs.Counted.{lengths-are, sum-is, total-is, counted-has}
use Rattle.apv_workers.proofs.Entries.{comps-some}
use Rattle.apv_workers.proofs.RunParts.{part-size}
use Rattle.apv_workers.proofs.Written.{each-same, start-more, starts-rise, ArePutStarts, put-run, run-joined, tiles-spelled}

module _ (head : TrackHead) (levels : Buffer ℤ) (lengths : List ℕ) (ready : AreReadyToPut head levels lengths) where
  abbrev grid : Grid
  grid = grid_of head.header

  abbrev comps : ℕ
  comps = header_comps head.header

  has : (tile comp : ℕ) → tile < tile_count grid → comp < comps → get_or lengths (length_place tile comp) 0 ≡ length (component_bytes (blocks_at (levels_in grid levels.values) tile comp))
  has = counted-has head levels lengths ready.counted

  -- ---- one tile

  pub data-lengths : (tile : ℕ) → tile < tile_count grid → tile_lengths lengths comps tile ≡ each comps (λ comp. length (level_bytes grid levels.values tile comp))
  data-lengths tile lt =
      lengths-are head.header (head_qps head) (levels_in grid levels.values) lengths ready.four_each has tile lt
      ∙ each-same 0 comps (λ comp. length (component_bytes (blocks_at (levels_in grid levels.values) tile comp))) (λ comp. length (level_bytes grid levels.values tile comp))
      (λ comp less. ap (λ (bs : List (List ℤ)). length (component_bytes bs)) (blocks-at grid levels.values tile comp lt less))

  data-bytes : (tile : ℕ) → tile < tile_count grid → concat (each comps (level_bytes grid levels.values tile)) ≡ (head_tile head levels tile).bytes
  data-bytes tile lt =
      ap concat (each-same [] comps (level_bytes grid levels.values tile) (λ comp. component_bytes (blocks_at (levels_in grid levels.values) tile comp))
      (λ comp less. sym (ap component_bytes (blocks-at grid levels.values tile comp lt less))))

  tile-qps : (tile : ℕ) (qps : List ℕ) → length qps ≡ 4 → ((comp : ℕ) → comp < comps → get_or qps comp 0 ≡ head_qps head tile comp) → take comps qps ≡ (head_tile head levels tile).qps
  tile-qps tile qps four are =
      let long : length (take comps qps) ≡ comps = length-take-le comps qps (omega (arith, four, comps-few head.header.info.chroma)) in
      ext_get_or 0 (take comps qps) (each comps (head_qps head tile)) (long ∙ sym (length-each comps (head_qps head tile)))
      (λ comp less.
      let low : comp < comps = omega (arith, less, long) in
      get_or-take comps qps comp 0 low ∙ are comp low ∙ sym (get_or-each comps (head_qps head tile) comp 0 low))

  pub piece-is : (tile size : ℕ) (first header bytes own qps four : List ℕ) → tile < tile_count grid → first ≡ be 4 size → size ≡ tile_header_size comps + sum (tile_lengths lengths comps tile) → own ≡ tile_lengths lengths comps tile
      → qps ≡ take comps four → length four ≡ 4 → ((comp : ℕ) → comp < comps → get_or four comp 0 ≡ head_qps head tile comp) → IsTileHeader header tile own qps → bytes ≡ concat (each comps (level_bytes grid levels.values tile))
      → (layout : Layout) → layout.comps ≡ comps → first ++ (header ++ bytes) ≡ tile_piece layout tile (head_tile head levels tile)
  piece-is tile size first header bytes own qps four lt ef es eo eq el are is eb layout ec =
      let t : Tile = head_tile head levels tile in
      let of_tile : qps ≡ t.qps = eq ∙ tile-qps tile four el are in
      let count : length qps ≡ comps = ap length of_tile ∙ length-each comps (head_qps head tile) in
      let all : size ≡ tile_size layout.comps t =
      es ∙ ap (λ (n : ℕ). tile_header_size comps + n) (sum-is head.header (head_qps head) (levels_in grid levels.values) lengths ready.four_each has tile lt) ∙ ap (λ (n : ℕ). tile_header_size n + length t.bytes) (sym ec) in
      let own_is : own ≡ t.lengths = eo ∙ lengths-are head.header (head_qps head) (levels_in grid levels.values) lengths ready.four_each has tile lt in
      let written : header ≡ spell 256 (tile_header_fields layout tile (tile_size layout.comps t) done) (tile_header_values layout.comps tile t.lengths t.qps) =
      is layout (tile_size layout.comps t) (ec ∙ sym count)
      ∙ ap (λ (n : ℕ). spell 256 (tile_header_fields layout tile (tile_size layout.comps t) done) (tile_header_values n tile own qps)) (count ∙ sym ec)
      ∙ ap₂ (λ (ls qs : List ℕ). spell 256 (tile_header_fields layout tile (tile_size layout.comps t) done) (tile_header_values layout.comps tile ls qs)) own_is of_tile in
      ap₂ (λ (a b : List ℕ). a ++ b) (ef ∙ ap (be 4) all) (ap₂ (λ (a b : List ℕ). a ++ b) written (eb ∙ data-bytes tile lt))

  -- ---- all tiles

  pub room-is : (size : ℕ) → size ≡ tiles_size (frame_with head.header (head_qps head) (levels_in grid levels.values)) → size ≡ put_start lengths comps (tile_count grid)
  room-is size e = e ∙ ap (λ (n : ℕ). tile_count grid * (tile_header_size comps + 4) + n) (sym (total-is head.header (head_qps head) (levels_in grid levels.values) lengths ready.four_each has))

  pub all-put-ready : (count : ℕ) (cuts out : List ℕ) → count ≡ tile_count grid → ArePutStarts lengths comps count cuts → length out ≡ put_start lengths comps count → length out ≤ MAX_UNIT
      → AllReady (λ tile part. CanPut head levels lengths tile (length part)) cuts 0 count out
  all-put-ready count cuts out ec s room small = record {
    each = λ tile from below.
        let lt : tile < count = omega arith in
        let size = part-size cuts count out tile (put-run lengths comps count cuts out s room) lt in
        let a = s.each_is tile (omega arith) in
        let b = s.each_is (tile + 1) (omega arith) in
        let m = start-more lengths comps tile in
        let rest = starts-rise lengths comps (tile + 1) (count - (tile + 1)) in
        let end : tile + 1 + (count - (tile + 1)) ≡ count = omega arith in
        record {
          ready = ready;
          tile_exists = omega (arith, lt, ec);
          small = omega (arith, size, a, b, m, rest, ap (put_start lengths comps) end, room, small);
          room = omega (arith, size, a, b, m);
        };
  }

  pub all-put : (Sound : ℕ → Type 0) (count : ℕ) (cuts old new : List ℕ) → count ≡ tile_count grid → ArePutStarts lengths comps count cuts → length new ≡ put_start lengths comps count
      → AllDone Sound (λ tile before after. IsTilePut head levels tile after) cuts 0 count old new → new ≡ tiles_bytes (frame_with head.header (head_qps head) (levels_in grid levels.values))
  all-put Sound count cuts old new ec s room d =
      let frame = frame_with head.header (head_qps head) (levels_in grid levels.values) in
      let layout : Layout = record { comps = comps; depth = head.header.info.depth; count = tile_count grid; sizes = stated head.header.sizes_present (stated_sizes frame) } in
      run-joined cuts count new (put-run lengths comps count cuts new s room)
      ∙ ap concat (each-same [] count (λ tile. part cuts 0 new tile) (λ tile. tile_piece layout tile (head_tile head levels tile)) (λ tile lt. d.each tile (omega arith) (omega arith) layout refl))
      ∙ ap (λ (n : ℕ). concat (each n (λ tile. tile_piece layout tile (head_tile head levels tile)))) ec
      ∙ sym (tiles-spelled comps head.header.info.depth (tile_count grid) (stated head.header.sizes_present (stated_sizes frame)) (head_tile head levels) (tile_count grid) 0 (comps-some head.header.info.chroma)
      (λ t. (length-each comps (λ comp. length (component_bytes (blocks_at (levels_in grid levels.values) t comp))), length-each comps (head_qps head t))))

-- lengths of a track are counted ones
pub has-counted : (head : TrackHead) (levels : Buffer ℤ) (lengths : List ℕ)
    → ((tile comp : ℕ) → tile < tile_count (grid_of head.header) → comp < header_comps head.header → get_or lengths (length_place tile comp) 0 ≡ length (component_bytes (blocks_at (levels_in (grid_of head.header) levels.values) tile comp)))
    → AreCounted head levels lengths
has-counted head levels lengths has tile comp lt less =
    has tile comp lt less ∙ ap (λ (bs : List (List ℤ)). length (component_bytes bs)) (blocks-at (grid_of head.header) levels.values tile comp lt less)
