-- Numbers of bytes that the data of a track have at least.
use Rattle.std.proofs.Common.{◌≡◌, ℕ, zero, suc, ℤ, pos, negsuc, ◌+◌, ◌*◌, ◌/◌, ◌%◌, ◌<◌, ◌≤◌, List, length, drop, take, get_or, sym, ap, ◌∙◌, subst, arith}
use Rattle.std.proofs.lemmas.Int.{ints}
use Rattle.std.proofs.lemmas.List.{length-take, length-drop}
use Rattle.std.specs.List.{sum}
use Rattle.std.specs.Prelude.{slice_index, slice_index_or, unsigned_abs, ◌+ℤ◌}
use Rattle.apv_base.specs.model.CodedFrame.{blocks_at}
use Rattle.apv_base.specs.model.Component.{component_bytes}
use Rattle.apv_base.specs.model.Encode.{each}
use Rattle.apv_base.specs.model.Grid.{Grid, tile_count, block_count}
use Rattle.apv_base.specs.model.Header.{grid_of, header_comps, flat}
use Rattle.apv_base.specs.model.Quant.{IsNearest, clamped, max_qp, qp_with, step_number, shift_of}
use Rattle.apv_grid.specs.Buffer.{Buffer, part_in, part_start}
use Rattle.apv_quant.specs.Reaching.{ReachLevels}
use Rattle.apv_tile.specs.Blocks.{block_at}
use Rattle.apv_tile.specs.Least.{AreReached, IsLeastLength}
use Rattle.apv_workers.specs.Least.{IsLeastOfComponent, IsLeastTotal}
use Rattle.apv_workers.specs.Lengths.{AreLengths, OfEach, tile_lengths}
use Rattle.apv_workers.specs.Track.{length_place, levels_in}
use Rattle.apv_workers.specs.TrackFields.{AreQuantised, head_qps}
use Rattle.apv_workers.specs.declared.track.TrackHead.{TrackHead}
use Rattle.apv_workers.proofs.Coded.{blocks-at}
use Rattle.apv_workers.proofs.Counted.{total-most}

-- ---- one component

-- the QP of a component of a tile is no smaller at a greater QP
clamped-rises : (most q p : ℕ) (offset : ℤ) → q ≤ p → unsigned_abs (clamped (pos 0) (pos most) (pos q +ℤ offset)) ≤ unsigned_abs (clamped (pos 0) (pos most) (pos p +ℤ offset))
clamped-rises most q p (pos n) le = grind (arith, ints)
clamped-rises most q p (negsuc n) le = grind (arith, ints)

qp-rises : (q p : ℕ) (offset : ℤ) (depth : ℕ) → q ≤ p → qp_with q offset depth ≤ qp_with p offset depth
qp-rises q p offset depth le = clamped-rises (max_qp depth) q p offset le

-- where the coefficients reach levels, each block of nearest levels has such levels
block-reached : (head : TrackHead) (coeffs : Buffer ℤ) (tile comp q block : ℕ) (sizes : List ℕ) (levels : List ℤ) → q ≤ head.q → block < block_count (grid_of head.header) tile comp
    → ReachLevels (slice_index_or head.header.matrices comp flat) (head_qps head tile comp) head.header.info.depth sizes → AreQuantised (record head { q = q }) coeffs tile comp levels
    → AreReached sizes (block_at (part_in (grid_of head.header) coeffs.values tile comp) block) (block_at levels block)
block-reached head coeffs tile comp q block sizes levels le lt reach near index place low inside few is =
    let matrix : List ℕ = slice_index_or head.header.matrices comp flat in
    let of_coeffs : List ℤ = block_at (part_in (grid_of head.header) coeffs.values tile comp) block in
    let of_levels : List ℤ = block_at levels block in
    let qp : ℕ = head_qps (record head { q = q }) tile comp in
    let whole : 8 * (place / 8) + place % 8 ≡ place = omega arith in
    let nearest : IsNearest (slice_index_or of_coeffs place (pos 0)) (step_number (slice_index matrix place) qp) (shift_of head.header.info.depth) (slice_index_or of_levels place (pos 0)) =
    subst (λ (k : ℕ). IsNearest (slice_index_or of_coeffs k (pos 0)) (step_number (slice_index matrix k) qp) (shift_of head.header.info.depth) (slice_index_or of_levels k (pos 0))) whole
    ((near block lt).each (place / 8) (place % 8) (omega (arith, inside)) (omega arith)) in
    reach index place qp (slice_index_or of_coeffs place (pos 0)) (slice_index_or of_levels place (pos 0)) low inside (qp-rises q head.q _ head.header.info.depth le) few nearest is

-- a number that levels have at least where they are reached is one for the levels nearest to the coefficients
pub least-component : (head : TrackHead) (coeffs : Buffer ℤ) (tile comp count : ℕ) (sizes : List ℕ) (values : List ℤ) → values ≡ part_in (grid_of head.header) coeffs.values tile comp
    → length values ≡ 64 * block_count (grid_of head.header) tile comp
    → ReachLevels (slice_index_or head.header.matrices comp flat) (head_qps head tile comp) head.header.info.depth sizes → IsLeastLength sizes values count → IsLeastOfComponent head coeffs tile comp count
least-component head coeffs tile comp count sizes values e many reach least levels q le long near =
    least levels (long ∙ sym many)
    (λ block lt. subst (λ (vs : List ℤ). AreReached sizes (block_at vs block) (block_at levels block)) (sym e)
    (block-reached head coeffs tile comp q block sizes levels le (omega (arith, lt, many)) reach near))

-- ---- all components

-- of that many values the last block is whole
pub last-there : (n : ℕ) (xs : List ℤ) → length xs ≤ 64 * n → ((block : ℕ) → block < n → length (block_at xs block) ≡ 64) → length xs ≡ 64 * n
last-there zero xs le long = omega (arith, le)
last-there (suc n) xs le long = omega (arith, le, long n (omega arith), length-take 64 (drop (64 * n) xs), length-drop (64 * n) xs)

at-most : (n : ℕ) (xs : List ℤ) → length (take n xs) ≤ n
at-most n xs = omega (arith, length-take n xs)

-- the numbers of all components make one of the track
pub least-total : (head : TrackHead) (coeffs : Buffer ℤ) (lengths : List ℕ) (frame : Buffer ℕ) (of_levels : List ℤ) (of_lengths : List ℕ) (of_q total : ℕ)
    → length lengths ≡ 4 * tile_count (grid_of head.header) → AreLengths head.header (IsLeastOfComponent head coeffs) lengths
    → total ≡ sum (each (tile_count (grid_of head.header)) (λ tile. sum (tile_lengths lengths (header_comps head.header) tile)))
    → IsLeastTotal (record {
      header = head.header;
      offsets = head.offsets;
      tile_offsets = head.tile_offsets.items;
      frame = frame;
      coeffs = coeffs.values;
      levels = of_levels;
      lengths = of_lengths;
      q = of_q;
    }) head.q total
least-total head coeffs lengths frame of_levels of_lengths of_q total four counted is q levels le near =
    let grid : Grid = grid_of head.header in
    let most : OfEach head.header (λ tile comp. get_or lengths (length_place tile comp) 0 ≤ length (component_bytes (blocks_at (levels_in grid levels) tile comp))) =
    λ tile comp lt less.
    let there = last-there (block_count grid tile comp) (part_in grid levels tile comp) (at-most (64 * block_count grid tile comp) (drop (part_start grid tile comp) levels))
    (λ block inside. (near tile comp block lt less inside).count) in
    let bytes = counted tile comp lt less (part_in grid levels tile comp) q le there (λ block inside. near tile comp block lt less inside) in
    omega (arith, bytes, ap (λ (bs : List (List ℤ)). length (component_bytes bs)) (blocks-at grid levels tile comp lt less)) in
    omega (arith, is, total-most head.header (head_qps (record head { q = q })) (levels_in grid levels) lengths four most)
