-- The coefficients of a track have nearest levels at each QP.
use Rattle.std.proofs.Common.{◌≡◌, ℕ, ℤ, pos, ◌+◌, ◌*◌, ◌/◌, ◌%◌, ◌<◌, List, length, take, drop, refl, sym, ap, ap₂, ◌∙◌, subst, arith}
use Rattle.std.specs.Prelude.{slice_index, slice_index_or}
use Rattle.apv_base.specs.declared.header.FrameHeader.{FrameHeader}
use Rattle.apv_base.specs.model.CodedFrame.{blocks_at}
use Rattle.apv_base.specs.model.Component.{component_bytes}
use Rattle.apv_base.specs.model.Encode.{Qps, each}
use Rattle.apv_base.specs.model.Grid.{tile_count, block_count}
use Rattle.apv_base.specs.model.Header.{grid_of, header_comps, flat}
use Rattle.apv_base.specs.model.Nearest.{IsNearestBlock}
use Rattle.apv_base.specs.model.Quant.{IsNearest, step_number, shift_of}
use Rattle.apv_base.specs.model.Transform.{coefficient_at}
use Rattle.apv_base.proofs.HeaderLemmas.{comps-few}
use Rattle.apv_quant.specs.Laws.{HasSomeNearest}
use Rattle.apv_tile.specs.Blocks.{block_at}
use Rattle.apv_workers.specs.Encode.{AreNearestTo, block_in}
use Rattle.apv_workers.specs.Laws.{HasSomeLevels}
use Rattle.apv_workers.specs.Track.{length_place, levels_in, qps_of}
use Rattle.apv_workers.proofs.Coded.{get_or-each, length-each, levels-of-picture}
use Rattle.apv_workers.proofs.PlacedLemmas.{AreItemStarts, all_values, joined, joined-at, length-all, length-joined, part-given}

module _ (some : HasSomeNearest) where
  -- ---- a block

  abbrev level_for : List ℕ → ℕ → ℕ → (ℕ → ℕ → ℤ) → ℕ → ℤ
  level_for matrix qp depth coeff place = (some (coeff (place / 8) (place % 8)) (step_number (slice_index matrix place) qp) (shift_of depth)).0

  abbrev block_for : List ℕ → ℕ → ℕ → (ℕ → ℕ → ℤ) → List ℤ
  block_for matrix qp depth coeff = each 64 (level_for matrix qp depth coeff)

  long-block : (matrix : List ℕ) (qp depth : ℕ) (coeff : ℕ → ℕ → ℤ) → length (block_for matrix qp depth coeff) ≡ 64
  long-block matrix qp depth coeff = length-each 64 (level_for matrix qp depth coeff)

  nearest-block : (matrix : List ℕ) (qp depth : ℕ) (coeff : ℕ → ℕ → ℤ) → IsNearestBlock matrix qp depth coeff (block_for matrix qp depth coeff)
  nearest-block matrix qp depth coeff = record {
    count = long-block matrix qp depth coeff;
    each = λ u v low less.
        let place : ℕ = 8 * u + v in
        let row : place / 8 ≡ u = omega (arith, less) in
        let column : place % 8 ≡ v = omega (arith, less) in
        let here : ℤ = coeff (place / 8) (place % 8) in
        let near : IsNearest here (step_number (slice_index matrix place) qp) (shift_of depth) (level_for matrix qp depth coeff place) = (some here (step_number (slice_index matrix place) qp) (shift_of depth)).1 in
        let at : coefficient_at (block_for matrix qp depth coeff) u v ≡ level_for matrix qp depth coeff place = get_or-each 64 (level_for matrix qp depth coeff) place (pos 0) (omega (arith, low, less)) in
        subst (λ (l : ℤ). IsNearest (coeff u v) (step_number (slice_index matrix place) qp) (shift_of depth) l) (sym at)
        (subst (λ (c : ℤ). IsNearest c (step_number (slice_index matrix place) qp) (shift_of depth) (level_for matrix qp depth coeff place)) (ap₂ coeff row column) near);
  }

  -- ---- a track

  module _ (header : FrameHeader) (qps : Qps) (coeffs : List ℤ) where
    block_of : ℕ → ℕ → ℕ → List ℤ
    block_of tile comp block = block_for (slice_index_or header.matrices comp flat) (qps tile comp) header.info.depth (coefficient_at (block_in (grid_of header) coeffs tile comp block))

    piece : ℕ → ℕ → List ℤ
    piece tile comp = joined (block_of tile comp) (block_count (grid_of header) tile comp)

    blocks-start : (tile comp : ℕ) → AreItemStarts (block_of tile comp) (λ k. 64 * k) (block_count (grid_of header) tile comp)
    unfolding block_of
    blocks-start tile comp = record {
      first = refl;
      next = λ n lt. omega (arith, long-block (slice_index_or header.matrices comp flat) (qps tile comp) header.info.depth (coefficient_at (block_in (grid_of header) coeffs tile comp n)));
    }

    many : (tile comp : ℕ) → length (piece tile comp) ≡ 64 * block_count (grid_of header) tile comp
    unfolding piece
    many tile comp = length-joined (block_of tile comp) (λ k. 64 * k) (block_count (grid_of header) tile comp) (block_count (grid_of header) tile comp) (blocks-start tile comp) (omega arith)

    block-here : (tile comp block : ℕ) → block < block_count (grid_of header) tile comp → block_at (piece tile comp) block ≡ block_of tile comp block
    unfolding piece block_of
    block-here tile comp block lt =
        let n : ℕ = block_count (grid_of header) tile comp in
        let long : 64 ≡ length (block_of tile comp block) = sym (long-block (slice_index_or header.matrices comp flat) (qps tile comp) header.info.depth (coefficient_at (block_in (grid_of header) coeffs tile comp block))) in
        ap (λ (k : ℕ). take k (drop (64 * block) (piece tile comp))) long
        ∙ joined-at (block_of tile comp) (λ k. 64 * k) n n block (blocks-start tile comp) (omega arith) lt

    -- the levels of all blocks
    levels_for : List ℤ
    levels_for = all_values (grid_of header) piece many

    nearest-to : AreNearestTo header qps coeffs levels_for
    unfolding levels_for block_of
    nearest-to tile comp block lt less inside =
        let coeff : ℕ → ℕ → ℤ = coefficient_at (block_in (grid_of header) coeffs tile comp block) in
        let matrix : List ℕ = slice_index_or header.matrices comp flat in
        let here : block_in (grid_of header) levels_for tile comp block ≡ block_of tile comp block = ap (λ (xs : List ℤ). block_at xs block) (part-given (grid_of header) piece many tile comp lt less) ∙ block-here tile comp block inside in
        subst (λ (b : List ℤ). IsNearestBlock matrix (qps tile comp) header.info.depth coeff b) (sym here) (nearest-block matrix (qps tile comp) header.info.depth coeff)

    -- the lengths of their data
    length_for : ℕ → ℕ
    length_for i = length (component_bytes (blocks_at (levels_in (grid_of header) levels_for) (i / 4) (i % 4)))

    lengths_for : List ℕ
    lengths_for = each (4 * tile_count (grid_of header)) length_for

    lengths-there : (tile comp : ℕ) → tile < tile_count (grid_of header) → comp < header_comps header → slice_index lengths_for (length_place tile comp) ≡ length (component_bytes (blocks_at (levels_in (grid_of header) levels_for) tile comp))
    unfolding lengths_for length_for
    lengths-there tile comp lt less =
        let few = comps-few header.info.chroma in
        let row : length_place tile comp / 4 ≡ tile = omega (arith, less, few) in
        let column : length_place tile comp % 4 ≡ comp = omega (arith, less, few) in
        get_or-each (4 * tile_count (grid_of header)) length_for (length_place tile comp) 0 (omega (arith, lt, less, few))
        ∙ ap₂ (λ (t c : ℕ). length (component_bytes (blocks_at (levels_in (grid_of header) levels_for) t c))) row column

  pub some-levels : HasSomeLevels
  unfolding levels_for
  some-levels track q =
      let qps : Qps = qps_of (record track { q = q }) in (
        levels_for track.header qps track.coeffs,
        lengths_for track.header qps track.coeffs,
        (
          nearest-to track.header qps track.coeffs,
          (λ samples are. levels-of-picture track.header qps samples track.coeffs (levels_for track.header qps track.coeffs) (length-all (grid_of track.header) (piece track.header qps track.coeffs) (many track.header qps track.coeffs)) are (nearest-to track.header qps track.coeffs)),
          lengths-there track.header qps track.coeffs,
        ),
      )
