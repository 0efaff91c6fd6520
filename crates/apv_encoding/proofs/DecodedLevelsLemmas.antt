-- The levels nearest to a picture's coefficients are blocks that a frame can have, and the QPs of the tracks are
-- permitted.
use Rattle.std.proofs.Common.{◌≡◌, ℕ, ℤ, pos, negsuc, ◌+ℤ◌, ◌+◌, ◌*◌, ◌/◌, ◌%◌, ◌^◌, ◌<◌, ◌≤◌, List, [], length, get_or, sym, subst, arith, lit<, inl, inr}
use Rattle.std.specs.Prelude.{unsigned_abs}
use Rattle.std.proofs.lemmas.Bool.{cases_lt, lt-ltb, le-ltb}
use Rattle.std.proofs.lemmas.List.{get_or_past}
use Rattle.std.proofs.lemmas.List.Elements.{All-from_recursion}
use Rattle.apv_base.specs.declared.header.FrameHeader.{FrameHeader}
use Rattle.apv_base.specs.model.CodedFrame.{Levels, blocks_at}
use Rattle.apv_base.specs.model.Component.{IsBlock, AreBlocks}
use Rattle.apv_base.specs.model.Encode.{Qps, coefficient}
use Rattle.apv_base.specs.model.Grid.{tile_count}
use Rattle.apv_base.specs.model.Header.{header_comps, grid_of, flat}
use Rattle.apv_base.specs.model.Nearest.{IsNearestBlock, AreLevelsOf, primary_qps, plain_qps}
use Rattle.apv_base.specs.model.Picture.{Samples}
use Rattle.apv_base.specs.model.Quant.{max_qp, clamped, IsLevel}
use Rattle.apv_base.specs.model.Scan.{scan}
use Rattle.apv_laws.specs.Fits.{ArePermittedQps, AreLevelsFor}
use Rattle.apv_laws.proofs.SpelledFieldLemmas.{all-from}

-- ---- QPs

clamped-small : (m : ℕ) (z : ℤ) → unsigned_abs (clamped (pos 0) (pos m) z) ≤ m
clamped-small m (pos n) = elim (cases_lt n m) [
  | inl lt ↦ rw (lt-ltb n m lt, le-ltb n 0 (omega arith)) (omega (arith, lt))
  | inr ge ↦ rw (le-ltb n m ge, le-ltb m 0 (omega arith)) (omega arith)
]
clamped-small m (negsuc n) = omega arith

-- the QPs of a primary frame are kept below the maximum
pub primary-permitted : (header : FrameHeader) (offset tile_offset : ℕ → ℤ) (q : ℕ) → ArePermittedQps header (primary_qps header.info.depth offset tile_offset q)
primary-permitted header offset tile_offset q tile comp lt low = clamped-small (max_qp header.info.depth) _

-- those of a preview, depth or alpha frame too
pub plain-permitted : (header : FrameHeader) (q : ℕ) → ArePermittedQps header (plain_qps header.info.depth q)
plain-permitted header q tile comp lt low = clamped-small (max_qp header.info.depth) (pos q +ℤ pos 0)

-- ---- blocks

place-whole : (i : ℕ) → 8 * (i / 8) + i % 8 ≡ i
place-whole i = omega arith

-- a level of a block, and 0 outside of it, is permitted
level-permitted : (matrix : List ℕ) (qp depth : ℕ) (coeff : ℕ → ℕ → ℤ) (block : List ℤ) → IsNearestBlock matrix qp depth coeff block → (i : ℕ) → IsLevel (get_or block i (pos 0))
level-permitted matrix qp depth coeff block h i = elim (cases_lt i 64) [
  | inl lt ↦ subst (λ (k : ℕ). IsLevel (get_or block k (pos 0))) (place-whole i) (h.each (i / 8) (i % 8) (omega arith) (omega arith)).permitted
  | inr ge ↦ subst IsLevel (sym (get_or_past block i (pos 0) (omega (arith, h.count, ge)))) (let zero : 0 < 2 ^ 15 = lit< tt in zero)
]

block-is : (matrix : List ℕ) (qp depth : ℕ) (coeff : ℕ → ℕ → ℤ) (block : List ℤ) → IsNearestBlock matrix qp depth coeff block → IsBlock block
block-is matrix qp depth coeff block h = record { count = h.count; levels = λ p. level-permitted matrix qp depth coeff block h (scan p) }

none-there : (tiles : Levels) (tile comp : ℕ) → length tiles ≤ tile → AreBlocks (blocks_at tiles tile comp)
none-there tiles tile comp le = subst (λ (comps : List (List (List ℤ))). AreBlocks (get_or comps comp [])) (sym (get_or_past tiles tile [] le)) tt

none-in-tile : (comps : List (List (List ℤ))) (comp : ℕ) → length comps ≤ comp → AreBlocks (get_or comps comp [])
none-in-tile comps comp le = subst AreBlocks (sym (get_or_past comps comp [] le)) tt

-- the levels of a picture are blocks
pub levels-fit : (header : FrameHeader) (qps : Qps) (samples : Samples) (levels : Levels) → AreLevelsOf header qps samples levels → AreLevelsFor header levels
levels-fit header qps samples levels h = record {
  tiles = h.tiles;
  comps = h.comps;
  count = h.count;
  blocks = λ tile comp. elim (cases_lt tile (tile_count (grid_of header))) [
    | inl lt ↦ elim (cases_lt comp (header_comps header)) [
      | inl low ↦ all-from IsBlock [] (blocks_at levels tile comp) (λ block few.
          block-is (get_or header.matrices comp flat) (qps tile comp) header.info.depth (coefficient (grid_of header) samples tile comp block) (get_or (blocks_at levels tile comp) block [])
          (h.nearest tile comp block lt low (omega (arith, h.count tile comp lt low, few))))
      | inr high ↦ none-in-tile (get_or levels tile []) comp
          (omega (arith, high, All-from_recursion (λ (comps : List (List (List ℤ))). length comps ≡ header_comps header) levels h.comps tile [] (omega (arith, h.tiles, lt))))
    ]
    | inr ge ↦ none-there levels tile comp (omega (arith, h.tiles, ge))
  ];
}
