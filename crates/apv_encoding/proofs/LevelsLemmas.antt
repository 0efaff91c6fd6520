-- A picture has exactly one list of levels nearest to its coefficients, for a sound header and any QPs.
use Rattle.std.proofs.Common.{◌≡◌, ℕ, zero, suc, ℤ, pos, ◌+◌, ◌-◌, ◌*◌, ◌/◌, ◌%◌, ◌^◌, ◌<◌, List, [], length, get_or, subst, arith, lit<}
use Rattle.std.specs.Prelude.{slice_index}
use Rattle.std.proofs.Math.Nat.{mod-lt, suc-mul}
use Rattle.std.proofs.lemmas.List.Elements.{All-from_recursion}
use Rattle.apv_base.specs.declared.header.FrameHeader.{FrameHeader}
use Rattle.apv_base.specs.model.CodedFrame.{Levels}
use Rattle.apv_base.specs.model.Encode.{Qps, coefficient}
use Rattle.apv_base.specs.model.Grid.{tile_count, block_count}
use Rattle.apv_base.specs.model.Header.{header_comps, grid_of, flat, IsSoundHeader}
use Rattle.apv_base.specs.model.Nearest.{IsNearestBlock, AreLevelsOf}
use Rattle.apv_base.specs.model.Picture.{Samples}
use Rattle.apv_base.specs.model.Quant.{IsMatrix, scale_table, step_number, shift_of, IsNearest}
use Rattle.apv_base.specs.model.Transform.{coefficient_at}
use Rattle.apv_base.proofs.DigitsLemmas.{power_above}
use Rattle.apv_base.proofs.HeaderLemmas.{comps-few}
use Rattle.apv_base.specs.laws.Answer.{HasExactlyOne}
use Rattle.apv_laws.proofs.SpelledFieldLemmas.{all-from}
use Rattle.apv_quant.specs.Laws.{HasOneNearest}
use Rattle.apv_quant.proofs.SomeLevelLemmas.{some-level}
use Rattle.apv_encoding.proofs.ExactlyOneLemmas.{IsListOf, one-by, one-list}

-- ---- one level

-- a coefficient has exactly one nearest level
pub one-level : HasOneNearest → (c : ℤ) (s b : ℕ) → 0 < s → HasExactlyOne (IsNearest c s b)
one-level nearest c s b some =
    let level = some-level c s b in
    record { one = level.0; is = level.1; only = λ other has. nearest c s b other level.0 some has level.1 }

-- ---- a step number is above 0

scale-above : (r : ℕ) → r < 6 → 0 < slice_index scale_table r
scale-above zero lt = lit< tt
scale-above (suc zero) lt = lit< tt
scale-above (suc (suc zero)) lt = lit< tt
scale-above (suc (suc (suc zero))) lt = lit< tt
scale-above (suc (suc (suc (suc zero)))) lt = lit< tt
scale-above (suc (suc (suc (suc (suc zero))))) lt = lit< tt
scale-above (suc (suc (suc (suc (suc (suc r)))))) lt = absurd (omega arith)

product-above : (a b : ℕ) → 0 < a → 0 < b → 0 < a * b
product-above zero b p q = absurd (omega (arith, p))
product-above (suc a) b p q = omega (arith, q, suc-mul a b)

step-above : (m qp : ℕ) → 0 < m → 0 < step_number m qp
step-above m qp some =
    product-above (m * slice_index scale_table (qp % 6)) (2 ^ (qp / 6)) (product-above m (slice_index scale_table (qp % 6)) some (scale-above (qp % 6) (mod-lt qp (lit< tt)))) (power_above 2 (qp / 6) (lit< tt))

-- ---- one block

-- the level at a place of a block is nearest
abbrev NearestAt : List ℕ → ℕ → ℕ → (ℕ → ℕ → ℤ) → ℕ → ℤ → Type 0
NearestAt matrix qp depth coeff i level = IsNearest (coeff (i / 8) (i % 8)) (step_number (slice_index matrix i) qp) (shift_of depth) level

place-parts : (u v : ℕ) → v < 8 → ((8 * u + v) / 8 ≡ u) × ((8 * u + v) % 8 ≡ v)
place-parts u v lt = (omega arith, omega arith)

place-whole : (i : ℕ) → 8 * (i / 8) + i % 8 ≡ i
place-whole i = omega arith

block-there : (matrix : List ℕ) (qp depth : ℕ) (coeff : ℕ → ℕ → ℤ) (block : List ℤ) → IsListOf (NearestAt matrix qp depth coeff) (pos 0) 64 block → IsNearestBlock matrix qp depth coeff block
block-there matrix qp depth coeff block has = record {
  count = has.0;
  each = λ u v lt_u lt_v. (let parts = place-parts u v lt_v in
      subst (λ (y : ℕ). IsNearest (coeff u y) (step_number (slice_index matrix (8 * u + v)) qp) (shift_of depth) (coefficient_at block u v)) parts.1
      (subst (λ (x : ℕ). IsNearest (coeff x ((8 * u + v) % 8)) (step_number (slice_index matrix (8 * u + v)) qp) (shift_of depth) (coefficient_at block u v)) parts.0 (has.1 (8 * u + v) (omega arith))));
}

block-back : (matrix : List ℕ) (qp depth : ℕ) (coeff : ℕ → ℕ → ℤ) (block : List ℤ) → IsNearestBlock matrix qp depth coeff block → IsListOf (NearestAt matrix qp depth coeff) (pos 0) 64 block
block-back matrix qp depth coeff block h = (
  h.count,
  λ i lt. subst (λ (k : ℕ). IsNearest (coeff (i / 8) (i % 8)) (step_number (slice_index matrix k) qp) (shift_of depth) (get_or block k (pos 0))) (place-whole i) (h.each (i / 8) (i % 8) (omega arith) (omega arith)),
)

one-block : HasOneNearest → (matrix : List ℕ) (qp depth : ℕ) (coeff : ℕ → ℕ → ℤ) → IsMatrix matrix → HasExactlyOne (IsNearestBlock matrix qp depth coeff)
one-block nearest matrix qp depth coeff sound =
    one-by (IsListOf (NearestAt matrix qp depth coeff) (pos 0) 64) (IsNearestBlock matrix qp depth coeff) (block-there matrix qp depth coeff) (block-back matrix qp depth coeff)
    (one-list (NearestAt matrix qp depth coeff) (pos 0) 64 (λ i lt. one-level nearest (coeff (i / 8) (i % 8)) (step_number (slice_index matrix i) qp) (shift_of depth) (step-above (slice_index matrix i) qp (sound.each i lt).0)))

-- ---- all levels of a picture

-- the blocks of a component, those of a tile, and those of the frame
abbrev BlockAt : FrameHeader → Qps → Samples → ℕ → ℕ → ℕ → List ℤ → Type 0
BlockAt header qps samples tile comp block levels = IsNearestBlock (get_or header.matrices comp flat) (qps tile comp) header.info.depth (coefficient (grid_of header) samples tile comp block) levels

abbrev ComponentAt : FrameHeader → Qps → Samples → ℕ → ℕ → List (List ℤ) → Type 0
ComponentAt header qps samples tile comp blocks = IsListOf (BlockAt header qps samples tile comp) [] (block_count (grid_of header) tile comp) blocks

abbrev TileAt : FrameHeader → Qps → Samples → ℕ → List (List (List ℤ)) → Type 0
TileAt header qps samples tile comps = IsListOf (ComponentAt header qps samples tile) [] (header_comps header) comps

abbrev FrameOf : FrameHeader → Qps → Samples → Levels → Type 0
FrameOf header qps samples levels = IsListOf (TileAt header qps samples) [] (tile_count (grid_of header)) levels

levels-there : (header : FrameHeader) (qps : Qps) (samples : Samples) (levels : Levels) → FrameOf header qps samples levels → AreLevelsOf header qps samples levels
levels-there header qps samples levels has = record {
  tiles = has.0;
  comps = all-from (λ (tile : List (List (List ℤ))). length tile ≡ header_comps header) [] levels (λ tile lt. (has.1 tile (omega (arith, has.0, lt))).0);
  count = λ tile comp lt low. ((has.1 tile lt).1 comp low).0;
  nearest = λ tile comp block lt low few. ((has.1 tile lt).1 comp low).1 block few;
}

levels-back : (header : FrameHeader) (qps : Qps) (samples : Samples) (levels : Levels) → AreLevelsOf header qps samples levels → FrameOf header qps samples levels
levels-back header qps samples levels h = (
  h.tiles,
  λ tile lt. (
    All-from_recursion (λ (comps : List (List (List ℤ))). length comps ≡ header_comps header) levels h.comps tile [] (omega (arith, h.tiles, lt)),
    λ comp low. (h.count tile comp lt low, λ block few. h.nearest tile comp block lt low few),
  ),
)

-- the matrix of a component of a sound header
sound-matrix : (header : FrameHeader) (comp : ℕ) → IsSoundHeader header → comp < header_comps header → IsMatrix (get_or header.matrices comp flat)
sound-matrix header comp sound lt = All-from_recursion IsMatrix header.matrices sound.each comp flat (omega (arith, sound.four, comps-few header.info.chroma, lt))

pub one_levels : HasOneNearest → (header : FrameHeader) (qps : Qps) (samples : Samples) → IsSoundHeader header → HasExactlyOne (AreLevelsOf header qps samples)
one_levels nearest header qps samples sound =
    one-by (FrameOf header qps samples) (AreLevelsOf header qps samples) (levels-there header qps samples) (levels-back header qps samples)
    (one-list (TileAt header qps samples) [] (tile_count (grid_of header)) (λ tile lt.
    one-list (ComponentAt header qps samples tile) [] (header_comps header) (λ comp low.
    one-list (BlockAt header qps samples tile comp) [] (block_count (grid_of header) tile comp) (λ block few.
    one-block nearest (get_or header.matrices comp flat) (qps tile comp) header.info.depth (coefficient (grid_of header) samples tile comp block) (sound-matrix header comp sound low)))))
