-- The blocks that the passes of the two transforms make.
use Rattle.std.proofs.Common.{◌≡◌, ℕ, ◌+◌, ◌-◌, ◌*◌, ◌/◌, ◌%◌, ◌^◌, ◌<◌, ◌≤◌, List, [], ◌∷◌, get_or, sym, subst, ap, ◌∙◌, arith}
use Rattle.std.specs.Prelude.{ℤ, pos, negsuc, ◌*ℤ◌, slice_index}
use Rattle.std.proofs.lemmas.Int.{ints, clamps}
use Rattle.apv_base.specs.model.Quant.{clamped}
use Rattle.apv_base.specs.model.Transform.{transform_entry, sum_8, rounded, column_sum, residual, sample_of, row_sum, coefficient_of, coefficient_at, residual_at}
use Rattle.apv_transform.specs.Line.{IsBounded, value_at}
use Rattle.apv_transform.specs.Lanes.{lane_at, AreLanesBounded, AreLanesHalved}
use Rattle.apv_transform.specs.Pass.{inverse_of, forward_of}
use Rattle.apv_transform.specs.Sample.{sample_of_residual, AreSamplesOfSums}
use Rattle.apv_transform.specs.Laws.{IsResidual}
use Rattle.apv_transform.proofs.Bounds.{same_within}
use Rattle.apv_transform.proofs.Passes.{sums_halved, unclamped}
use Rattle.apv_transform.proofs.Places.{each_of_8}
use Rattle.apv_transform.proofs.Samples.{each_depth, sample_below}
use Rattle.apv_transform.proofs.Sums.{inverse_same, forward_same}
use Rattle.apv_transform.proofs.Ranges.{row_sum_within, coefficient_within}

-- a place as its row and its column
each_place : (P : ℕ → Type 0) → ((row column : ℕ) → row < 8 → column < 8 → P (8 * row + column)) → (place : ℕ) → place < 64 → P place
each_place P each place small = subst P (omega arith) (each (place / 8) (place % 8) (omega arith) (omega arith))

-- ---- forward

module _ (samples : List ℕ) (depth : ℕ) (low : 10 ≤ depth) (high : depth ≤ 12) (below : (place : ℕ) → place < 64 → slice_index samples place < 2 ^ depth)
    (residuals sums : List (List ℤ)) (residuals_are : (y x : ℕ) → y < 8 → x < 8 → lane_at residuals y x ≡ residual_at samples depth y x)
    (sums_are : (y v : ℕ) → y < 8 → v < 8 → lane_at sums y v ≡ forward_of (depth - 6) (lane_at residuals y) v) where
  is_residual : (y x : ℕ) → y < 8 → x < 8 → IsResidual depth (residual_at samples depth y x)
  is_residual y x hy hx =
      let s : slice_index samples (8 * y + x) < 2 ^ depth = below (8 * y + x) (omega arith) in
      each_depth (λ n. slice_index samples (8 * y + x) < 2 ^ n → IsResidual n (residual_at samples n y x))
      (λ b. (omega (arith, ints), omega (arith, ints))) (λ b. (omega (arith, ints), omega (arith, ints))) (λ b. (omega (arith, ints), omega (arith, ints)))
      depth low high s

  pub sums_are_halved : AreLanesHalved 8 sums
  sums_are_halved =
      sums_halved residuals sums depth low high (λ y x hy hx. subst (IsResidual depth) (sym (residuals_are y x hy hx)) (is_residual y x hy hx)) sums_are

  row_sums_are : (y v : ℕ) → y < 8 → v < 8 → lane_at sums y v ≡ row_sum (residual_at samples depth) depth y v
  unfolding row_sum
  row_sums_are y v hy hv = sums_are y v hy hv ∙ forward_same (depth - 6) (lane_at residuals y) (residual_at samples depth y) v (λ x hx. residuals_are y x hy hx)

  module _ (columns : List (List ℤ)) (columns_are : (u v : ℕ) → u < 8 → v < 8 → lane_at columns u v ≡ forward_of 9 (λ y. lane_at sums y v) u) where
    pub coefficients_are : (u v : ℕ) → u < 8 → v < 8 → lane_at columns u v ≡ coefficient_of (residual_at samples depth) depth u v
    unfolding coefficient_of
    coefficients_are u v hu hv =
        columns_are u v hu hv ∙ forward_same 9 (λ y. lane_at sums y v) (λ y. row_sum (residual_at samples depth) depth y v) u (λ y hy. row_sums_are y v hy hv)

    pub coefficients_within : AreLanesBounded 16384 8 columns
    coefficients_within u hu v hv =
        same_within (coefficients_are u v hu hv) (coefficient_within (residual_at samples depth) depth v
        (λ y hy. row_sum_within (residual_at samples depth) depth y low high (λ x hx. is_residual y x hy hx) v hv) u hu)

    module _ (narrow : List (List ℤ)) (result : List ℤ) (narrow_are : (u v : ℕ) → u < 8 → v < 8 → lane_at narrow u v ≡ clamped (negsuc 32767) (pos 32767) (lane_at columns u v))
        (result_is : (u v : ℕ) → u < 8 → v < 8 → coefficient_at result u v ≡ lane_at narrow u v) where
      narrow_is : (u v : ℕ) → u < 8 → v < 8 → coefficient_at result u v ≡ lane_at columns u v
      narrow_is u v hu hv = result_is u v hu hv ∙ narrow_are u v hu hv ∙ unclamped (lane_at columns u v) (coefficients_within u hu v hv)

      pub block_is : (u v : ℕ) → u < 8 → v < 8 → coefficient_at result u v ≡ coefficient_of (residual_at samples depth) depth u v
      block_is u v hu hv = narrow_is u v hu hv ∙ coefficients_are u v hu hv

      pub block_within : (place : ℕ) → place < 64 → IsBounded 16384 (value_at result place)
      block_within = each_place _ (λ u v hu hv. same_within (narrow_is u v hu hv) (coefficients_within u hu v hv))

-- ---- inverse

-- a block from its eight rows
pub rows_make : {a b c d e f g h : List ℕ} (rows : List (List ℕ)) (block : List ℕ) → rows ≡ a ∷ b ∷ c ∷ d ∷ e ∷ f ∷ g ∷ h ∷ [] → (F : ℕ → ℕ → ℕ)
    → ((x : ℕ) → x < 8 → slice_index a x ≡ F 0 x) → ((x : ℕ) → x < 8 → slice_index b x ≡ F 1 x) → ((x : ℕ) → x < 8 → slice_index c x ≡ F 2 x) → ((x : ℕ) → x < 8 → slice_index d x ≡ F 3 x)
    → ((x : ℕ) → x < 8 → slice_index e x ≡ F 4 x) → ((x : ℕ) → x < 8 → slice_index f x ≡ F 5 x) → ((x : ℕ) → x < 8 → slice_index g x ≡ F 6 x) → ((x : ℕ) → x < 8 → slice_index h x ≡ F 7 x)
    → ((y x : ℕ) → y < 8 → x < 8 → slice_index block (8 * y + x) ≡ slice_index (get_or rows y []) x)
    → (y x : ℕ) → y < 8 → x < 8 → slice_index block (8 * y + x) ≡ F y x
rows_make {a = a} {b = b} {c = c} {d = d} {e = e} {f = f} {g = g} {h = h} rows block is F ea eb ec ed ee ef eg eh stored y x hy hx =
    stored y x hy hx ∙ ap (λ rows. slice_index (get_or rows y []) x) is
    ∙ each_of_8 (λ y. slice_index (get_or (a ∷ b ∷ c ∷ d ∷ e ∷ f ∷ g ∷ h ∷ []) y []) x ≡ F y x)
    (ea x hx) (eb x hx) (ec x hx) (ed x hx) (ee x hx) (ef x hx) (eg x hx) (eh x hx) y hy

pub transposed_within : {m : ℕ} (block result : List (List ℤ)) → ((u v : ℕ) → u < 8 → v < 8 → lane_at result u v ≡ lane_at block v u) → AreLanesBounded m 8 block → AreLanesBounded m 8 result
transposed_within block result are within u hu v hv = same_within (are u v hu hv) (within v hv u hu)

-- the second pass over rows, with rows and columns exchanged before and after
pub second_pass : (depth : ℕ) (sums turned residuals block : List (List ℤ)) → ((u v : ℕ) → u < 8 → v < 8 → lane_at turned u v ≡ lane_at sums v u)
    → ((x y : ℕ) → x < 8 → y < 8 → lane_at residuals x y ≡ rounded (20 - depth) (sum_8 (λ v. transform_entry v x *ℤ lane_at turned v y)))
    → ((u v : ℕ) → u < 8 → v < 8 → lane_at block u v ≡ lane_at residuals v u)
    → (y x : ℕ) → y < 8 → x < 8 → lane_at block y x ≡ inverse_of (20 - depth) (lane_at sums y) x
second_pass depth sums turned residuals block turned_are residuals_are block_is y x hy hx =
    block_is y x hy hx ∙ residuals_are x y hx hy ∙ inverse_same (20 - depth) (λ v. lane_at turned v y) (lane_at sums y) x (λ v hv. turned_are v y hv hy)

module _ (sums : List (List ℤ)) (depth : ℕ) (samples : List ℕ) (are : AreSamplesOfSums depth sums samples) where
  pub samples_are : (d : ℕ → ℕ → ℤ) → ((y v : ℕ) → y < 8 → v < 8 → lane_at sums y v ≡ column_sum d y v)
      → (y x : ℕ) → y < 8 → x < 8 → slice_index samples (8 * y + x) ≡ sample_of d depth y x
  unfolding residual
  samples_are d sums_are y x hy hx =
      are y x hy hx ∙ ap (λ r. sample_of_residual r depth) (inverse_same (20 - depth) (lane_at sums y) (λ v. column_sum d y v) x (λ v hv. sums_are y v hy hv))

  pub samples_below : 10 ≤ depth → depth ≤ 12 → (place : ℕ) → place < 64 → slice_index samples place < 2 ^ depth
  samples_below low high =
      each_place (λ place. slice_index samples place < 2 ^ depth) (λ y x hy hx.
      subst (λ n. n < 2 ^ depth) (sym (are y x hy hx)) (sample_below (inverse_of (20 - depth) (lane_at sums y) x) depth low high))

-- a lane inside a clamp is what was clamped
pub inner_is : (n z : ℤ) → n ≡ clamped (negsuc 32767) (pos 32767) z → IsBounded 32766 n → n ≡ z
inner_is n z e h = omega (arith, ints, clamps)

pub column_sum_same : (d e : ℕ → ℕ → ℤ) (y v : ℕ) → ((u : ℕ) → u < 8 → d u v ≡ e u v) → column_sum d y v ≡ column_sum e y v
unfolding column_sum
column_sum_same d e y v same = inverse_same 7 (λ u. d u v) (λ u. e u v) y same
