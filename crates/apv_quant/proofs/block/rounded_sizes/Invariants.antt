use Rattle.std.proofs.Common.{◌≡◌, ℕ, ◌^◌, ◌<◌, ◌≤◌, length, pos, slice_index, slice_index_or}
use Rattle.apv_quant.specs.Quotient.{rounded_size}
use Rattle.apv_quant.proofs.block.rounded_sizes.Given as goal

abbrev pub invariant-loop-place : goal.invariant-loop-place
invariant-loop-place l = record {
  count : length l.sizes ≡ 64;
  sizes : (k : ℕ) → k < l.place → slice_index l.sizes k ≡ rounded_size (slice_index_or l.coeffs k (pos 0)) (slice_index l.steps k) l.shift;
  few : (k : ℕ) → k < l.place → slice_index l.sizes k ≤ 2 ^ 27;
}
