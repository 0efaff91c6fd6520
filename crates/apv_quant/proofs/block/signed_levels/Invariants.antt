use Rattle.std.proofs.Common.{◌≡◌, ℕ, ◌<◌, length, pos, int_lt, slice_index, slice_index_or}
use Rattle.apv_quant.specs.Quotient.{level_of}
use Rattle.apv_quant.proofs.block.signed_levels.Given as goal

abbrev pub invariant-loop-place : goal.invariant-loop-place
invariant-loop-place l = record {
  count : length l.levels ≡ 64;
  levels : (k : ℕ) → k < l.place → slice_index_or l.levels k (pos 0) ≡ level_of (int_lt (slice_index_or l.coeffs k (pos 0)) (pos 0)) (slice_index l.sizes k);
}
