use Rattle.std.proofs.Common.{◌≡◌, ℕ, ◌^◌, ◌<◌, ◌≤◌, length, slice_index}
use Rattle.apv_quant.specs.Quotient.{quotient_by}
use Rattle.apv_quant.proofs.block.quotients.Given as goal

abbrev pub invariant-loop-place : goal.invariant-loop-place
invariant-loop-place l = record {
  count : length l.quotients ≡ 64;
  quotients : (k : ℕ) → k < l.place → slice_index l.quotients k ≡ quotient_by (slice_index l.sizes k) (slice_index l.reciprocals k);
  few : (k : ℕ) → k < l.place → slice_index l.quotients k ≤ 2 ^ 27;
}
