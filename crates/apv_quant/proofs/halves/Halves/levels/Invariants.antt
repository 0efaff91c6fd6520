use Rattle.std.proofs.Common.{◌≡◌, ℕ, ◌+◌, ◌*◌, ◌^◌, ◌<◌, ◌≤◌, length, pos, slice_index, slice_index_or}
use Rattle.std.specs.Prelude.{unsigned_abs}
use Rattle.apv_quant.specs.Quotient.{short_level}
use Rattle.apv_quant.proofs.halves.Halves.levels.Given as goal

abbrev pub invariant-loop-place : goal.invariant-loop-place
invariant-loop-place l = record {
  count : length l.levels ≡ 64;
  few : (k : ℕ) → k < l.place → unsigned_abs (slice_index_or l.coeffs k (pos 0)) ≤ 2 ^ 15;
  levels : (k : ℕ) → k < l.place → slice_index_or l.levels k (pos 0) ≡ short_level (slice_index_or l.coeffs k (pos 0)) (slice_index l.self.high k * 2 ^ 16 + slice_index l.self.low k);
}
