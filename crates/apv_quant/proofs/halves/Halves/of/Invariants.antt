use Rattle.std.proofs.Common.{◌≡◌, ℕ, ◌+◌, ◌*◌, ◌^◌, ◌<◌, length, slice_index}
use Rattle.apv_quant.specs.Quotient.{IsShortReciprocal}
use Rattle.apv_quant.proofs.halves.Halves.of.Given as goal

abbrev pub invariant-loop-place : goal.invariant-loop-place
invariant-loop-place l = record {
  high_count : length l.high ≡ 64;
  low_count : length l.low ≡ 64;
  each : (k : ℕ) → k < l.place → IsShortReciprocal (slice_index l.steps k) l.shift (slice_index l.high k * 2 ^ 16 + slice_index l.low k);
}
