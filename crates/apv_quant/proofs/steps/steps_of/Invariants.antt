use Rattle.std.proofs.Common.{◌≡◌, ℕ, ◌+◌, ◌^◌, ◌<◌, length, slice_index}
use Rattle.apv_base.specs.model.Quant.{step_number, shift_of}
use Rattle.apv_quant.proofs.steps.steps_of.Given as goal

abbrev pub invariant-loop-place : goal.invariant-loop-place
invariant-loop-place l = record {
  count : length l.steps ≡ 64;
  each : (k : ℕ) → k < l.place → slice_index l.steps k ≡ step_number (slice_index l.matrix k) l.qp;
  below : (k : ℕ) → k < l.place → slice_index l.steps k < 2 ^ 27;
  within : (k : ℕ) → k < l.place → slice_index l.steps k < 2 ^ (16 + shift_of l.depth);
}
