use Rattle.std.proofs.Common.{ℕ, ◌^◌, ◌<◌, ◌≤◌, slice_index}
use Rattle.apv_base.specs.model.Quant.{IsMatrix, step_number}
use Rattle.apv_quant.proofs.reaching.maximum_step.Given as goal

abbrev pub invariant-loop-place : goal.invariant-loop-place
invariant-loop-place l = record {
  each : (place : ℕ) → place < l.place → step_number (slice_index l.matrix place) l.qp ≤ l.maximum;
  of_matrix : 0 < l.place → IsMatrix l.matrix;
  below : l.maximum < 2 ^ 27;
}
