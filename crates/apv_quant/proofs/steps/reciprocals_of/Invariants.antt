use Rattle.std.proofs.Common.{◌≡◌, ℕ, ◌<◌, length, slice_index}
use Rattle.apv_quant.specs.Quotient.{reciprocal_of}
use Rattle.apv_quant.proofs.steps.reciprocals_of.Given as goal

abbrev pub invariant-loop-place : goal.invariant-loop-place
invariant-loop-place l =
    (length l.reciprocals ≡ 64) × ((k : ℕ) → k < l.place → slice_index l.reciprocals k ≡ reciprocal_of (slice_index l.steps k))
