use Rattle.std.proofs.Common.{◌≡◌, ℕ, ◌<◌, length, pos, slice_index, slice_index_or}
use Rattle.apv_base.specs.model.Quant.{scaled}
use Rattle.apv_quant.proofs.block.scaled_by_8.Given as goal

abbrev pub invariant-loop-place : goal.invariant-loop-place
invariant-loop-place l =
    (length l.coeffs ≡ 64) × ((k : ℕ) → k < l.place → slice_index_or l.coeffs k (pos 0) ≡ scaled (slice_index_or l.levels k (pos 0)) (slice_index l.steps k) 8)
