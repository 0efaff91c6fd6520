use Rattle.std.proofs.Common.{◌≡◌, ℕ, ◌/◌, ◌^◌, ◌<◌, length, slice_index}
use Rattle.apv_quant.proofs.steps.reduced.Given as goal

abbrev pub invariant-loop-place : goal.invariant-loop-place
invariant-loop-place l =
    (length l.reduced ≡ 64) × ((k : ℕ) → k < l.place → slice_index l.reduced k ≡ slice_index l.steps k / 2 ^ l.power)
