use Rattle.std.proofs.Common.{◌≡◌, ℕ, ◌*◌, ◌<◌, length, slice_index}
use Rattle.apv_workers.proofs.encode.counting.length_cuts.Given as goal

abbrev pub invariant-loop-tile : goal.invariant-loop-tile
invariant-loop-tile l = record { len : length l.cuts ≡ 401; each : (tile : ℕ) → tile < l.tile → slice_index l.cuts tile ≡ 4 * tile }
