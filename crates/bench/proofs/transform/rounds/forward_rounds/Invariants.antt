use Rattle.std.proofs.Common.{◌≡◌, ℕ, ◌<◌, length, slice_index}
use Rattle.bench.proofs.transform.rounds.forward_rounds.Given as goal

abbrev pub invariant-loop-round : goal.invariant-loop-round
invariant-loop-round l = record {
  long : length l.samples ≡ 64;
  below : (place : ℕ) → place < 64 → slice_index l.samples place < 1024;
}
