use Rattle.std.proofs.Common.{◌≡◌, ℕ, ◌^◌, ◌<◌, length, get_or}
use Rattle.apv_tile.proofs.tests.plain.Given as goal

-- the samples so far are below the bound
abbrev pub invariant-loop-place : goal.invariant-loop-place
invariant-loop-place l = record {
  count : length l.samples ≡ 256;
  below : (place : ℕ) → place < l.place → get_or l.samples place 0 < 2 ^ l.depth;
}
