use Rattle.std.proofs.Common.{◌≡◌, ℕ, ◌*◌, ◌^◌, ◌<◌, ◌≤◌}
use Rattle.apv_tile.specs.Least.{bits_from, size_at, sum_below}
use Rattle.apv_tile.proofs.least.least_bits.Given as goal

abbrev pub invariant-loop-place : goal.invariant-loop-place
invariant-loop-place l = record {
  sum : l.bits ≡ sum_below (λ place. bits_from l.sizes (size_at l.coeffs place)) l.place;
  few : (place : ℕ) → place < l.place → size_at l.coeffs place ≤ 2 ^ 15;
  small : l.bits ≤ 10 * l.place;
}
