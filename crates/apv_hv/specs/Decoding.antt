-- The prefix of a code word in the bits of a number of 64.
use Rattle.std.specs.Prelude.{ℕ, ◌-◌, ◌*◌, ◌^◌, ◌<◌, ◌≤◌}

-- the bits begin with 01 and j zeros; a 1 follows, but for the last bit of all
pub record StartsLongWord (bits j : ℕ) : Type 0 where
  pub above : 2 ^ 62 ≤ bits
  pub few : j ≤ 61
  pub below : bits - 2 ^ 62 < 2 * 2 ^ (61 - j)
  pub one : j < 61 → 2 ^ (61 - j) ≤ bits - 2 ^ 62
