use Rattle.std.proofs.Common.{◌≡◌, ◌≤◌, ℕ, take, length, get_or}
use Rattle.apv_header.specs.Walks.{numbers}
use Rattle.apv_header.proofs.tiles.data_sizes.Given as goal

-- the sizes so far, and zeros
abbrev pub invariant-loop-comp : goal.invariant-loop-comp
invariant-loop-comp l = record {
  count : length l.sizes ≡ 4;
  others : (k : ℕ) → l.comp ≤ k → get_or l.sizes k 0 ≡ 0;
  prefix : take l.comp l.sizes ≡ numbers 4 l.comp l.bytes;
}
