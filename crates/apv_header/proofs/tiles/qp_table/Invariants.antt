use Rattle.std.proofs.Common.{◌≡◌, ◌≤◌, ℕ, take, length, get_or}
use Rattle.apv_header.proofs.tiles.qp_table.Given as goal

-- the QPs so far are in the table, and zeros
abbrev pub invariant-loop-comp : goal.invariant-loop-comp
invariant-loop-comp l = record {
  count : length l.table ≡ 4;
  others : (k : ℕ) → l.comp ≤ k → get_or l.table k 0 ≡ 0;
  prefix : take l.comp l.table ≡ take l.comp l.qps;
}
