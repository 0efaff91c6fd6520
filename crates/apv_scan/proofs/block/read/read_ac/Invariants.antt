use Rattle.std.proofs.Common.{◌≡◌, ℕ, pos, ◌-◌, ◌<◌, ◌≤◌, length}
use Rattle.apv_base.specs.model.Quant.{IsLevel}
use Rattle.apv_base.specs.model.Scan.{level_at}
use Rattle.apv_scan.specs.Walk.{Walk}
use Rattle.apv_scan.proofs.block.read.read_ac.Given as goal

-- the levels so far are walked, and those after are 0
abbrev pub invariant-loop-place : goal.invariant-loop-place
invariant-loop-place l = record {
  low : 0 < l.place;
  high : l.place ≤ 64;
  run : l.run_before < 64;
  level : l.level_before ≤ 32768;
  found : l.found ≤ 32768;
  count : length l.levels ≡ 64;
  first_level : level_at l.levels 0 ≡ level_at l.initial.levels 0;
  levels : (q : ℕ) → q < 64 → IsLevel (level_at l.levels q);
  zeros : (q : ℕ) → l.place ≤ q → q < 64 → level_at l.levels q ≡ pos 0;
  walk : Walk l.first l.initial.reader (level_at l.levels) l.place l.run_before l.level_before l.found l.reader;
}

abbrev pub decreases-loop-place : goal.decreases-loop-place
decreases-loop-place l = 64 - l.place
