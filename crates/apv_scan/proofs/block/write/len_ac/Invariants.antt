use Rattle.std.proofs.Common.{◌≡◌, ◌+◌, ◌*◌, ◌<◌, ◌≤◌, length}
use Rattle.apv_base.specs.model.Scan.{level_at}
use Rattle.apv_base.specs.model.Block.{bits_of, ac_from}
use Rattle.apv_scan.proofs.ElementLemmas.{AreRising}
use Rattle.apv_scan.proofs.WritingLemmas.{further_bits}
use Rattle.apv_scan.proofs.block.write.len_ac.Given as goal

-- what was counted, and the bits of the places left, are the bits of all
abbrev pub invariant-loop-place : goal.invariant-loop-place
invariant-loop-place l = record {
  last : l.last < 64;
  run : l.run_k ≤ 2;
  level : l.level_k ≤ 4;
  few : l.bits ≤ 47 * l.last;
  rising : AreRising (level_at l.levels) l.last l.level_places;
  all : l.bits + length (further_bits (level_at l.levels) l.last (4 * l.run_k) (4 * l.level_k) l.level_places)
      ≡ length (bits_of (ac_from (level_at l.levels) 0 0 l.first 1));
}

abbrev pub decreases-loop-place : goal.decreases-loop-place
decreases-loop-place l = length l.level_places
