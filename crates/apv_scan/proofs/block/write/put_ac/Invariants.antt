use Rattle.std.proofs.Common.{◌≡◌, ℕ, ◌*◌, ◌<◌, ◌≤◌, ◌++◌, List, length}
use Rattle.apv_base.specs.model.Scan.{level_at}
use Rattle.apv_base.specs.model.Block.{bits_of, ac_from}
use Rattle.apv_bits.specs.Writer.{Appends, slice_name}
use Rattle.apv_scan.proofs.ElementLemmas.{AreRising}
use Rattle.apv_scan.proofs.WritingLemmas.{further_bits}
use Rattle.apv_scan.proofs.block.write.put_ac.Given as goal

-- what was written, what waits, and the bits of the places left are the bits of all
abbrev pub invariant-loop-place : goal.invariant-loop-place
invariant-loop-place l = record {
  last : l.last < 64;
  run : l.run_k ≤ 2;
  level : l.level_k ≤ 4;
  rising : AreRising (level_at l.levels) l.last l.level_places;
  slice : slice_name l.writer ≡ slice_name l.initial.writer;
  bits : (w : List ℕ) × Appends l.initial.writer l.writer w
      × (w ++ (l.waiting ++ further_bits (level_at l.levels) l.last (4 * l.run_k) (4 * l.level_k) l.level_places)
      ≡ l.initial.waiting ++ bits_of (ac_from (level_at l.levels) 0 0 l.first 1));
}

abbrev pub decreases-loop-place : goal.decreases-loop-place
decreases-loop-place l = length l.level_places
