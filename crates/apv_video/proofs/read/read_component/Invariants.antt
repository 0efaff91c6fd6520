use Rattle.std.proofs.Common.{◌≡◌, ℕ, ◌<◌, ◌≤◌, ◌-◌, List, ◌++◌, length, take}
use Rattle.apv_base.specs.model.Picture.{joined}
use Rattle.apv_files.specs.SlotView.{OnlyAt}
use Rattle.apv_grid.specs.Buffer.{samples_of}
use Rattle.apv_video.specs.Reads.{AreValuesBelow, IsHighest, KeepsBefore, TookText}
use Rattle.apv_video.specs.Samples.{bytes_at, sample_at}
use Rattle.apv_video.proofs.read.read_component.Given as goal

-- the samples so far are read
abbrev pub invariant-loop-first : goal.invariant-loop-first
invariant-loop-first g l = record {
  inside : l.first ≤ l.count;
  samples_size : length l.samples ≡ 32768;
  bytes_size : length l.bytes ≡ 65536;
  one : l.at_hand ≤ 1;
  later : 0 < l.first → l.at_hand ≡ 0;
  grid : l.frame.grid ≡ l.fn.frame.grid;
  kept : KeepsBefore l.fn.frame.grid.format l.comp (samples_of l.fn.frame) (samples_of l.frame);
  read : TookText (g.F.Files.slot_view l.fn.files l.slot) (take l.held l.fn.bytes) (joined l.first (bytes_at l.fn.frame.grid.format (samples_of l.frame) l.comp) ++ take l.at_hand l.bytes) (g.F.Files.slot_view l.files l.slot);
  highest : IsHighest (AreValuesBelow (λ (n : ℕ). sample_at l.fn.frame.grid.format (samples_of l.frame) l.comp n) l.first) l.highest;
  elsewhere : OnlyAt l.slot (g.F.Files.slot_view l.fn.files) (g.F.Files.slot_view l.files);
  held : (file : List ℕ) → g.F.Files.held l.files file ≡ g.F.Files.held l.fn.files file;
}

abbrev pub decreases-loop-first : goal.decreases-loop-first
decreases-loop-first g l = l.count - l.first
