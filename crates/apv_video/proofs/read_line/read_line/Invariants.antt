use Rattle.std.proofs.Common.{◌≡◌, ◌≤◌, ◌-◌, ℕ, List, length, take}
use Rattle.apv_files.specs.Loops.{TookAll}
use Rattle.apv_files.specs.SlotView.{OnlyAt}
use Rattle.apv_video.specs.Line.{HasNoFeed}
use Rattle.apv_video.proofs.read_line.read_line.Given as goal

-- the bytes so far are of the line
abbrev pub invariant-loop-count : goal.invariant-loop-count
invariant-loop-count g l = record {
  inside : l.count ≤ length l.line;
  line : HasNoFeed (take l.count l.line);
  here : TookAll (g.F.Files.slot_view l.fn.files l.slot) (take l.count l.line) (g.F.Files.slot_view l.files l.slot);
  elsewhere : OnlyAt l.slot (g.F.Files.slot_view l.fn.files) (g.F.Files.slot_view l.files);
  held : (file : List ℕ) → g.F.Files.held l.files file ≡ g.F.Files.held l.fn.files file;
}

abbrev pub decreases-loop-count : goal.decreases-loop-count
decreases-loop-count g l = length l.line - l.count
