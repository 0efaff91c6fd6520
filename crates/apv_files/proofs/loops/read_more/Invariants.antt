use Rattle.std.proofs.Common.{◌≡◌, ℕ, List}
use Rattle.apv_files.specs.SlotView.{OnlyAt}
use Rattle.apv_files.proofs.Reading.{ReadSoFar}
use Rattle.apv_files.proofs.loops.read_more.Given as goal

-- the bytes after those at the start were taken, and `left` more are wanted
abbrev pub invariant-loop-left : goal.invariant-loop-left
invariant-loop-left g l = record {
  here : ReadSoFar (g.F.Files.slot_view l.fn.files l.slot) l.count l.left l.fn.bytes.items l.bytes.items (g.F.Files.slot_view l.files l.slot);
  elsewhere : OnlyAt l.slot (g.F.Files.slot_view l.fn.files) (g.F.Files.slot_view l.files);
  held : (file : List ℕ) → g.F.Files.held l.files file ≡ g.F.Files.held l.fn.files file;
}

abbrev pub decreases-loop-left : goal.decreases-loop-left
decreases-loop-left g l = l.left
