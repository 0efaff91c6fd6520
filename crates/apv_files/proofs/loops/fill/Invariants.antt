use Rattle.std.proofs.Common.{◌≡◌, ◌≤◌, ◌-◌, ℕ, List, length, take}
use Rattle.apv_files.specs.Loops.{TookAll}
use Rattle.apv_files.specs.SlotView.{OnlyAt}
use Rattle.apv_files.proofs.loops.fill.Given as goal

-- a prefix of the buffer was taken
abbrev pub invariant-loop-filled : goal.invariant-loop-filled
invariant-loop-filled g l = record {
  inside : l.filled ≤ length l.buf;
  here : TookAll (g.F.Files.slot_view l.fn.files l.slot) (take l.filled l.buf) (g.F.Files.slot_view l.files l.slot);
  elsewhere : OnlyAt l.slot (g.F.Files.slot_view l.fn.files) (g.F.Files.slot_view l.files);
  held : (file : List ℕ) → g.F.Files.held l.files file ≡ g.F.Files.held l.fn.files file;
}

abbrev pub decreases-loop-filled : goal.decreases-loop-filled
decreases-loop-filled g l = length l.buf - l.filled
