use Rattle.std.proofs.Common.{◌≡◌, ◌≤◌, ◌-◌, ℕ, List, length, take}
use Rattle.apv_files.specs.Loops.{WroteAll}
use Rattle.apv_files.specs.SlotView.{OnlyAt}
use Rattle.apv_files.proofs.loops.write_all.Given as goal

-- a prefix of the bytes is written
abbrev pub invariant-loop-written : goal.invariant-loop-written
invariant-loop-written g l = record {
  inside : l.written ≤ length l.bytes;
  here : WroteAll (g.F.Files.slot_view l.fn.files l.slot) (take l.written l.bytes) (g.F.Files.slot_view l.files l.slot);
  elsewhere : OnlyAt l.slot (g.F.Files.slot_view l.fn.files) (g.F.Files.slot_view l.files);
  held : (file : List ℕ) → g.F.Files.held l.files file ≡ g.F.Files.held l.fn.files file;
}

abbrev pub decreases-loop-written : goal.decreases-loop-written
decreases-loop-written g l = length l.bytes - l.written
