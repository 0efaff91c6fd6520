use Rattle.std.proofs.Common.{◌≡◌, ℕ, ◌≤◌, ◌-◌, List, length}
use Rattle.apv_base.specs.model.Picture.{joined}
use Rattle.apv_files.specs.Loops.{WroteAll}
use Rattle.apv_files.specs.SlotView.{OnlyAt}
use Rattle.apv_grid.specs.Buffer.{samples_of}
use Rattle.apv_video.specs.Samples.{bytes_at}
use Rattle.apv_video.proofs.write.write_component.Given as goal

-- the samples so far are written
abbrev pub invariant-loop-first : goal.invariant-loop-first
invariant-loop-first g l = record {
  inside : l.first ≤ l.count;
  samples_size : length l.samples ≡ 32768;
  bytes_size : length l.bytes ≡ 65536;
  here : WroteAll (g.F.Files.slot_view l.fn.files l.slot) (joined l.first (bytes_at l.frame.grid.format (samples_of l.frame) l.comp)) (g.F.Files.slot_view l.files l.slot);
  elsewhere : OnlyAt l.slot (g.F.Files.slot_view l.fn.files) (g.F.Files.slot_view l.files);
  held : (file : List ℕ) → g.F.Files.held l.files file ≡ g.F.Files.held l.fn.files file;
}

abbrev pub decreases-loop-first : goal.decreases-loop-first
decreases-loop-first g l = l.count - l.first
