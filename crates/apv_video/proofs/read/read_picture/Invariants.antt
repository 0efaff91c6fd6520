use Rattle.std.proofs.Common.{◌≡◌, ℕ, ◌<◌, ◌≤◌, List, ◌++◌, length, take}
use Rattle.apv_base.specs.model.Picture.{joined}
use Rattle.apv_files.specs.SlotView.{OnlyAt}
use Rattle.apv_grid.specs.Buffer.{samples_of}
use Rattle.apv_video.specs.Reads.{AreBelow, IsHighest, TookText}
use Rattle.apv_video.specs.Samples.{component_text}
use Rattle.apv_video.proofs.read.read_picture.Given as goal

-- the components so far are read
abbrev pub invariant-loop-comp : goal.invariant-loop-comp
invariant-loop-comp g l = record {
  samples_size : length l.samples ≡ 32768;
  bytes_size : length l.bytes ≡ 65536;
  one : l.held ≤ 1;
  later : 0 < l.comp → l.held ≡ 0;
  grid : l.frame.grid ≡ l.fn.frame.grid;
  read : TookText (g.F.Files.slot_view l.fn.files l.slot) l.head (joined l.comp (component_text l.fn.frame.grid.format (samples_of l.frame)) ++ take l.held l.bytes) (g.F.Files.slot_view l.files l.slot);
  highest : IsHighest (AreBelow l.fn.frame.grid.format (samples_of l.frame) l.comp) l.highest;
  elsewhere : OnlyAt l.slot (g.F.Files.slot_view l.fn.files) (g.F.Files.slot_view l.files);
  held : (file : List ℕ) → g.F.Files.held l.files file ≡ g.F.Files.held l.fn.files file;
}
