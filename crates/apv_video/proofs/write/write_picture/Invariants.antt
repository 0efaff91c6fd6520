use Rattle.std.proofs.Common.{◌≡◌, ℕ, List, length}
use Rattle.apv_base.specs.model.Picture.{joined}
use Rattle.apv_files.specs.Loops.{WroteAll}
use Rattle.apv_files.specs.SlotView.{OnlyAt}
use Rattle.apv_grid.specs.Buffer.{samples_of}
use Rattle.apv_video.specs.Samples.{component_text}
use Rattle.apv_video.proofs.write.write_picture.Given as goal

-- the components so far are written
abbrev pub invariant-loop-comp : goal.invariant-loop-comp
invariant-loop-comp g l = record {
  samples_size : length l.samples ≡ 32768;
  bytes_size : length l.bytes ≡ 65536;
  here : WroteAll (g.F.Files.slot_view l.fn.files l.slot) (joined l.comp (component_text l.frame.grid.format (samples_of l.frame))) (g.F.Files.slot_view l.files l.slot);
  elsewhere : OnlyAt l.slot (g.F.Files.slot_view l.fn.files) (g.F.Files.slot_view l.files);
  held : (file : List ℕ) → g.F.Files.held l.files file ≡ g.F.Files.held l.fn.files file;
}
