use Rattle.std.proofs.Common.{◌≡◌, ℕ, List}
use Rattle.apv_tracks.specs.Kinds.{AreReading, OnlyAtTracks}
use Rattle.apv_tracks.specs.States.{AreSameButFrames}
use Rattle.apv_tracks.proofs.RunPictureLemmas.{ReadSoFar}
use Rattle.apv_tracks.proofs.pictures.read_pictures.Given as goal

abbrev pub invariant-loop-index : goal.invariant-loop-index
invariant-loop-index g l = record {
  so_far : ReadSoFar l.settings l.number l.index l.fn.tracks (g.F.Files.slot_view l.fn.files) (g.F.Files.slot_view l.files) l.tracks;
  same : AreSameButFrames l.fn.tracks l.tracks;
  reading : AreReading l.settings (g.F.Files.slot_view l.files);
  others : OnlyAtTracks l.settings (g.F.Files.slot_view l.fn.files) (g.F.Files.slot_view l.files);
  held : (file : List ℕ) → g.F.Files.held l.files file ≡ g.F.Files.held l.fn.files file;
}
