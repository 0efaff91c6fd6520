use Rattle.std.proofs.Common.{◌≡◌, ℕ, List}
use Rattle.apv_tracks.proofs.FurtherEndLemmas.{HaveEndedBefore}
use Rattle.apv_tracks.proofs.pictures.further_end.Given as goal

abbrev pub invariant-loop-kind : goal.invariant-loop-kind
invariant-loop-kind g l = record {
  before : HaveEndedBefore l.kinds l.kind-index (g.F.Files.slot_view l.fn.files) (g.F.Files.slot_view l.files);
  held : (file : List ℕ) → g.F.Files.held l.files file ≡ g.F.Files.held l.fn.files file;
}
