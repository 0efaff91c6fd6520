use Rattle.std.proofs.Common.{◌≡◌}
use Rattle.apv_base.specs.declared.slot.Slot.TheVariants.{Input}
use Rattle.apv_files.specs.declared.files.Mode.TheVariants.{Reading}
use Rattle.bench.proofs.video.pictures.read_pictures.Given as goal

-- the slot is still read, and the frame has its grid
abbrev pub invariant-loop-number : goal.invariant-loop-number
invariant-loop-number g l = record {
  reading : (g.F.Files.slot_view l.files Input).mode ≡ Reading;
  grid : l.frame.grid ≡ l.fn.frame.grid;
}
