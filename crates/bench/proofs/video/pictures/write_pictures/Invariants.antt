use Rattle.std.proofs.Common.{◌≡◌}
use Rattle.apv_base.specs.declared.slot.Slot.TheVariants.{Recon}
use Rattle.apv_files.specs.declared.files.Mode.TheVariants.{Writing}
use Rattle.bench.proofs.video.pictures.write_pictures.Given as goal

-- the slot is still written
abbrev pub invariant-loop-number : goal.invariant-loop-number
invariant-loop-number g l = (g.F.Files.slot_view l.files Recon).mode ≡ Writing
