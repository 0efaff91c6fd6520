use Rattle.std.proofs.Common.{◌≡◌, ℕ, List}
use Rattle.apv_base.specs.declared.slot.Slot.TheVariants.{Output}
use Rattle.apv_base.specs.model.Judge.{DecodedUnit}
use Rattle.apv_files.specs.SlotView.{OnlyAt}
use Rattle.apv_dec.specs.Judged.{IsJudged}
use Rattle.apv_dec.specs.Outputs.{output_settings}
use Rattle.apv_dec.proofs.PictureLemmas.{WrittenSoFar}
use Rattle.apv_dec.proofs.pictures.write_selected.Given as goal

-- of the PBUs that were passed the pictures of the selected frames are written
abbrev pub invariant-loop-pbu : goal.invariant-loop-pbu
invariant-loop-pbu g l =
    (goal.iterator-loop-pbu g).can_next l.pbu-iterator
    × (goal.iterator-loop-pbu g).is_finite l.pbu-iterator
    × ((unit : DecodedUnit) → IsJudged l.settings.strict l.unit l.frames unit
    → WrittenSoFar (output_settings l.settings) unit l.frames l.pbu-iterator l.index (g.F.Files.slot_view l.fn.files Output) (g.F.Files.slot_view l.files Output))
    × OnlyAt Output (g.F.Files.slot_view l.fn.files) (g.F.Files.slot_view l.files)
    × ((file : List ℕ) → g.F.Files.held l.files file ≡ g.F.Files.held l.fn.files file)
