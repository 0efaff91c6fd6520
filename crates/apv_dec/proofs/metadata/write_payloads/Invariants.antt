use Rattle.std.proofs.Common.{◌≡◌, ℕ, List}
use Rattle.apv_base.specs.declared.slot.Slot.TheVariants.{MetaOut}
use Rattle.apv_base.specs.model.Pbu.{Pbu}
use Rattle.apv_base.specs.model.Body.{with_bodies}
use Rattle.apv_base.specs.model.Unit.{Structure}
use Rattle.apv_base.specs.model.Sound.{unit_payloads}
use Rattle.apv_files.specs.SlotView.{OnlyAt}
use Rattle.apv_files.specs.Loops.{WroteAll}
use Rattle.apv_unit.proofs.PbusWalk.{Midway}
use Rattle.apv_dec.proofs.metadata.write_payloads.Given as goal

-- of the PBUs that were passed the payloads are written
abbrev pub invariant-loop-pbu : goal.invariant-loop-pbu
invariant-loop-pbu g l =
    (goal.iterator-loop-pbu g).can_next l.pbu-iterator
    × (goal.iterator-loop-pbu g).is_finite l.pbu-iterator
    × ((pbus : List Pbu) → Structure with_bodies l.unit pbus → (passed : List Pbu) × Midway pbus passed l.pbu-iterator
    × WroteAll (g.F.Files.slot_view l.fn.files MetaOut) (unit_payloads passed) (g.F.Files.slot_view l.files MetaOut))
    × OnlyAt MetaOut (g.F.Files.slot_view l.fn.files) (g.F.Files.slot_view l.files)
    × ((file : List ℕ) → g.F.Files.held l.files file ≡ g.F.Files.held l.fn.files file)
