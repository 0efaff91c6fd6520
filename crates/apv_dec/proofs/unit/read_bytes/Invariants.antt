use Rattle.std.proofs.Common.{◌≡◌, ◌-◌, ℕ, List}
use Rattle.apv_base.specs.declared.slot.Slot.TheVariants.{Input}
use Rattle.apv_files.specs.SlotView.{OnlyAt}
use Rattle.apv_dec.proofs.NextUnitLemmas.{ReadInto}
use Rattle.apv_dec.proofs.unit.read_bytes.Given as goal

-- the first `done` bytes of the vector were taken
abbrev pub invariant-loop-done : goal.invariant-loop-done
invariant-loop-done g l = record {
  here : ReadInto (g.F.Files.slot_view l.fn.files Input) l.count l.done l.bytes.items (g.F.Files.slot_view l.files Input);
  elsewhere : OnlyAt Input (g.F.Files.slot_view l.fn.files) (g.F.Files.slot_view l.files);
  held : (file : List ℕ) → g.F.Files.held l.files file ≡ g.F.Files.held l.fn.files file;
}

abbrev pub decreases-loop-done : goal.decreases-loop-done
decreases-loop-done g l = l.count - l.done
