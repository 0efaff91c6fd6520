use Rattle.std.proofs.Common.{ap, ◌∙◌}
use Rattle.apv_base.specs.declared.slot.Slot.TheVariants.{Input}
use Rattle.apv_files.specs.SlotView.{SlotView}
use Rattle.bench.proofs.video.run_reading.Goals as goal

pub open-requires-clause-closed : goal.open-requires-clause-closed
open-requires-clause-closed c = ap (λ (view : SlotView). view.mode) (c.hold.ensures.views Input) ∙ c.new-files.ensures.closed Input
