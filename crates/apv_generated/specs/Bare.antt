-- Of a closed slot nothing is left and nothing was written, over a generated video too.
use Rattle.std.proofs.Common.{◌≡◌, Bool, true, false, refl, sym, if◌then◌else◌, ◌∙◌}
use Rattle.apv_base.specs.declared.slot.Slot.{Slot}
use Rattle.apv_base.specs.declared.slot.Slot.TheVariants.{Input}
use Rattle.apv_base.specs.model.Slot.{same_slot}
use Rattle.apv_files.specs.SlotView.{SlotView, IsBare}
use Rattle.apv_files.specs.declared.files.Mode.TheVariants.{Closed, Reading}
use Rattle.apv_generated.specs.Files.{generated_views, own_input}
use Rattle.apv_generated.specs.declared.files.GeneratedFiles.{GeneratedFiles}

bare-by : (b : Bool) (own other : SlotView) → own.mode ≡ Reading → IsBare other → IsBare (if b then own else other)
bare-by true own other reading bare closed = absurd (let no : Reading ≡ Closed = sym reading ∙ closed in let f : ⊥ = cc (no) in f)
bare-by false own other reading bare closed = bare closed

-- of a closed slot nothing is left and nothing was written
pub bare-views : {F : Type 0} (view : F → Slot → SlotView) (files : GeneratedFiles F) (slot : Slot) → IsBare (view files.files.now slot) → IsBare (generated_views view files slot)
bare-views view files slot bare = bare-by (same_slot slot Input) (own_input view files) (view files.files.now slot) refl bare
