-- The slot of a generated video.
use Rattle.std.specs.Prelude.{ℕ, List, [], Some, if◌then◌else◌}
use base.Fml.{GName}
use Rattle.apv_base.specs.declared.slot.Slot.{Slot}
use Rattle.apv_base.specs.declared.slot.Slot.TheVariants.{Input}
use Rattle.apv_base.specs.model.Slot.{same_slot}
use Rattle.apv_files.specs.SlotView.{Lender, SlotView}
use Rattle.apv_files.specs.declared.files.Mode.TheVariants.{Reading}

-- what a slot is made over: the files of a name, and their own slot
abbrev pub lender_of : GName → SlotView → Lender
lender_of name view = record {
  files = name;
  mode = view.mode;
  open_faults = view.open_faults;
  read_faults = view.read_faults;
  write_faults = view.write_faults;
}

-- a slot of which these bytes are left, over the slot of borrowed files; no call on it has failed by a device
abbrev pub input_view : GName → SlotView → List ℕ → SlotView
input_view name beneath left = record {
  mode = Reading;
  name = [];
  left = Some left;
  written = Some [];
  open_faults = 0;
  read_faults = 0;
  write_faults = 0;
  lender = Some (lender_of name beneath);
}

-- slots of which Input is this one
abbrev pub with_input : SlotView → (Slot → SlotView) → Slot → SlotView
with_input view views slot = if same_slot slot Input then view else views slot
