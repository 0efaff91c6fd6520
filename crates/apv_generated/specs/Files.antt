-- What is known of files whose input is a generated video.
use Rattle.std.specs.Prelude.{ℕ, List, Option}
use base.Fml.{GName}
use Rattle.apv_base.specs.declared.slot.Slot.{Slot}
use Rattle.apv_base.specs.declared.slot.Slot.TheVariants.{Input}
use Rattle.apv_files.specs.SlotView.{SlotView}
use Rattle.apv_generated.specs.Video.{left_of}
use Rattle.apv_generated.specs.Views.{input_view, with_input}
use Rattle.apv_generated.specs.declared.files.GeneratedFiles.{GeneratedFiles}

-- the files that are borrowed, and which they are
abbrev pub borrowed : {F : Type 0} → GeneratedFiles F → F
borrowed files = files.files.now

abbrev pub name_of_borrowed : {F : Type 0} → GeneratedFiles F → GName
name_of_borrowed files = files.files.ghost_name

-- the bytes of the video that are left
abbrev pub left_in : {F : Type 0} → GeneratedFiles F → List ℕ
left_in files = left_of files.video.now

-- the slot of the video, over the slot Input of the borrowed files
abbrev pub own_input : {F : Type 0} → (F → Slot → SlotView) → GeneratedFiles F → SlotView
own_input view files = input_view (name_of_borrowed files) (view (borrowed files) Input) (left_in files)

-- the slots: that of the video, and the other ones of the borrowed files
abbrev pub generated_views : {F : Type 0} → (F → Slot → SlotView) → GeneratedFiles F → Slot → SlotView
generated_views view files slot = with_input (own_input view files) (view (borrowed files)) slot

-- what files hold by their names: what those of the borrowed files do
abbrev pub generated_held : {F : Type 0} → (F → List ℕ → Option (List ℕ)) → GeneratedFiles F → List ℕ → Option (List ℕ)
generated_held held files file = held (borrowed files) file
