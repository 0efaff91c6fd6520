-- Slots of which Input is another one: what is true of each.
use Rattle.std.proofs.Common.{◌≡◌, false, refl}
use Rattle.apv_base.specs.declared.slot.Slot.{Slot}
use Rattle.apv_base.specs.declared.slot.Slot.TheVariants.{Input, Preview, Depth, Alpha, Metadata, TileQp, Output, Recon, MetaOut, Console}
use Rattle.apv_base.specs.model.Slot.{same_slot}
use Rattle.apv_files.specs.SlotView.{SlotView}
use Rattle.apv_generated.specs.Views.{with_input}

module _ (claim : Slot → SlotView → SlotView → Type 0) (a b : SlotView) (old new : Slot → SlotView) where
  -- of each slot, where it is of Input and of the others
  pub with-both : claim Input a b → ((slot : Slot) → same_slot slot Input ≡ false → claim slot (old slot) (new slot)) → (slot : Slot) → claim slot (with_input a old slot) (with_input b new slot)
  with-both here others Input = here
  with-both here others Preview = others Preview refl
  with-both here others Depth = others Depth refl
  with-both here others Alpha = others Alpha refl
  with-both here others Metadata = others Metadata refl
  with-both here others TileQp = others TileQp refl
  with-both here others Output = others Output refl
  with-both here others Recon = others Recon refl
  with-both here others MetaOut = others MetaOut refl
  with-both here others Console = others Console refl

  -- of each slot, where it is of those with another Input, and of the own one
  pub without-both : ((slot : Slot) → claim slot (with_input a old slot) (with_input b new slot)) → claim Input (old Input) (new Input) → (slot : Slot) → claim slot (old slot) (new slot)
  without-both all here Input = here
  without-both all here Preview = all Preview
  without-both all here Depth = all Depth
  without-both all here Alpha = all Alpha
  without-both all here Metadata = all Metadata
  without-both all here TileQp = all TileQp
  without-both all here Output = all Output
  without-both all here Recon = all Recon
  without-both all here MetaOut = all MetaOut
  without-both all here Console = all Console
