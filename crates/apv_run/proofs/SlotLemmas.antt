-- Slots by their numbers, and claims of each slot but the console.
use Rattle.std.proofs.Common.{◌≡◌, ℕ, ◌<◌, [], ◌∷◌, get_or, refl, sym, ap, ◌∙◌, true, false, true≢false, arith}
use Rattle.std.proofs.lemmas.Bool.{OnFalse_at, OnFalse_from, ne_eqb}
use Rattle.apv_base.specs.declared.slot.Slot.{Slot}
use Rattle.apv_base.specs.declared.slot.Slot.TheVariants.{Input, Preview, Depth, Alpha, Metadata, TileQp, Output, Recon, MetaOut, Console}
use Rattle.apv_base.specs.model.Slot.{is_input, is_output, same_slot, slot_number}
use Rattle.apv_files.specs.SlotView.{SlotView, OnlyAt}
use Rattle.apv_run.specs.Names.{AtFiles}

-- ---- numbers

-- the slot of a number
abbrev slot_at : ℕ → Slot
slot_at number = get_or (Input ∷ Preview ∷ Depth ∷ Alpha ∷ Metadata ∷ TileQp ∷ Output ∷ Recon ∷ MetaOut ∷ Console ∷ []) number Console

at-number : (slot : Slot) → slot_at (slot_number slot) ≡ slot
at-number Input = refl
at-number Preview = refl
at-number Depth = refl
at-number Alpha = refl
at-number Metadata = refl
at-number TileQp = refl
at-number Output = refl
at-number Recon = refl
at-number MetaOut = refl
at-number Console = refl

-- a number is that of one slot
pub same-number : (one other : Slot) → slot_number one ≡ slot_number other → one ≡ other
same-number one other e = sym (at-number one) ∙ ap slot_at e ∙ at-number other

-- the console is the last slot
pub before-console : (slot : Slot) → same_slot slot Console ≡ false → slot_number slot < slot_number Console
before-console Input e = omega arith
before-console Preview e = omega arith
before-console Depth e = omega arith
before-console Alpha e = omega arith
before-console Metadata e = omega arith
before-console TileQp e = omega arith
before-console Output e = omega arith
before-console Recon e = omega arith
before-console MetaOut e = omega arith
before-console Console e = absurd (true≢false e)

-- a slot that isn't read is written, but for the console
pub is-written : (slot : Slot) → same_slot slot Console ≡ false → is_input slot ≡ false → is_output slot ≡ true
is-written Input e f = absurd (true≢false f)
is-written Preview e f = absurd (true≢false f)
is-written Depth e f = absurd (true≢false f)
is-written Alpha e f = absurd (true≢false f)
is-written Metadata e f = absurd (true≢false f)
is-written TileQp e f = absurd (true≢false f)
is-written Output e f = refl
is-written Recon e f = refl
is-written MetaOut e f = refl
is-written Console e f = absurd (true≢false e)

-- inputs and outputs aren't the console
pub input-file : (slot : Slot) → is_input slot ≡ true → same_slot slot Console ≡ false
input-file Input e = refl
input-file Preview e = refl
input-file Depth e = refl
input-file Alpha e = refl
input-file Metadata e = refl
input-file TileQp e = refl
input-file Output e = refl
input-file Recon e = refl
input-file MetaOut e = refl
input-file Console e = absurd (true≢false (sym e))

pub output-file : (slot : Slot) → is_output slot ≡ true → same_slot slot Console ≡ false
output-file Input e = refl
output-file Preview e = refl
output-file Depth e = refl
output-file Alpha e = refl
output-file Metadata e = refl
output-file TileQp e = refl
output-file Output e = refl
output-file Recon e = refl
output-file MetaOut e = refl
output-file Console e = absurd (true≢false (sym e))

-- a call on one slot leaves the others
pub elsewhere : (slot other : Slot) (old new : Slot → SlotView) → OnlyAt slot old new → (slot_number other ≡ slot_number slot → ⊥) → new other ≡ old other
elsewhere slot other old new only apart = OnFalse_at (ne_eqb (slot_number other) (slot_number slot) apart) (only other)

-- ---- each slot but the console

pub at-file : (claim : Slot → Type 0) → AtFiles claim → (slot : Slot) → same_slot slot Console ≡ false → claim slot
at-file claim h slot e = OnFalse_at e (h slot)

pub at-files : (claim : Slot → Type 0) → ((slot : Slot) → same_slot slot Console ≡ false → claim slot) → AtFiles claim
at-files claim f slot = OnFalse_from (same_slot slot Console) (claim slot) (f slot)

-- what follows from one claim, or from two
pub at-files-by : (one claim : Slot → Type 0) → ((slot : Slot) → one slot → claim slot) → AtFiles one → AtFiles claim
at-files-by one claim f h = at-files claim (λ slot e. f slot (at-file one h slot e))

pub at-files-by-two : (one other claim : Slot → Type 0) → ((slot : Slot) → one slot → other slot → claim slot) → AtFiles one → AtFiles other → AtFiles claim
at-files-by-two one other claim f h k = at-files claim (λ slot e. f slot (at-file one h slot e) (at-file other k slot e))
