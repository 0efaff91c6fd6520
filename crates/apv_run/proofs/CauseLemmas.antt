-- Faults that rose, and what follows each answer.
use Rattle.std.proofs.Common.{◌≡◌, ℕ, List, ap, ◌∙◌, Bool, true, false, ◌⊎◌, inl, inr, refl}
use Rattle.apv_base.specs.declared.exits.Exit.{Exit}
use Rattle.apv_base.specs.declared.exits.Exit.TheVariants.{Done, Memory, Usage, Broken, BadVideo, BadPayloads, BadTileQp, OpenFailed, ReadFailed, WriteFailed, LimitMet, FormatChange, NoTag, TooLarge}
use Rattle.apv_base.specs.declared.slot.Slot.{Slot}
use Rattle.apv_base.specs.declared.slot.Slot.TheVariants.{Console}
use Rattle.apv_base.specs.model.Slot.{same_slot}
use Rattle.apv_files.specs.Loops.{WroteAll}
use Rattle.apv_files.specs.SlotView.{SlotView}
use Rattle.apv_run.specs.Names.{Names}
use Rattle.apv_run.specs.Cause.{HasCause, HasNoFault, HasNotRisen, HaveNoFault, HaveNotRisen, is_of_file}
use Rattle.apv_run.specs.Opened.{IsOpenEnd}
use Rattle.apv_run.proofs.SlotLemmas.{at-file, at-files-by-two, input-file, output-file}

-- ---- no fault came

pub quiet-then : (old mid new : SlotView) → HasNoFault old mid → HasNoFault mid new → HasNoFault old new
quiet-then old mid new f g = record { opens = g.opens ∙ f.opens; reads = g.reads ∙ f.reads; writes = g.writes ∙ f.writes }

pub all-quiet-then : (old mid new : Slot → SlotView) → HaveNoFault old mid → HaveNoFault mid new → HaveNoFault old new
all-quiet-then old mid new =
    at-files-by-two (λ slot. HasNoFault (old slot) (mid slot)) (λ slot. HasNoFault (mid slot) (new slot)) (λ slot. HasNoFault (old slot) (new slot)) (λ slot f g. quiet-then (old slot) (mid slot) (new slot) f g)

-- ---- files that weren't opened

module _ (is_own : Exit → Bool) (names : Names) (old new : Slot → SlotView) where
  pub open-end-cause : (exit : Exit) → IsOpenEnd names old new exit → HasCause is_own names old new exit
  open-end-cause Memory h = tt
  open-end-cause (OpenFailed slot) h = h
  open-end-cause Done h = absurd h
  open-end-cause (ReadFailed slot) h = absurd h
  open-end-cause (WriteFailed slot) h = absurd h
  open-end-cause (Usage kind) h = absurd h
  open-end-cause (Broken break) h = absurd h
  open-end-cause (LimitMet limit count) h = absurd h
  open-end-cause (NoTag format) h = absurd h
  open-end-cause (FormatChange first other) h = absurd h
  open-end-cause (BadVideo break) h = absurd h
  open-end-cause (BadPayloads byte) h = absurd h
  open-end-cause (BadTileQp byte) h = absurd h
  open-end-cause (TooLarge frame smallest limit) h = absurd h

  -- it isn't the files' own answer
  pub open-end-other : (exit : Exit) → IsOpenEnd names old new exit → is_of_file exit ≡ false
  open-end-other Memory h = refl
  open-end-other (OpenFailed slot) h = refl
  open-end-other Done h = absurd h
  open-end-other (ReadFailed slot) h = absurd h
  open-end-other (WriteFailed slot) h = absurd h
  open-end-other (Usage kind) h = absurd h
  open-end-other (Broken break) h = absurd h
  open-end-other (LimitMet limit count) h = absurd h
  open-end-other (NoTag format) h = absurd h
  open-end-other (FormatChange first other) h = absurd h
  open-end-other (BadVideo break) h = absurd h
  open-end-other (BadPayloads byte) h = absurd h
  open-end-other (BadTileQp byte) h = absurd h
  open-end-other (TooLarge frame smallest limit) h = absurd h

  -- ---- where no count rose

  module _ (quiet : HaveNotRisen old new) where
    slot-quiet : (slot : Slot) → same_slot slot Console ≡ false → HasNotRisen (old slot) (new slot)
    slot-quiet slot file = at-file (λ s. HasNotRisen (old s) (new s)) quiet slot file

    -- the answer is the end of the files, or an own one, unless memory ran out
    pub quiet-answer : (exit : Exit) → HasCause is_own names old new exit → ((exit ≡ Done) ⊎ (exit ≡ Memory)) ⊎ (is_own exit ≡ true)
    quiet-answer Done h = inl (inl refl)
    quiet-answer Memory h = inl (inr refl)
    quiet-answer (OpenFailed slot) h = absurd ((slot-quiet slot h.file).opens h.rose)
    quiet-answer (ReadFailed slot) h = absurd ((slot-quiet slot (input-file slot h.input)).reads h.rose)
    quiet-answer (WriteFailed slot) h = absurd ((slot-quiet slot (output-file slot h.output)).writes h.rose)
    quiet-answer (Usage kind) h = inr h.0
    quiet-answer (Broken break) h = inr h.0
    quiet-answer (LimitMet limit count) h = inr h.0
    quiet-answer (NoTag format) h = inr h.0
    quiet-answer (FormatChange first other) h = inr h.0
    quiet-answer (BadVideo break) h = inr h.0
    quiet-answer (BadPayloads byte) h = inr h.0
    quiet-answer (BadTileQp byte) h = inr h.0
    quiet-answer (TooLarge frame smallest limit) h = inr h.0
