-- What stays true when the console's line is written after a run, or when memory runs out then.
use Rattle.std.proofs.Common.{◌≡◌, ◌<◌, sym, ap, ◌∙◌, subst, Some, Bool, false, ◌⊎◌, inl, inr, refl}
use Rattle.std.specs.Io.KnownBytes.{IsAtEnd}
use Rattle.apv_base.specs.declared.exits.Exit.{Exit}
use Rattle.apv_base.specs.declared.exits.Exit.TheVariants.{Done, Memory, Usage, Broken, BadVideo, BadPayloads, BadTileQp, OpenFailed, ReadFailed, WriteFailed, LimitMet, FormatChange, NoTag, TooLarge}
use Rattle.apv_base.specs.declared.options.UsageKind.{UsageKind}
use Rattle.apv_base.specs.declared.slot.Slot.{Slot}
use Rattle.apv_base.specs.declared.slot.Slot.TheVariants.{Console}
use Rattle.apv_base.specs.model.Slot.{same_slot, slot_number}
use Rattle.apv_files.specs.declared.files.Mode.TheVariants.{Closed}
use Rattle.apv_files.specs.SlotView.{SlotView, OnlyAt, Rose}
use Rattle.apv_run.specs.Names.{Names, AreNamed, AreOpen, IsOpenAs, mode_of}
use Rattle.apv_run.specs.Cause.{AreAtEnd, AreSound, AreUnwritten, HasCause, HasNoFault, IsNotOpen, IsUntouched, IsUsage}
use Rattle.apv_run.proofs.SlotLemmas.{at-file, at-files, at-files-by-two, input-file, output-file}
use Rattle.apv_run.proofs.OpenLemmas.{same-quiet}
use Rattle.apv_run.proofs.CauseLemmas.{quiet-then}

-- the answer after the console's line is that before it, or Memory
abbrev pub IsTold : Exit → Exit → Type 0
IsTold exit told = (told ≡ exit) ⊎ (told ≡ Memory)

-- ---- refused words

pub untouched-none : (views : Slot → SlotView) → IsUntouched views views
untouched-none views = at-files (λ slot. views slot ≡ views slot) (λ slot file. refl)

pub usage-told : (kind : UsageKind) (start old new : Slot → SlotView) (exit told : Exit) → IsTold exit told → OnlyAt Console old new → IsUsage kind exit × IsUntouched start old → IsUsage kind told × IsUntouched start new
usage-told kind start old new exit told one o h =
    (usage one, at-files-by-two (λ slot. old slot ≡ start slot) (λ slot. new slot ≡ old slot) (λ slot. new slot ≡ start slot) (λ slot p q. q ∙ p) h.1 o)
  where
    usage : IsTold exit told → IsUsage kind told
    usage (inl same) = subst (IsUsage kind) (sym same) h.0
    usage (inr memory) = inr memory

pub refused-told : (kind : UsageKind) (exit told : Exit) → IsTold exit told → told ≡ Usage kind → exit ≡ Usage kind
refused-told kind exit told (inl same) e = sym same ∙ e
refused-told kind exit told (inr memory) e = absurd (let no : ⊥ = cc in no)

-- ---- causes

module _ (names : Names) (old new : Slot → SlotView) (o : OnlyAt Console old new) where
  same : (slot : Slot) → same_slot slot Console ≡ false → new slot ≡ old slot
  same slot file = at-file (λ s. new s ≡ old s) o slot file

  pub open-along : AreOpen names old → AreOpen names new
  open-along h = at-files-by-two (λ slot. IsOpenAs (mode_of slot) (names slot) (old slot)) (λ slot. new slot ≡ old slot) (λ slot. IsOpenAs (mode_of slot) (names slot) (new slot))
      (λ slot p q. subst (IsOpenAs (mode_of slot) (names slot)) (sym q) p) h o

  pub open-before : AreOpen names new → AreOpen names old
  open-before h = at-files-by-two (λ slot. IsOpenAs (mode_of slot) (names slot) (new slot)) (λ slot. new slot ≡ old slot) (λ slot. IsOpenAs (mode_of slot) (names slot) (old slot))
      (λ slot p q. subst (IsOpenAs (mode_of slot) (names slot)) q p) h o

  pub named-along : AreNamed names old → AreNamed names new
  named-along h = at-files-by-two (λ slot. ((old slot).mode ≡ Closed) ⊎ (names slot ≡ Some (old slot).name)) (λ slot. new slot ≡ old slot) (λ slot. ((new slot).mode ≡ Closed) ⊎ (names slot ≡ Some (new slot).name))
      (λ slot p q. subst (λ (view : SlotView). (view.mode ≡ Closed) ⊎ (names slot ≡ Some view.name)) (sym q) p) h o

  unwritten-along : AreUnwritten old → AreUnwritten new
  unwritten-along h slot output = subst (λ (view : SlotView). IsAtEnd view.written) (sym (same slot (output-file slot output))) (h slot output)

  ends-along : AreAtEnd names old → AreAtEnd names new
  ends-along h slot input named = subst (λ (view : SlotView). IsAtEnd view.left) (sym (same slot (input-file slot input))) (h slot input named)

module _ (is_own : Exit → Bool) (names : Names) (start old new : Slot → SlotView) (o : OnlyAt Console old new) where
  sound-along : AreSound names start old → AreSound names start new
  sound-along h = record {
    are_open = open-along names old new o h.are_open;
    quiet = at-files-by-two (λ slot. HasNoFault (start slot) (old slot)) (λ slot. new slot ≡ old slot) (λ slot. HasNoFault (start slot) (new slot))
        (λ slot p q. quiet-then (start slot) (old slot) (new slot) p (same-quiet (old slot) (new slot) q)) h.quiet o;
  }

  not-open-along : (slot : Slot) → IsNotOpen names slot start old → IsNotOpen names slot start new
  not-open-along slot h =
      let here = same names old new o slot h.file in
      record {
        file = h.file;
        name = h.name ∙ ap (λ (p : SlotView). Some p.name) (sym here);
        closed = ap (λ (p : SlotView). p.mode) here ∙ h.closed;
        rose = subst (λ (p : SlotView). Rose (start slot).open_faults p.open_faults) (sym here) h.rose;
        later = at-files-by-two (λ other. slot_number slot < slot_number other → (old other).mode ≡ Closed) (λ other. new other ≡ old other) (λ other. slot_number slot < slot_number other → (new other).mode ≡ Closed)
            (λ other p q gt. ap (λ (view : SlotView). view.mode) q ∙ p gt) h.later o;
        unwritten = unwritten-along names old new o h.unwritten;
      }

  cause-along : (exit : Exit) → HasCause is_own names start old exit → HasCause is_own names start new exit
  cause-along Done h = (sound-along h.0, ends-along names old new o h.1)
  cause-along Memory h = tt
  cause-along (OpenFailed slot) h = not-open-along slot h
  cause-along (ReadFailed slot) h = record {
    are_open = open-along names old new o h.are_open;
    named = h.named;
    input = h.input;
    rose = subst (λ (p : SlotView). Rose (start slot).read_faults p.read_faults) (sym (same names old new o slot (input-file slot h.input))) h.rose;
  }
  cause-along (WriteFailed slot) h = record {
    are_open = open-along names old new o h.are_open;
    named = h.named;
    output = h.output;
    rose = subst (λ (p : SlotView). Rose (start slot).write_faults p.write_faults) (sym (same names old new o slot (output-file slot h.output))) h.rose;
  }
  cause-along (Usage kind) h = (h.0, sound-along h.1)
  cause-along (Broken break) h = (h.0, sound-along h.1)
  cause-along (LimitMet limit count) h = (h.0, sound-along h.1)
  cause-along (NoTag format) h = (h.0, sound-along h.1)
  cause-along (FormatChange first other) h = (h.0, sound-along h.1)
  cause-along (BadVideo break) h = (h.0, sound-along h.1)
  cause-along (BadPayloads byte) h = (h.0, sound-along h.1)
  cause-along (BadTileQp byte) h = (h.0, sound-along h.1)
  cause-along (TooLarge frame smallest limit) h = (h.0, sound-along h.1)

  pub cause-told : (exit told : Exit) → IsTold exit told → HasCause is_own names start old exit → HasCause is_own names start new told
  cause-told exit told (inl same_exit) h = subst (HasCause is_own names start new) (sym same_exit) (cause-along exit h)
  cause-told exit told (inr memory) h = subst (HasCause is_own names start new) (sym memory) tt
