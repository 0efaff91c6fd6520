-- What reads and writes leave of a slot: it stays open, and it has failed no more often where none failed.
use Rattle.std.proofs.Common.{◌≡◌, ℕ, List, ap, ◌∙◌, Option, Some, None}
use Rattle.apv_base.specs.declared.slot.Slot.{Slot}
use Rattle.apv_files.specs.declared.files.Mode.{Mode}
use Rattle.apv_files.specs.SlotView.{SlotView}
use Rattle.apv_files.specs.Loops.{WroteAll, WroteFailed}
use Rattle.apv_run.specs.Cause.{HasNoFault}
use Rattle.apv_run.specs.Names.{AreOpen, IsOpenAs, Names, mode_of}
use Rattle.apv_run.proofs.SlotLemmas.{at-files-by}

-- ---- slots that stay open

-- a slot has the mode and the name that it had, and is made over the same files
pub record StaysOpen (old new : SlotView) : Type 0 where
  pub mode : new.mode ≡ old.mode
  pub name : new.name ≡ old.name
  pub lender : new.lender ≡ old.lender

-- each slot has
abbrev pub AllStayOpen : (Slot → SlotView) → (Slot → SlotView) → Type 0
AllStayOpen old new = (slot : Slot) → StaysOpen (old slot) (new slot)

module _ (old new : SlotView) where
  pub same-open : new ≡ old → StaysOpen old new
  same-open e = record { mode = ap (λ (p : SlotView). p.mode) e; name = ap (λ (p : SlotView). p.name) e; lender = ap (λ (p : SlotView). p.lender) e }

  pub left-open : new ≡ record old { left = new.left } → StaysOpen old new
  left-open e = record { mode = ap (λ (p : SlotView). p.mode) e; name = ap (λ (p : SlotView). p.name) e; lender = ap (λ (p : SlotView). p.lender) e }

  pub read-open : new ≡ record old { left = new.left; read_faults = new.read_faults } → StaysOpen old new
  read-open e = record { mode = ap (λ (p : SlotView). p.mode) e; name = ap (λ (p : SlotView). p.name) e; lender = ap (λ (p : SlotView). p.lender) e }

  pub wrote-open : (bytes : List ℕ) → WroteAll old bytes new → StaysOpen old new
  wrote-open bytes w = record { mode = ap (λ (p : SlotView). p.mode) w; name = ap (λ (p : SlotView). p.name) w; lender = ap (λ (p : SlotView). p.lender) w }

  pub failed-open : (bytes : List ℕ) → WroteFailed old bytes new → StaysOpen old new
  failed-open bytes w = record { mode = ap (λ (p : SlotView). p.mode) w.rest; name = ap (λ (p : SlotView). p.name) w.rest; lender = ap (λ (p : SlotView). p.lender) w.rest }

  keeps-open : (mode : Mode) (name : Option (List ℕ)) → StaysOpen old new → IsOpenAs mode name old → IsOpenAs mode name new
  keeps-open mode None s h = s.mode ∙ h
  keeps-open mode (Some name) s h = (s.mode ∙ h.0, s.name ∙ h.1)

pub open-then : (old mid new : Slot → SlotView) → AllStayOpen old mid → AllStayOpen mid new → AllStayOpen old new
open-then old mid new f g slot = record { mode = (g slot).mode ∙ (f slot).mode; name = (g slot).name ∙ (f slot).name; lender = (g slot).lender ∙ (f slot).lender }

pub open-still : (names : Names) (old new : Slot → SlotView) → AllStayOpen old new → AreOpen names old → AreOpen names new
open-still names old new s h =
    at-files-by (λ slot. IsOpenAs (mode_of slot) (names slot) (old slot)) (λ slot. IsOpenAs (mode_of slot) (names slot) (new slot)) (λ slot is. keeps-open (old slot) (new slot) (mode_of slot) (names slot) (s slot) is) h

-- ---- slots without a fault

module _ (old new : SlotView) where
  pub left-quiet : new ≡ record old { left = new.left } → HasNoFault old new
  left-quiet e = record { opens = ap (λ (p : SlotView). p.open_faults) e; reads = ap (λ (p : SlotView). p.read_faults) e; writes = ap (λ (p : SlotView). p.write_faults) e }

  pub wrote-quiet : (bytes : List ℕ) → WroteAll old bytes new → HasNoFault old new
  wrote-quiet bytes w = record { opens = ap (λ (p : SlotView). p.open_faults) w; reads = ap (λ (p : SlotView). p.read_faults) w; writes = ap (λ (p : SlotView). p.write_faults) w }
