-- Files that are opened one after another, and a file that isn't.
use Rattle.std.proofs.Common.{◌≡◌, ℕ, ◌+◌, ◌<◌, ◌≤◌, List, refl, sym, ap, ◌∙◌, subst, Option, Some, None, Result, Ok, Err, Bool, true, false, ◌⊎◌, inl, inr, arith}
use Rattle.std.specs.Prelude.{if◌then◌else◌}
use Rattle.std.specs.Bool.{IsTrue}
use Rattle.std.specs.Result.{IsErrAnd}
use Rattle.std.specs.Io.KnownBytes.{IsAtEnd}
use Rattle.std.proofs.lemmas.Bool.{cases_lt}
use Rattle.apv_base.specs.declared.exits.Exit.{Exit}
use Rattle.apv_base.specs.declared.slot.Slot.{Slot}
use Rattle.apv_base.specs.declared.slot.Slot.TheVariants.{Console}
use Rattle.apv_base.specs.model.Slot.{is_input, is_output, same_slot, slot_number}
use Rattle.apv_files.specs.declared.files.Failed.{Failed}
use Rattle.apv_files.specs.declared.files.Failed.TheVariants.{Device, Memory}
use Rattle.apv_files.specs.declared.files.Mode.{Mode}
use Rattle.apv_files.specs.declared.files.Mode.TheVariants.{Closed, Reading, Writing}
use Rattle.apv_files.specs.Loops.{WroteAll}
use Rattle.apv_files.specs.SlotView.{SlotView, AfterFailedOpen, AllClosed, IsBare, OnlyAt, Rose}
use Rattle.apv_run.specs.Names.{Names, AreNamed, AreOpen, IsOpenAs, mode_of}
use Rattle.apv_run.specs.Exits.{open_exit}
use Rattle.apv_run.specs.Cause.{AreUnwritten, HasNoFault, HaveNoFault}
use Rattle.apv_run.specs.Opened.{AfterOpening, IsNext, IsOpened, IsOpenEnd, IsRefused, Opened, OpenedBelow}
use Rattle.apv_run.proofs.SlotLemmas.{at-file, at-files, at-files-by, before-console, elsewhere, output-file, same-number}

-- ---- one slot

-- a slot that is as before has failed no more often
pub same-quiet : (old new : SlotView) → new ≡ old → HasNoFault old new
same-quiet old new e = record { opens = ap (λ (p : SlotView). p.open_faults) e; reads = ap (λ (p : SlotView). p.read_faults) e; writes = ap (λ (p : SlotView). p.write_faults) e }

-- a slot that is open for that or closed is named so
open-named : (mode : Mode) (name : Option (List ℕ)) (view : SlotView) → IsOpenAs mode name view → (view.mode ≡ Closed) ⊎ (name ≡ Some view.name)
open-named mode None view h = inl h
open-named mode (Some name) view h = inr (ap Some (sym h.1))

-- a slot with a name that is open for anything isn't closed
open-not-closed : (is_read : Bool) (named : Option (List ℕ)) (name : List ℕ) (view : SlotView) → named ≡ Some name → view.mode ≡ Closed → IsOpenAs (if is_read then Reading else Writing) named view → ⊥
open-not-closed is_read None name view e closed h = let no : ⊥ = cc (e) in no
open-not-closed true (Some n) name view e closed h = let bad : Closed ≡ Reading = sym closed ∙ h.0 in let no : ⊥ = cc in no
open-not-closed false (Some n) name view e closed h = let bad : Closed ≡ Writing = sym closed ∙ h.0 in let no : ⊥ = cc in no

module _ (held : List ℕ → Option (List ℕ)) (old new : SlotView) where
  opened-open : (is_read : Bool) (name : Option (List ℕ)) → old.mode ≡ Closed → IsOpened is_read name held old new → IsOpenAs (if is_read then Reading else Writing) name new
  opened-open is_read None closed e = ap (λ (p : SlotView). p.mode) e ∙ closed
  opened-open true (Some name) closed e = (ap (λ (p : SlotView). p.mode) e, ap (λ (p : SlotView). p.name) e)
  opened-open false (Some name) closed c = (ap (λ (p : SlotView). p.mode) c.rest, ap (λ (p : SlotView). p.name) c.rest)

  opened-quiet : (is_read : Bool) (name : Option (List ℕ)) → IsOpened is_read name held old new → HasNoFault old new
  opened-quiet is_read None e = same-quiet old new e
  opened-quiet true (Some name) e = record { opens = ap (λ (p : SlotView). p.open_faults) e; reads = ap (λ (p : SlotView). p.read_faults) e; writes = ap (λ (p : SlotView). p.write_faults) e }
  opened-quiet false (Some name) c = record { opens = ap (λ (p : SlotView). p.open_faults) c.rest; reads = ap (λ (p : SlotView). p.read_faults) c.rest; writes = ap (λ (p : SlotView). p.write_faults) c.rest }

  opened-empty : (is_read : Bool) (name : Option (List ℕ)) → IsAtEnd old.written → IsOpened is_read name held old new → IsAtEnd new.written
  opened-empty is_read None empty e = subst (λ (p : SlotView). IsAtEnd p.written) (sym e) empty
  opened-empty true (Some name) empty e = subst (λ (p : SlotView). IsAtEnd p.written) (sym e) empty
  opened-empty false (Some name) empty c = c.empty

  opened-held : (now_held : List ℕ → Option (List ℕ)) (is_read : Bool) (name : Option (List ℕ)) → ((file : List ℕ) → now_held file ≡ held file) → IsOpened is_read name now_held old new → IsOpened is_read name held old new
  opened-held now_held is_read None same e = e
  opened-held now_held true (Some name) same e = e ∙ ap (λ (left : Option (List ℕ)). record old { mode = Reading; name = name; left = left }) (same name)
  opened-held now_held false (Some name) same c = c

failed-mode : (name : List ℕ) (failed : Failed) (old new : SlotView) → AfterFailedOpen old name failed new → new.mode ≡ old.mode
failed-mode name Device old new f = ap (λ (p : SlotView). p.mode) f.rest
failed-mode name Memory old new e = ap (λ (p : SlotView). p.mode) e

failed-written : (name : List ℕ) (failed : Failed) (old new : SlotView) → AfterFailedOpen old name failed new → new.written ≡ old.written
failed-written name Device old new f = ap (λ (p : SlotView). p.written) f.rest
failed-written name Memory old new e = ap (λ (p : SlotView). p.written) e

-- ---- all slots

-- files that are open have their names
pub open-are-named : (names : Names) (new : Slot → SlotView) → AreOpen names new → AreNamed names new
open-are-named names new =
    at-files-by (λ slot. IsOpenAs (mode_of slot) (names slot) (new slot)) (λ slot. ((new slot).mode ≡ Closed) ⊎ (names slot ≡ Some (new slot).name)) (λ slot h. open-named (mode_of slot) (names slot) (new slot) h)

-- closed slots have their names
pub closed-named : (names : Names) (views : Slot → SlotView) → AllClosed views → AreNamed names views
closed-named names views = at-files-by (λ slot. (views slot).mode ≡ Closed) (λ slot. ((views slot).mode ≡ Closed) ⊎ (names slot ≡ Some (views slot).name)) (λ slot closed. inl closed)

-- a slot that has a name is closed, so not all are open
pub not-open : (names : Names) (new : Slot → SlotView) (slot : Slot) (name : List ℕ) → same_slot slot Console ≡ false → names slot ≡ Some name → (new slot).mode ≡ Closed → AreOpen names new → ⊥
not-open names new slot name file e closed h =
    open-not-closed (is_input slot) (names slot) name (new slot) e closed (at-file (λ s. IsOpenAs (mode_of s) (names s) (new s)) h slot file)

-- nothing was written to closed slots
pub closed-unwritten : (views : Slot → SlotView) → ((slot : Slot) → IsBare (views slot)) → AllClosed views → AreUnwritten views
closed-unwritten views bare closed slot output = (bare slot (at-file (λ s. (views s).mode ≡ Closed) closed slot (output-file slot output))).1

-- slots without a name count as opened
pub opened-more : (number more : ℕ) (names : Names) (held : List ℕ → Option (List ℕ)) (old new : Slot → SlotView) → number ≤ more
    → ((slot : Slot) → number ≤ slot_number slot → slot_number slot < more → names slot ≡ None) → OpenedBelow number names held old new → OpenedBelow more names held old new
opened-more number more names held old new le unnamed o = record {
  opened = λ slot lt. elim (cases_lt (slot_number slot) number) [
    | inl below ↦ o.opened slot below
    | inr above ↦ subst (λ (name : Option (List ℕ)). IsOpened (is_input slot) name held (old slot) (new slot)) (sym (unnamed slot above lt)) (o.others slot above)
  ];
  others = λ slot above. o.others slot (omega (arith, le, above));
}

-- no slot is opened yet
pub opened-none : (names : Names) (held : List ℕ → Option (List ℕ)) (views : Slot → SlotView) → OpenedBelow 0 names held views views
opened-none names held views = record { opened = λ slot lt. absurd (omega (arith, lt)); others = λ slot above. refl }

module _ (names : Names) (held : List ℕ → Option (List ℕ)) (old new : Slot → SlotView) (o : Opened names held old new) where
  pub are-open : AllClosed old → AreOpen names new
  are-open closed = at-files (λ slot. IsOpenAs (mode_of slot) (names slot) (new slot)) (λ slot file.
      opened-open held (old slot) (new slot) (is_input slot) (names slot) (at-file (λ s. (old s).mode ≡ Closed) closed slot file) (o.opened slot (before-console slot file)))

  pub are-quiet : HaveNoFault old new
  are-quiet = at-files (λ slot. HasNoFault (old slot) (new slot)) (λ slot file. opened-quiet held (old slot) (new slot) (is_input slot) (names slot) (o.opened slot (before-console slot file)))

  pub are-unwritten : AreUnwritten old → AreUnwritten new
  are-unwritten none slot output = opened-empty held (old slot) (new slot) (is_input slot) (names slot) (none slot output) (o.opened slot (before-console slot (output-file slot output)))

-- a refusal that a caller passes on
pub passed-on : {T : Type 0} (number : ℕ) (names : Names) (held : List ℕ → Option (List ℕ)) (old new : Slot → SlotView) (result : Result T Exit) (exit : Exit) → IsErrAnd result (λ e. e ≡ exit)
    → IsRefused names old new exit → AfterOpening number names held old result new
passed-on number names held old new (Ok value) exit is h = absurd is
passed-on number names held old new (Err end) exit is h = subst (IsRefused names old new) (sym is) h

-- ---- the next slot

module _ (names : Names) (held now_held : List ℕ → Option (List ℕ)) (start old new : Slot → SlotView) (slot : Slot) (name : Option (List ℕ)) (file : same_slot slot Console ≡ false)
    (next : IsNext names held now_held start old slot name) (only : OnlyAt slot old new) where
  -- it is as at the start
  old-same : old slot ≡ start slot
  old-same = next.below.others slot (omega arith)

  earlier : (other : Slot) → slot_number other < slot_number slot → IsOpened (is_input other) (names other) held (start other) (new other)
  earlier other lt =
      subst (λ (view : SlotView). IsOpened (is_input other) (names other) held (start other) view) (sym (elsewhere slot other old new only (λ e. omega (arith, lt, e)))) (next.below.opened other lt)

  later : (other : Slot) → slot_number slot < slot_number other → new other ≡ start other
  later other lt = elsewhere slot other old new only (λ e. omega (arith, lt, e)) ∙ next.below.others other (omega (arith, lt))

  -- what is true of earlier slots, of this one and of later ones
  by-place : (claim : Slot → Type 0) → ((other : Slot) → slot_number other < slot_number slot → claim other) → claim slot → ((other : Slot) → slot_number slot < slot_number other → claim other) → (other : Slot) → claim other
  by-place claim below here above other = elim (cases_lt (slot_number other) (slot_number slot)) [
    | inl lt ↦ below other lt
    | inr ge ↦ elim (cases_lt (slot_number slot) (slot_number other)) [
      | inl gt ↦ above other gt
      | inr le ↦ subst claim (same-number slot other (omega (arith, ge, le))) here
    ]
  ]

  this-opened : IsOpened (is_input slot) name now_held (old slot) (new slot) → IsOpened (is_input slot) (names slot) held (start slot) (new slot)
  this-opened h =
      let one = opened-held held (old slot) (new slot) now_held (is_input slot) name next.same h in
      let two = subst (λ (n : Option (List ℕ)). IsOpened (is_input slot) n held (old slot) (new slot)) (sym next.named) one in
      subst (λ (view : SlotView). IsOpened (is_input slot) (names slot) held view (new slot)) old-same two

  pub next-opened : IsOpened (is_input slot) name now_held (old slot) (new slot) → OpenedBelow (slot_number slot + 1) names held start new
  next-opened h = record {
    opened = by-place (λ other. slot_number other < slot_number slot + 1 → IsOpened (is_input other) (names other) held (start other) (new other))
        (λ other lt le. earlier other lt) (λ le. this-opened h) (λ other gt le. absurd (omega (arith, gt, le)));
    others = λ other gt. later other (omega (arith, gt));
  }

  module _ (failed : Failed) (text : List ℕ) (is : name ≡ Some text) (h : AfterFailedOpen (old slot) text failed (new slot)) where
    start-closed : (other : Slot) → same_slot other Console ≡ false → (start other).mode ≡ Closed
    start-closed other e = at-file (λ s. (start s).mode ≡ Closed) next.closed other e

    slot-closed : (new slot).mode ≡ Closed
    slot-closed = failed-mode text failed (old slot) (new slot) h ∙ ap (λ (p : SlotView). p.mode) old-same ∙ start-closed slot file

    refused-unwritten : AreUnwritten new
    refused-unwritten = by-place (λ other. IsTrue (is_output other) → IsAtEnd (new other).written)
        (λ other lt output. opened-empty held (start other) (new other) (is_input other) (names other) (next.unwritten other output) (earlier other lt))
        (λ output. subst IsAtEnd (sym (failed-written text failed (old slot) (new slot) h ∙ ap (λ (p : SlotView). p.written) old-same)) (next.unwritten slot output))
        (λ other gt output. subst (λ (p : SlotView). IsAtEnd p.written) (sym (later other gt)) (next.unwritten other output))

    refused-named : AreNamed names new
    refused-named = at-files (λ other. ((new other).mode ≡ Closed) ⊎ (names other ≡ Some (new other).name)) (by-place
        (λ other. same_slot other Console ≡ false → ((new other).mode ≡ Closed) ⊎ (names other ≡ Some (new other).name))
        (λ other lt e. open-named (mode_of other) (names other) (new other) (opened-open held (start other) (new other) (is_input other) (names other) (start-closed other e) (earlier other lt)))
        (λ e. inl slot-closed)
        (λ other gt e. inl (ap (λ (p : SlotView). p.mode) (later other gt) ∙ start-closed other e)))

  refused-cause : (failed : Failed) (text : List ℕ) → name ≡ Some text → AfterFailedOpen (old slot) text failed (new slot) → IsOpenEnd names start new (open_exit slot failed)
  refused-cause Memory text is h = tt
  refused-cause Device text is h = record {
    file = file;
    name = next.named ∙ is ∙ ap (λ (p : SlotView). Some p.name) (sym h.rest);
    closed = slot-closed Device text is h;
    rose = subst (λ (view : SlotView). Rose view.open_faults (new slot).open_faults) old-same h.fault.rose;
    later = at-files (λ other. slot_number slot < slot_number other → (new other).mode ≡ Closed) (λ other e gt. ap (λ (p : SlotView). p.mode) (later other gt) ∙ start-closed Device text is h other e);
    unwritten = refused-unwritten Device text is h;
  }

  pub next-refused : (failed : Failed) (text : List ℕ) → name ≡ Some text → AfterFailedOpen (old slot) text failed (new slot) → IsRefused names start new (open_exit slot failed)
  next-refused failed text is h = record {
    cause = refused-cause failed text is h;
    unwritten = refused-unwritten failed text is h;
    named = refused-named failed text is h;
    not_open = not-open names new slot text file (next.named ∙ is) (slot-closed failed text is h);
  }
