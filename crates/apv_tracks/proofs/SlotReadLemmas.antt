-- Reads on one slot among others.
use Rattle.std.proofs.Common.{◌≡◌, ℕ, ◌⊎◌, inl, inr, List, [], refl, sym, ap, subst, Option, Some, None, Bool}
use Rattle.std.specs.Prelude.{if◌then◌else◌}
use Rattle.std.specs.Io.KnownBytes.{IsAtEnd}
use Rattle.std.proofs.lemmas.Bool.{cases_eq, eq-eqb, ne_eqb}
use Rattle.apv_base.specs.declared.slot.Slot.{Slot}
use Rattle.apv_base.specs.model.Slot.{same_slot, slot_number}
use Rattle.apv_files.specs.Loops.{TookAll, TookFailed}
use Rattle.apv_files.specs.SlotView.{OnlyAt, SlotView}
use Rattle.apv_files.proofs.Many.{took-failed, took-took}
use Rattle.apv_run.specs.Known.{IsKnownAs}
use Rattle.apv_run.specs.Slots.{IsReadFault, OnlyLeftChanged}
use Rattle.apv_run.proofs.SlotLemmas.{elsewhere as elsewhere-of, same-number}
use Rattle.apv_encoding.specs.Tracks.{Contents}

-- ---- values by slot

-- the slots are two
abbrev pub AreApart : Slot → Slot → Type 0
AreApart a b = slot_number a ≡ slot_number b → ⊥

-- another value at one slot
abbrev pub with_at : {A : Type 0} → Slot → A → (Slot → A) → Slot → A
with_at slot value f other = if same_slot other slot then value else f other

pub at-it : {A : Type 0} (slot : Slot) (value : A) (f : Slot → A) → with_at slot value f slot ≡ value
at-it {A} slot value f = ap (λ (b : Bool). if b then value else f slot) (eq-eqb (slot_number slot) (slot_number slot) refl)

pub at-other : {A : Type 0} (slot other : Slot) (value : A) (f : Slot → A) → AreApart other slot → with_at slot value f other ≡ f other
at-other {A} slot other value f apart = ap (λ (b : Bool). if b then value else f other) (ne_eqb (slot_number other) (slot_number slot) apart)

-- what is true of one slot and of each other
pub by-slot : (P : Slot → Type 0) (slot : Slot) → P slot → ((other : Slot) → AreApart other slot → P other) → (other : Slot) → P other
by-slot P slot here others other = elim (cases_eq (slot_number other) (slot_number slot)) [
  | inl e ↦ subst P (sym (same-number other slot e)) here
  | inr apart ↦ others other apart
]

-- ---- what is left of a slot

-- what is left, where it is known
abbrev pub content_of : Option (List ℕ) → List ℕ
content_of None = []
content_of (Some bytes) = bytes

abbrev pub content : SlotView → List ℕ
content view = content_of view.left

pub content-known : (known : Option (List ℕ)) → IsKnownAs known (content_of known)
content-known None = tt
content-known (Some bytes) = refl

pub content-end : (known : Option (List ℕ)) → IsAtEnd known → content_of known ≡ []
content-end None e = refl
content-end (Some bytes) e = e

-- ---- a read of one slot, after reads of all

module _ (old mid new : Slot → SlotView) (slot : Slot) (elsewhere : OnlyAt slot mid new) where
  pub same-other : (other : Slot) → AreApart other slot → new other ≡ mid other
  same-other other apart = elsewhere-of slot other mid new elsewhere apart

  -- a slot that wasn't read before
  pub took-first : (taken : Contents) (bytes : List ℕ) → ((other : Slot) → TookAll (old other) (taken other) (mid other)) → mid slot ≡ old slot → TookAll (mid slot) bytes (new slot)
      → (other : Slot) → TookAll (old other) (with_at slot bytes taken other) (new other)
  took-first taken bytes took same here = by-slot (λ other. TookAll (old other) (with_at slot bytes taken other) (new other)) slot
      (subst (λ (xs : List ℕ). TookAll (old slot) xs (new slot)) (sym (at-it slot bytes taken)) (subst (λ (view : SlotView). TookAll view bytes (new slot)) same here))
      (λ other apart. subst (λ (xs : List ℕ). TookAll (old other) xs (new other)) (sym (at-other slot other bytes taken apart)) (subst (λ (view : SlotView). TookAll (old other) (taken other) view) (sym (same-other other apart)) (took other)))

  -- only what is left changed
  pub only-left : (taken : Contents) (bytes : List ℕ) → ((other : Slot) → TookAll (old other) (taken other) (mid other)) → TookAll (mid slot) bytes (new slot) → (other : Slot) → OnlyLeftChanged (old other) (new other)
  only-left taken bytes took here = by-slot (λ other. OnlyLeftChanged (old other) (new other)) slot
      (took-took (old slot) (mid slot) (new slot) (taken slot) bytes (took slot) here).rest
      (λ other apart. subst (λ (view : SlotView). OnlyLeftChanged (old other) view) (sym (same-other other apart)) (took other).rest)

  -- the read failed
  pub read-fault : (taken : Contents) (bytes : List ℕ) → ((other : Slot) → TookAll (old other) (taken other) (mid other)) → TookFailed (mid slot) bytes (new slot) → IsReadFault (old slot) (new slot)
  read-fault taken bytes took here =
      let failed = took-failed (old slot) (mid slot) (new slot) (taken slot) bytes (took slot) here in
      record { fault = failed.fault; rest = failed.rest }

  pub fault-others : (taken : Contents) → ((other : Slot) → TookAll (old other) (taken other) (mid other)) → (other : Slot) → (other ≡ slot) ⊎ OnlyLeftChanged (old other) (new other)
  fault-others taken took other = elim (cases_eq (slot_number other) (slot_number slot)) [
    | inl e ↦ inl (same-number other slot e)
    | inr apart ↦ inr (subst (λ (view : SlotView). OnlyLeftChanged (old other) view) (sym (same-other other apart)) (took other).rest)
  ]

  -- each slot has its mode still
  pub mode-kept : (new slot).mode ≡ (mid slot).mode → (other : Slot) → (new other).mode ≡ (mid other).mode
  mode-kept here = by-slot (λ other. (new other).mode ≡ (mid other).mode) slot here (λ other apart. ap (λ (view : SlotView). view.mode) (same-other other apart))
