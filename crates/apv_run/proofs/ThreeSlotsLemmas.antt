-- Calls on one of three slots, one after another.
use Rattle.std.proofs.Common.{◌≡◌, Bool, true, false, refl, ap, ◌∙◌}
use Rattle.std.specs.Bool.{OnFalse}
use Rattle.apv_base.specs.declared.slot.Slot.{Slot}
use Rattle.apv_base.specs.model.Slot.{same_slot}
use Rattle.apv_files.specs.SlotView.{SlotView, OnlyAt}
use Rattle.apv_run.specs.Slots.{OnlyAtThree, OnlyLeftChanged}

on-false : (b : Bool) (P : Type 0) → P → OnFalse b P
on-false true P p = tt
on-false false P p = p

widen-first : (b c d : Bool) {P Q R : Type 0} → (P → Q → R) → OnFalse b (OnFalse c (OnFalse d P)) → OnFalse b Q → OnFalse b (OnFalse c (OnFalse d R))
widen-first true c d f p q = tt
widen-first false true d f p q = tt
widen-first false false true f p q = tt
widen-first false false false f p q = f p q

widen-second : (b c d : Bool) {P Q R : Type 0} → (P → Q → R) → OnFalse b (OnFalse c (OnFalse d P)) → OnFalse c Q → OnFalse b (OnFalse c (OnFalse d R))
widen-second true c d f p q = tt
widen-second false true d f p q = tt
widen-second false false true f p q = tt
widen-second false false false f p q = f p q

widen-third : (b c d : Bool) {P Q R : Type 0} → (P → Q → R) → OnFalse b (OnFalse c (OnFalse d P)) → OnFalse d Q → OnFalse b (OnFalse c (OnFalse d R))
widen-third true c d f p q = tt
widen-third false true d f p q = tt
widen-third false false true f p q = tt
widen-third false false false f p q = f p q

-- no call on a slot
pub at-slot-none : (slot : Slot) (old : Slot → SlotView) → OnlyAt slot old old
at-slot-none slot old other = on-false (same_slot other slot) _ refl

module _ (a b c : Slot) where
  -- no call
  pub at-three-none : (old : Slot → SlotView) → OnlyAtThree a b c old old
  at-three-none old slot = on-false (same_slot slot a) _ (on-false (same_slot slot b) _ (on-false (same_slot slot c) _ refl))

  -- and then a call on the first, the second or the third
  pub at-three-first : (old mid new : Slot → SlotView) → OnlyAtThree a b c old mid → OnlyAt a mid new → OnlyAtThree a b c old new
  at-three-first old mid new f g slot = widen-first (same_slot slot a) (same_slot slot b) (same_slot slot c) (λ p q. q ∙ p) (f slot) (g slot)

  pub at-three-second : (old mid new : Slot → SlotView) → OnlyAtThree a b c old mid → OnlyAt b mid new → OnlyAtThree a b c old new
  at-three-second old mid new f g slot = widen-second (same_slot slot a) (same_slot slot b) (same_slot slot c) (λ p q. q ∙ p) (f slot) (g slot)

  pub at-three-third : (old mid new : Slot → SlotView) → OnlyAtThree a b c old mid → OnlyAt c mid new → OnlyAtThree a b c old new
  at-three-third old mid new f g slot = widen-third (same_slot slot a) (same_slot slot b) (same_slot slot c) (λ p q. q ∙ p) (f slot) (g slot)

-- of a slot only what is left changed, and then again
pub read-then : (a b c : SlotView) → OnlyLeftChanged a b → c ≡ record b { left = c.left } → OnlyLeftChanged a c
read-then a b c e f = f ∙ ap (λ (p : SlotView). record p { left = c.left }) e
