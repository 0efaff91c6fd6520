-- The slots of tracks are judged one after another, where Input has ended.
use Rattle.std.proofs.Common.{◌≡◌, ℕ, suc, ◌+◌, ◌<◌, ◌≤◌, List, [], ◌∷◌, ◌++◌, length, get_or, take, drop, refl, sym, ap, ◌∙◌, subst, arith, zero, Bool, true, false, Result, Ok, Err}
use Rattle.std.specs.Prelude.{Contains}
use Rattle.std.specs.Bool.{OnFalse}
use Rattle.std.specs.List.{AllByRecursion}
use Rattle.std.specs.Io.KnownBytes.{IsAtEnd}
use Rattle.std.proofs.KnownBytes.{prepend_known-nil}
use Rattle.std.proofs.Math.Seq.{drop-cons}
use Rattle.std.proofs.lemmas.List.{take-append-drop, take_more, take_all}
use Rattle.std.proofs.lemmas.List.Elements.{Contains-get_or}
use Rattle.apv_base.specs.declared.exits.Exit.TheVariants.{BadVideo, Done}
use Rattle.apv_base.specs.declared.exits.VideoRule.TheVariants.{Extra}
use Rattle.apv_base.specs.declared.slot.Slot.{Slot}
use Rattle.apv_base.proofs.HeaderPartsLemmas.{all-append}
use Rattle.apv_base.specs.model.Slot.{same_slot}
use Rattle.apv_files.specs.Loops.{Fills, Filled, ReadsFailed, TookAll}
use Rattle.apv_files.specs.SlotView.{OnlyAt, SlotView}
use Rattle.apv_files.specs.declared.files.Failed.{Failed}
use Rattle.apv_files.specs.declared.files.Failed.TheVariants.{Device, Memory}
use Rattle.apv_run.specs.Exits.{read_exit}
use Rattle.apv_tracks.specs.PictureSteps.{FurtherEnd, goes_on, have_ended, is_unread, lacks_memory}
use Rattle.apv_tracks.specs.declared.kinds.TrackKind.{TrackKind}
use Rattle.apv_tracks.proofs.SlotReadLemmas.{by-slot, same-other}
use Rattle.apv_tracks.proofs.TrackPlaceLemmas.{all-among}

-- a read that took nothing
same-none : (old new : SlotView) → TookAll old [] new → new ≡ old
same-none old new took = took.rest ∙ ap (λ left. record old { left = left }) (sym (took.prefix ∙ prepend_known-nil new.left))

-- the first i slots have ended, and none has changed
pub record HaveEndedBefore (kinds : List TrackKind) (i : ℕ) (old mid : Slot → SlotView) : Type 0 where
  pub ended : AllByRecursion (λ (kind : TrackKind). IsAtEnd (old kind.slot).left) (take i kinds)
  pub same : (slot : Slot) → mid slot ≡ old slot

pub none-ended : (kinds : List TrackKind) (old : Slot → SlotView) → HaveEndedBefore kinds 0 old old
none-ended kinds old = record { ended = tt; same = λ slot. refl }

-- the slot of the kind at a place was filled from
pub record IsTried (kinds : List TrackKind) (i : ℕ) (old mid new : Slot → SlotView) (kind : TrackKind) (buf : List ℕ) (result : Result ℕ Failed) : Type 0 where
  pub before : HaveEndedBefore kinds i old mid
  pub lt : i < length kinds
  pub is : kind ≡ get_or kinds i kind
  pub one : length buf ≡ 1
  pub fills : Fills (mid kind.slot) result buf (new kind.slot)
  pub elsewhere : OnlyAt kind.slot mid new

module _ (kinds : List TrackKind) (i : ℕ) (old mid new : Slot → SlotView) (kind : TrackKind) (buf : List ℕ) (result : Result ℕ Failed) (t : IsTried kinds i old mid new kind buf result) where
  among : Contains kinds kind
  among = subst (Contains kinds) (sym t.is) (Contains-get_or kinds i kind t.lt)

  elsewhere-old : OnlyAt kind.slot old new
  elsewhere-old other = on-false-by (same_slot other kind.slot) (t.before.same other) (t.elsewhere other)
    where
      on-false-by : (b : Bool) → mid other ≡ old other → OnFalse b (new other ≡ mid other) → OnFalse b (new other ≡ old other)
      on-false-by true e h = tt
      on-false-by false e h = h ∙ e

  parts : kinds ≡ take i kinds ++ kind ∷ drop (i + 1) kinds
  parts = sym (take-append-drop i kinds) ∙ ap (λ (ks : List TrackKind). take i kinds ++ ks) (drop-at ∙ ap (λ (k : TrackKind). k ∷ drop (i + 1) kinds) (sym t.is))
    where
      drop-at : drop i kinds ≡ get_or kinds i kind ∷ drop (i + 1) kinds
      drop-at = let next : suc i ≡ i + 1 = omega arith in subst (λ (n : ℕ). drop i kinds ≡ get_or kinds i kind ∷ drop n kinds) next (drop-cons kinds i kind t.lt)

  -- it has ended too
  pub tried-end : result ≡ Ok 0 → HaveEndedBefore kinds (i + 1) old new
  tried-end is =
      let filled : Filled (mid kind.slot) 0 buf (new kind.slot) = subst (λ (r : Result ℕ Failed). Fills (mid kind.slot) r buf (new kind.slot)) is t.fills in
      let same : new kind.slot ≡ mid kind.slot = same-none (mid kind.slot) (new kind.slot) filled.took in
      let end : IsAtEnd (old kind.slot).left = subst (λ (view : SlotView). IsAtEnd view.left) (same ∙ t.before.same kind.slot) (filled.end (omega (arith, t.one))) in
      record {
        ended = subst (AllByRecursion (λ (k : TrackKind). IsAtEnd (old k.slot).left)) (sym (take_more kinds i kind t.lt))
            (all-append (λ (k : TrackKind). IsAtEnd (old k.slot).left) (take i kinds) (get_or kinds i kind ∷ []) t.before.ended (subst (λ (k : TrackKind). IsAtEnd (old k.slot).left) t.is end, tt));
        same = by-slot (λ slot. new slot ≡ old slot) kind.slot (same ∙ t.before.same kind.slot) (λ other apart. same-other old mid new kind.slot t.elsewhere other apart ∙ t.before.same other);
      }

  one-byte : (n : ℕ) → n ≤ length buf → (n ≡ 0 → ⊥) → (byte : ℕ) × (take n buf ≡ byte ∷ [])
  one-byte n fits some = of-one buf t.one n fits some
    where
      of-one : (xs : List ℕ) → length xs ≡ 1 → (n : ℕ) → n ≤ length xs → (n ≡ 0 → ⊥) → (byte : ℕ) × (take n xs ≡ byte ∷ [])
      of-one [] e n fits some = absurd (omega (arith, e))
      of-one (x ∷ y ∷ xs) e n fits some = absurd (omega (arith, e))
      of-one (x ∷ []) e zero fits some = absurd (some refl)
      of-one (x ∷ []) e (suc zero) fits some = (x, refl)
      of-one (x ∷ []) e (suc (suc n)) fits some = absurd (omega (arith, fits))

  -- it goes on
  pub tried-byte : (number n : ℕ) → result ≡ Ok n → (n ≡ 0 → ⊥) → FurtherEnd kinds number old new (BadVideo (record { slot = kind.slot; rule = Extra; frame = number }))
  tried-byte number n is some =
      let filled : Filled (mid kind.slot) n buf (new kind.slot) = subst (λ (r : Result ℕ Failed). Fills (mid kind.slot) r buf (new kind.slot)) is t.fills in
      let byte = one-byte n filled.fits some in
      goes_on kind (record {
        before = take i kinds;
        later = drop (i + 1) kinds;
        parts = parts;
        ended = λ other in-them. all-among (λ (k : TrackKind). IsAtEnd (old k.slot).left) (take i kinds) other t.before.ended in-them;
        byte = byte.0;
        took = subst (λ (view : SlotView). TookAll view (byte.0 ∷ []) (new kind.slot)) (t.before.same kind.slot) (subst (λ (xs : List ℕ). TookAll (mid kind.slot) xs (new kind.slot)) byte.1 filled.took);
        elsewhere = elsewhere-old;
      })

  -- the read failed, or memory ran out
  pub tried-failed : (number : ℕ) (failed : Failed) → result ≡ Err failed → FurtherEnd kinds number old new (read_exit kind.slot failed)
  tried-failed number failed is = by-failed failed (subst (λ (r : Result ℕ Failed). Fills (mid kind.slot) r buf (new kind.slot)) is t.fills)
    where
      by-failed : (failed : Failed) → Fills (mid kind.slot) (Err failed) buf (new kind.slot) → FurtherEnd kinds number old new (read_exit kind.slot failed)
      by-failed Device h = is_unread kind (record {
        among = among;
        failed = subst (λ (view : SlotView). ReadsFailed view 1 (new kind.slot)) (t.before.same kind.slot) (subst (λ (count : ℕ). ReadsFailed (mid kind.slot) count (new kind.slot)) t.one h);
        elsewhere = elsewhere-old;
      })
      by-failed Memory h = lacks_memory kind (record {
        among = among;
        taken = h.taken;
        took = subst (λ (view : SlotView). TookAll view h.taken (new kind.slot)) (t.before.same kind.slot) h.took;
        elsewhere = elsewhere-old;
      })

-- all have ended
pub all-tried : (kinds : List TrackKind) (i number : ℕ) (old new : Slot → SlotView) → length kinds ≤ i → HaveEndedBefore kinds i old new → FurtherEnd kinds number old new Done
all-tried kinds i number old new all h =
    let each : AllByRecursion (λ (kind : TrackKind). IsAtEnd (old kind.slot).left) kinds = subst (AllByRecursion (λ (kind : TrackKind). IsAtEnd (old kind.slot).left)) (take_all i kinds all) h.ended in
    have_ended (record { ended = λ kind among. all-among (λ (k : TrackKind). IsAtEnd (old k.slot).left) kinds kind each among; same = h.same })
