-- Many calls on one slot, one after another.
use Rattle.std.proofs.Common.{◌≡◌, ℕ, ◌+◌, List, [], take, drop, ◌++◌, refl, ap, sym, ◌∙◌, Option, Some, None, Bool, true, false, append_assoc, append-nil}
use Rattle.std.proofs.KnownBytes.{prepend_known-nil}
use Rattle.std.proofs.Math.Seq.{take-add}
use Rattle.std.specs.Bool.{OnFalse}
use Rattle.std.specs.Io.KnownBytes.{prepend_known, append_known}
use Rattle.apv_base.specs.model.Slot.{same_slot}
use Rattle.apv_base.specs.declared.slot.Slot.{Slot}
use Rattle.apv_files.specs.Loops.{TookAll, TookFailed, WroteAll, WroteFailed}
use Rattle.apv_files.specs.SlotView.{SlotView, OnlyAt, Took, Put}

both : {P Q R : Type 0} (b : Bool) → (P → Q → R) → OnFalse b P → OnFalse b Q → OnFalse b R
both true f p q = tt
both false f p q = f p q

-- two calls on one slot leave the others
pub only-at-trans : (slot : Slot) (a b c : Slot → SlotView) → OnlyAt slot a b → OnlyAt slot b c → OnlyAt slot a c
only-at-trans slot a b c f g other = both (same_slot other slot) (λ p q. q ∙ p) (f other) (g other)

-- ---- reads

-- two prefixes are one of both lists
pub prepend-prepend : (known : Option (List ℕ)) (xs ys : List ℕ) → prepend_known xs (prepend_known ys known) ≡ prepend_known (xs ++ ys) known
prepend-prepend None xs ys = refl
prepend-prepend (Some zs) xs ys = ap Some (sym (append_assoc xs ys zs))

-- nothing was read yet
pub took-none : (view : SlotView) → TookAll view [] view
took-none view = record { prefix = sym (prepend_known-nil view.left); rest = refl }

-- two runs of reads
pub took-took : (old mid new : SlotView) (xs ys : List ℕ) → TookAll old xs mid → TookAll mid ys new → TookAll old (xs ++ ys) new
took-took old mid new xs ys a b = record {
  prefix = a.prefix ∙ ap (prepend_known xs) b.prefix ∙ prepend-prepend new.left xs ys;
  rest = b.rest ∙ ap (λ (view : SlotView). record view { left = new.left }) a.rest;
}

-- one more read
pub took-more : (old mid new : SlotView) (bytes buf : List ℕ) (n : ℕ) → TookAll old bytes mid → Took mid n buf new → TookAll old (bytes ++ take n buf) new
took-more old mid new bytes buf n a t = took-took old mid new bytes (take n buf) a (record { prefix = t.prefix; rest = t.rest })

-- a run of reads, and then one that failed
pub took-failed : (old mid new : SlotView) (xs ys : List ℕ) → TookAll old xs mid → TookFailed mid ys new → TookFailed old (xs ++ ys) new
took-failed old mid new xs ys a b = record {
  prefix = a.prefix ∙ ap (prepend_known xs) b.prefix ∙ prepend-prepend new.left xs ys;
  fault = let same : old.read_faults ≡ mid.read_faults = sym (ap (λ (view : SlotView). view.read_faults) a.rest) in rw same b.fault;
  rest = b.rest ∙ ap (λ (view : SlotView). record view { left = new.left; read_faults = new.read_faults }) a.rest;
}

-- ---- writes

-- two appends are one of both lists
pub append-append : (known : Option (List ℕ)) (xs ys : List ℕ) → append_known (append_known known xs) ys ≡ append_known known (xs ++ ys)
append-append None xs ys = refl
append-append (Some zs) xs ys = ap Some (append_assoc zs xs ys)

-- an append of nothing
pub append-none : (known : Option (List ℕ)) → append_known known [] ≡ known
append-none None = refl
append-none (Some xs) = ap Some (append-nil xs)

-- nothing was written yet
pub wrote-none : (view : SlotView) → WroteAll view [] view
wrote-none view = ap (λ w. record view { written = w }) (sym (append-none view.written))

-- two runs of writes
pub wrote-wrote : (old mid new : SlotView) (xs ys : List ℕ) → WroteAll old xs mid → WroteAll mid ys new → WroteAll old (xs ++ ys) new
wrote-wrote old mid new xs ys a b =
    b ∙ ap (λ (view : SlotView). record view { written = append_known view.written ys }) a
    ∙ ap (λ w. record old { written = w }) (append-append old.written xs ys)

-- a run of writes, and then one that failed
pub wrote-failed : (old mid new : SlotView) (xs ys : List ℕ) → WroteAll old xs mid → WroteFailed mid ys new → WroteFailed old (xs ++ ys) new
wrote-failed old mid new xs ys a b = record {
  fault = let same : old.write_faults ≡ mid.write_faults = sym (ap (λ (view : SlotView). view.write_faults) a) in rw same b.fault;
  rest = b.rest ∙ ap (λ (view : SlotView). record view { written = append_known view.written ys; write_faults = new.write_faults }) a
      ∙ ap (λ w. record old { written = w; write_faults = new.write_faults }) (append-append old.written xs ys);
}

-- one more write of what is left
pub put-more : (old mid new : SlotView) (bytes : List ℕ) (at n : ℕ) → WroteAll old (take at bytes) mid → Put mid n (drop at bytes) new → WroteAll old (take (at + n) bytes) new
put-more old mid new bytes at n e p = rw take-add (wrote-wrote old mid new (take at bytes) (take n (drop at bytes)) e p.rest)
