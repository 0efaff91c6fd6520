-- One write after another.
use Rattle.std.proofs.Common.{◌≡◌, ℕ, ◌+◌, ◌≤◌, List, ◌++◌, length, take, refl, sym, ◌∙◌, subst, arith, Err, length-append}
use Rattle.std.proofs.Math.Seq.{take-add}
use Rattle.std.proofs.lemmas.List.{take-append-le, take_at, drop_at}
use Rattle.apv_files.specs.declared.files.Failed.{Failed}
use Rattle.apv_files.specs.declared.files.Failed.TheVariants.{Device, Memory}
use Rattle.apv_files.specs.SlotView.{SlotView}
use Rattle.apv_files.specs.Loops.{WroteAll, WroteFailed, WritesAll, WritesFailed, WritesStopped}
use Rattle.apv_files.proofs.Many.{wrote-wrote, wrote-failed}

-- the start of bytes that stand between others
take-between : (prefix bytes more : List ℕ) (n : ℕ) → n ≤ length bytes → take (length prefix + n) (prefix ++ (bytes ++ more)) ≡ prefix ++ take n bytes
take-between prefix bytes more n le =
    take-add (length prefix) n (prefix ++ (bytes ++ more))
    ∙ (rw (take_at prefix (bytes ++ more) (length prefix) refl, drop_at prefix (bytes ++ more) (length prefix) refl, take-append-le n bytes more le) refl)

err-device : (old mid new : SlotView) (prefix bytes more : List ℕ) → WroteAll old prefix mid → WritesFailed mid bytes new → WritesFailed old (prefix ++ (bytes ++ more)) new
err-device old mid new prefix bytes more a w = record {
  count = length prefix + w.count;
  short = omega (arith, w.short, length-append prefix (bytes ++ more), length-append bytes more);
  failed = subst (λ (xs : List ℕ). WroteFailed old xs new) (sym (take-between prefix bytes more w.count (omega (arith, w.short)))) (wrote-failed old mid new prefix (take w.count bytes) a w.failed);
}

err-memory : (old mid new : SlotView) (prefix bytes more : List ℕ) → WroteAll old prefix mid → WritesStopped mid bytes new → WritesStopped old (prefix ++ (bytes ++ more)) new
err-memory old mid new prefix bytes more a w = record {
  count = length prefix + w.count;
  short = omega (arith, w.short, length-append prefix (bytes ++ more), length-append bytes more);
  wrote = subst (λ (xs : List ℕ). WroteAll old xs new) (sym (take-between prefix bytes more w.count (omega (arith, w.short)))) (wrote-wrote old mid new prefix (take w.count bytes) a w.wrote);
}

-- a write failed after bytes that were written, with others still to come
pub err-then : (T U : Type 0) (old mid new : SlotView) (prefix bytes more all : List ℕ) (failed : Failed) → all ≡ prefix ++ (bytes ++ more) → WroteAll old prefix mid → WritesAll {T = T} mid bytes (Err failed) new → WritesAll {T = U} old all (Err failed) new
err-then T U old mid new prefix bytes more all Device e a w = subst (λ (xs : List ℕ). WritesFailed old xs new) (sym e) (err-device old mid new prefix bytes more a w)
err-then T U old mid new prefix bytes more all Memory e a w = subst (λ (xs : List ℕ). WritesStopped old xs new) (sym e) (err-memory old mid new prefix bytes more a w)
