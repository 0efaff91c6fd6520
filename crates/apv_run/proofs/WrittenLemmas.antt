-- What is known of an output that held nothing, after bytes were written to it.
use Rattle.std.proofs.Common.{◌≡◌, ℕ, ◌+◌, List, [], ◌++◌, length, take, refl, sym, ap, ◌∙◌, Option, Some, None, append_assoc, append-nil}
use Rattle.std.proofs.lemmas.List.{drop_at, take_at}
use Rattle.std.proofs.Math.Seq.{take-add}
use Rattle.std.specs.Io.KnownBytes.{append_known, prepend_known, IsAtEnd}
use Rattle.apv_files.specs.SlotView.{SlotView}
use Rattle.apv_files.specs.Loops.{TookAll, WroteAll, WroteFailed}
use Rattle.apv_run.specs.Known.{BeginsWith, IsKnownAs, IsPrefixOf}
use Rattle.apv_run.proofs.KnownLemmas.{begins-with, known-whole, prefix-of}

-- ---- bytes that are known or not

-- nothing was taken
pub none-taken : (known : Option (List ℕ)) → known ≡ prepend_known [] known
none-taken None = refl
none-taken (Some xs) = refl

pub none-took : (view : SlotView) → TookAll view [] view
none-took view = record { prefix = none-taken view.left; rest = refl }

-- what is known begins with what was taken
pub known-before : (old new : Option (List ℕ)) (taken rest : List ℕ) → old ≡ prepend_known taken new → IsKnownAs new rest → IsKnownAs old (taken ++ rest)
known-before None new taken rest e k = tt
known-before (Some xs) None taken rest e k = absurd (let no : ⊥ = cc (e) in no)
known-before (Some xs) (Some ys) taken rest e k = let same : xs ≡ taken ++ ys = cc (e) in same ∙ ap (λ (zs : List ℕ). taken ++ zs) k

-- ---- one output

pub none-whole : (now : Option (List ℕ)) → IsAtEnd now → IsKnownAs now []
none-whole None e = tt
none-whole (Some xs) e = e

pub begins-none : (now : Option (List ℕ)) → BeginsWith now []
begins-none None = tt
begins-none (Some xs) = (xs, refl)

module _ (old new : SlotView) (bytes : List ℕ) (empty : IsAtEnd old.written) where
  pub whole-written : WroteAll old bytes new → IsKnownAs new.written bytes
  whole-written w = known-whole old.written new.written bytes empty (ap (λ (p : SlotView). p.written) w)

  pub all-written : WroteAll old bytes new → IsPrefixOf new.written bytes
  all-written w = prefix-of new.written bytes [] bytes (whole-written w) (append-nil bytes)

  pub part-written : (prefix more : List ℕ) → prefix ++ more ≡ bytes → WroteAll old prefix new → IsPrefixOf new.written bytes
  part-written prefix more parts w = prefix-of new.written prefix more bytes (known-whole old.written new.written prefix empty (ap (λ (p : SlotView). p.written) w)) parts

  pub failed-written : (prefix more : List ℕ) → prefix ++ more ≡ bytes → WroteFailed old prefix new → IsPrefixOf new.written bytes
  failed-written prefix more parts w = prefix-of new.written prefix more bytes (known-whole old.written new.written prefix empty (ap (λ (p : SlotView). p.written) w.rest)) parts

  pub has-written : (more : List ℕ) → new.written ≡ append_known old.written (bytes ++ more) → BeginsWith new.written bytes
  has-written more e = begins-with old.written new.written bytes more empty e

  pub begins-written : WroteAll old bytes new → BeginsWith new.written bytes
  begins-written w = has-written [] (ap (λ (p : SlotView). p.written) w ∙ ap (append_known old.written) (sym (append-nil bytes)))

-- ---- the first of a list

pub take-first : {A : Type 0} (first more : List A) → take (length first) (first ++ more) ≡ first
take-first first more = take_at first more (length first) refl

pub take-next : {A : Type 0} (first more : List A) → take (length first + 1) (first ++ more) ≡ first ++ take 1 more
take-next first more = take-add (length first) 1 (first ++ more) ∙ (rw (take-first first more, drop_at first more (length first) refl) refl)
