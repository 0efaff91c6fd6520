-- Units are read and written one at a time.
use Rattle.std.proofs.Common.{◌≡◌, ℕ, ◌+◌, ◌<◌, ◌≤◌, List, [], ◌∷◌, ◌++◌, length, take, refl, sym, ap, ◌∙◌, subst, arith, Option, Some, None, false, inl, inr, append_assoc, append-nil, length-append, true≢false}
use Rattle.std.proofs.lemmas.List.{take-append-le}
use Rattle.std.specs.Io.KnownBytes.{prepend_known, append_known, IsAtEnd}
use Rattle.apv_base.specs.declared.exits.Exit.{Exit}
use Rattle.apv_base.specs.declared.slot.Slot.{Slot}
use Rattle.apv_base.specs.declared.slot.Slot.TheVariants.{Input, Output, MetaOut}
use Rattle.apv_base.specs.laws.Run.{HasOneRun}
use Rattle.apv_base.specs.model.Bits.{be, number}
use Rattle.apv_base.specs.model.Judge.{DecodedUnit}
use Rattle.apv_base.specs.model.Output.{OutputSettings, DecodesTo, by_content, dec_out, dec_payloads}
use Rattle.apv_base.specs.model.Run.{MAX_UNIT, SizedAt, sized}
use Rattle.apv_base.proofs.DigitsLemmas.{length-digits}
use Rattle.apv_base.proofs.OneRunLemmas.{one-sized, sized-number}
use Rattle.apv_base.proofs.SomeRunLemmas.{spelled-push}
use Rattle.apv_files.specs.SlotView.{SlotView}
use Rattle.apv_run.specs.Known.{BeginsWith, IsKnownAs}
use Rattle.apv_run.proofs.KnownLemmas.{begins-with}
use Rattle.apv_run.proofs.WrittenLemmas.{take-first, take-next}
use Rattle.apv_dec.specs.NextUnit.{IsWithinUnit}
use Rattle.apv_dec.specs.Units.{AreValid, unit_bytes}
use Rattle.apv_dec.specs.Decoded.{IsWritten, EndsWithin, reading, writing, DecodedUnits}
use Rattle.apv_run.specs.Cause.{is_write_fault}
use Rattle.apv_run.specs.Slots.{HasWritten}
use Rattle.apv_dec.specs.OneUnit.{IsReadInto, IsReadUpTo, IsReadByUnit}
use Rattle.apv_run.specs.Cause.{AreUnwritten}
use Rattle.apv_dec.proofs.WrittenLemmas.{HoldPrefixes, hold-prefixes, more-units, units-more}

-- ---- what was taken of a unit

-- no more was taken than the sized unit that begins there, if one does
within-sized : (taken left unit after : List ℕ) → IsWithinUnit taken → SizedAt (taken ++ left) unit after → length taken ≤ 4 + length unit
within-sized taken left unit after (inl short) at = omega (arith, short)
within-sized taken left unit after (inr within) at =
    let same : take 4 (taken ++ left) ≡ take 4 taken = take-append-le 4 taken left within.1.long in
    omega (arith, within.3, within.1.is, ap (number 256) same, sized-number (taken ++ left) unit after at)

-- a whole unit was taken, which is the one that begins there
whole-sized : (bytes left unit after : List ℕ) → length bytes ≤ MAX_UNIT → SizedAt (sized bytes ++ left) unit after → length (sized bytes) ≤ 4 + length unit
whole-sized bytes left unit after small at =
    let same = one-sized (sized bytes ++ left) bytes unit left after (record { bytes = refl; small = small }) at in
    omega (arith, ap (length {A = ℕ}) same.0, length-append (be 4 (length bytes)) bytes, length-digits 256 4 (length bytes))

-- ---- what is known

has-written : (old new : SlotView) (bytes : List ℕ) → IsAtEnd old.written → HasWritten old bytes new → BeginsWith new.written bytes
has-written old new bytes empty w = begins-with old.written new.written bytes w.0 empty w.1

file-of : (held left : Option (List ℕ)) (file bytes : List ℕ) → held ≡ Some file → held ≡ prepend_known bytes left → (now : List ℕ) → left ≡ Some now → file ≡ bytes ++ now
file-of held left file bytes is e now known = let same : Some file ≡ Some (bytes ++ now) = sym is ∙ e ∙ ap (prepend_known bytes) known in cc

read-into : (held left : Option (List ℕ)) (file before taken : List ℕ) → held ≡ Some file → held ≡ prepend_known (before ++ taken) left
    → ((now unit after : List ℕ) → SizedAt (taken ++ now) unit after → length taken ≤ 4 + length unit) → IsReadInto file before left
read-into held None file before taken is e within = tt
read-into held (Some now) file before taken is e within = (taken, file-of held (Some now) file (before ++ taken) is e now refl ∙ append_assoc before taken now, within now)

read-up-to : (held left : Option (List ℕ)) (file bytes : List ℕ) → held ≡ Some file → held ≡ prepend_known bytes left → IsReadUpTo file bytes left
read-up-to held None file bytes is e = tt
read-up-to held (Some now) file bytes is e = file-of held (Some now) file bytes is e now refl

-- ---- a run of the loop

module _ (settings : OutputSettings) (old new : Slot → SlotView) (none : AreUnwritten old) (file : List ℕ) (is : (old Input).left ≡ Some file) where
  while-reading : (exit : Exit) (units more us : List DecodedUnit) (taken : List ℕ) → us ≡ units ++ more → HoldPrefixes settings units new → is_write_fault exit ≡ false → IsWithinUnit taken
      → (old Input).left ≡ prepend_known (unit_bytes settings units ++ taken) (new Input).left → IsWritten settings units old new → IsReadByUnit settings file us exit new
  while-reading exit units more us taken e h quiet within left w =
      let first : take (length units) us ≡ units = ap (take (length units)) e ∙ take-first units more in
      let next : take (length units + 1) us ≡ units ++ take 1 more = ap (take (length units + 1)) e ∙ take-next units more in
      let all = more-units settings units (take 1 more) (take (length units + 1) us) new next h in
      record {
        count = length units;
        among = omega (arith, ap (length {A = DecodedUnit}) e, length-append units more);
        output = rw first (has-written (old Output) (new Output) (dec_out settings units) (none Output refl) ([], ap (λ (p : SlotView). p.written) w.output ∙ ap (append_known (old Output).written) (sym (append-nil (dec_out settings units)))));
        payloads = rw first (has-written (old MetaOut) (new MetaOut) (dec_payloads settings units) (none MetaOut refl) ([], ap (λ (p : SlotView). p.written) w.metadata ∙ ap (append_known (old MetaOut).written) (sym (append-nil (dec_payloads settings units)))));
        no_more_output = all.0;
        no_more_payloads = all.1;
        input = rw first (read-into (old Input).left (new Input).left file (unit_bytes settings units) taken is left (λ now unit after at. within-sized taken now unit after within at));
        written = λ fault. absurd (true≢false (sym fault ∙ quiet));
      }

  while-writing : (exit : Exit) (units : List DecodedUnit) (unit : DecodedUnit) (more us : List DecodedUnit) → us ≡ (units ++ unit ∷ []) ++ more → AreValid settings (units ++ unit ∷ []) → HoldPrefixes settings (units ++ unit ∷ []) new
      → (old Input).left ≡ prepend_known (unit_bytes settings (units ++ unit ∷ [])) (new Input).left
      → HasWritten (old Output) (dec_out settings units) (new Output) → HasWritten (old MetaOut) (dec_payloads settings units) (new MetaOut) → IsReadByUnit settings file us exit new
  while-writing exit units unit more us e valid h left out meta =
      let parts : us ≡ units ++ (unit ∷ more) = e ∙ append_assoc units (unit ∷ []) more in
      let first : take (length units) us ≡ units = ap (take (length units)) parts ∙ take-first units (unit ∷ more) in
      let next : take (length units + 1) us ≡ units ++ unit ∷ [] = ap (take (length units + 1)) parts ∙ take-next units (unit ∷ more) in
      let all = more-units settings (units ++ unit ∷ []) [] (take (length units + 1) us) new (next ∙ sym (append-nil (units ++ unit ∷ []))) h in
      let whole : (old Input).left ≡ prepend_known (unit_bytes settings units ++ sized unit.bytes) (new Input).left = left ∙ ap (λ (xs : List ℕ). prepend_known xs (new Input).left) (spelled-push (by_content settings) units unit) in
      let few : length units < length us = omega (arith, ap (length {A = DecodedUnit}) parts, length-append units (unit ∷ more)) in
      record {
        count = length units;
        among = omega (arith, few);
        output = rw first (has-written (old Output) (new Output) (dec_out settings units) (none Output refl) out);
        payloads = rw first (has-written (old MetaOut) (new MetaOut) (dec_payloads settings units) (none MetaOut refl) meta);
        no_more_output = all.0;
        no_more_payloads = all.1;
        input = rw first (read-into (old Input).left (new Input).left file (unit_bytes settings units) (sized unit.bytes) is whole (λ now u after at. whole-sized unit.bytes now u after (valid units unit [] refl).0 at));
        written = λ fault. (few, rw next (read-up-to (old Input).left (new Input).left file (unit_bytes settings (units ++ unit ∷ [])) is left));
      }

  by-end : (exit : Exit) (units more us : List DecodedUnit) → us ≡ units ++ more → AreValid settings units → HoldPrefixes settings units new → EndsWithin settings old new exit units → IsReadByUnit settings file us exit new
  by-end exit units more us e valid h (reading units' taken quiet within left w) = while-reading exit units' more us taken e h quiet within left w
  by-end exit units more us e valid h (writing before unit left out meta) = while-writing exit before unit more us e valid h left out meta

  pub by-unit : (exit : Exit) → DecodedUnits settings old exit new → ((f : List ℕ) → HasOneRun (by_content settings) f) → (us : List DecodedUnit) (stop : Exit) → DecodesTo settings file us stop → IsReadByUnit settings file us exit new
  by-unit exit d law us stop runs =
      let same : file ≡ unit_bytes settings d.units ++ d.rest = (subst (λ (k : Option (List ℕ)). IsKnownAs k (unit_bytes settings d.units ++ d.rest)) is d.told) in
      let p = units-more settings law d.units d.rest d.valid d.count us stop (subst (λ (f : List ℕ). DecodesTo settings f us stop) same runs) in
      by-end exit d.units p.0 us p.1 d.valid (hold-prefixes settings old new none d.units d.rest exit d.ends) d.within
