-- What each output holds: a prefix of what is defined for the file, and with the file's own answer the whole.
use Rattle.std.proofs.Common.{◌≡◌, ℕ, ◌≤◌, List, [], ◌++◌, length, refl, sym, ap, subst, Option, Bool, true, false, append-nil}
use Rattle.std.specs.Bool.{OnTrue}
use Rattle.std.specs.Io.KnownBytes.{IsAtEnd}
use Rattle.apv_base.specs.declared.exits.Exit.{Exit}
use Rattle.apv_base.specs.declared.slot.Slot.{Slot}
use Rattle.apv_base.specs.declared.slot.Slot.TheVariants.{Input, Output, MetaOut}
use Rattle.apv_base.specs.laws.Run.{HasOneRun}
use Rattle.apv_base.specs.model.Judge.{DecodedUnit}
use Rattle.apv_base.specs.model.Output.{OutputSettings, DecodesTo, by_content, dec_out, dec_payloads}
use Rattle.apv_base.specs.model.Run.{MAX_UNITS}
use Rattle.apv_files.specs.SlotView.{SlotView}
use Rattle.apv_files.specs.Loops.{WroteAll}
use Rattle.apv_run.specs.Known.{IsKnownAs, IsPrefixOf}
use Rattle.apv_run.proofs.KnownLemmas.{known-whole, prefix-more, prefix-none, prefix-of, some-content}
use Rattle.apv_dec.specs.Units.{AreValid, unit_bytes}
use Rattle.apv_dec.specs.Decoded.{IsWritten, WritesStop, in_metadata, in_pictures, Ends, DecodedUnits}
use Rattle.apv_run.specs.Slots.{IsWrittenPrefix, IsWriteFault}
use Rattle.apv_run.specs.Cause.{AreUnwritten, is_of_file}
use Rattle.apv_dec.specs.Answer.{IsWholeRun, DecodesFile}
use Rattle.apv_dec.proofs.EndLemmas.{EndsBy, by_memory, by_read, by_write, by_file, ends-by}
use Rattle.apv_dec.proofs.UnitsLemmas.{Extends, out-more, payloads-more}

-- ---- one output

module _ (old new : SlotView) (bytes : List ℕ) (empty : IsAtEnd old.written) where
  whole-written : WroteAll old bytes new → IsKnownAs new.written bytes
  whole-written w = known-whole old.written new.written bytes empty (ap (λ (p : SlotView). p.written) w)

  all-written : WroteAll old bytes new → IsPrefixOf new.written bytes
  all-written w = prefix-of new.written bytes [] bytes (whole-written w) (append-nil bytes)

  part-written : IsWrittenPrefix old bytes new → IsPrefixOf new.written bytes
  part-written w = prefix-of new.written w.prefix w.more bytes (known-whole old.written new.written w.prefix empty (ap (λ (p : SlotView). p.written) w.rest)) w.parts

  failed-written : IsWriteFault old bytes new → IsPrefixOf new.written bytes
  failed-written w = prefix-of new.written w.prefix w.more bytes (known-whole old.written new.written w.prefix empty (ap (λ (p : SlotView). p.written) w.failed.rest)) w.parts

-- ---- both outputs

-- each output holds a prefix of that of the units
abbrev pub HoldPrefixes : OutputSettings → List DecodedUnit → (Slot → SlotView) → Type 0
HoldPrefixes settings units views = IsPrefixOf (views Output).written (dec_out settings units) × IsPrefixOf (views MetaOut).written (dec_payloads settings units)

module _ (settings : OutputSettings) where
  -- a prefix of the outputs of units is one of those of more units
  pub more-units : (units more us : List DecodedUnit) (views : Slot → SlotView) → us ≡ units ++ more → HoldPrefixes settings units views → HoldPrefixes settings us views
  more-units units more us views e h = (
    prefix-more (views Output).written (dec_out settings units) (dec_out settings us) h.0 (subst (λ (all : List DecodedUnit). Extends (dec_out settings units) (dec_out settings all)) (sym e) (out-more settings units more)),
    prefix-more (views MetaOut).written (dec_payloads settings units) (dec_payloads settings us) h.1 (subst (λ (all : List DecodedUnit). Extends (dec_payloads settings units) (dec_payloads settings all)) (sym e) (payloads-more settings units more)),
  )

  module _ (old new : Slot → SlotView) (none : AreUnwritten old) where
    written-prefixes : (units : List DecodedUnit) → IsWritten settings units old new → HoldPrefixes settings units new
    written-prefixes units w = (all-written (old Output) (new Output) (dec_out settings units) (none Output refl) w.output, all-written (old MetaOut) (new MetaOut) (dec_payloads settings units) (none MetaOut refl) w.metadata)

    failed-prefixes : (units : List DecodedUnit) (slot : Slot) → WritesStop settings old new units slot → HoldPrefixes settings units new
    failed-prefixes units slot (in_metadata wanted fault pictures) =
        (part-written (old Output) (new Output) (dec_out settings units) (none Output refl) pictures, failed-written (old MetaOut) (new MetaOut) (dec_payloads settings units) (none MetaOut refl) fault)
    failed-prefixes units slot (in_pictures wanted fault payloads) =
        (failed-written (old Output) (new Output) (dec_out settings units) (none Output refl) fault, all-written (old MetaOut) (new MetaOut) (dec_payloads settings units) (none MetaOut refl) payloads)

    prefixes-by : (units : List DecodedUnit) (rest : List ℕ) (exit : Exit) → EndsBy settings old new units rest exit → HoldPrefixes settings units new
    prefixes-by units rest exit (by_memory left w) =
        (part-written (old Output) (new Output) (dec_out settings units) (none Output refl) w.output, part-written (old MetaOut) (new MetaOut) (dec_payloads settings units) (none MetaOut refl) w.metadata)
    prefixes-by units rest exit (by_read fault w) = written-prefixes units w
    prefixes-by units rest exit (by_write slot left stop) = failed-prefixes units slot stop
    prefixes-by units rest exit (by_file e own s) = written-prefixes units s.written

    pub hold-prefixes : (units : List DecodedUnit) (rest : List ℕ) (exit : Exit) → Ends settings old new exit units rest → HoldPrefixes settings units new
    hold-prefixes units rest exit e = prefixes-by units rest exit (ends-by settings old new units rest exit e)

-- ---- what a run answers and leaves

on-true : (b : Bool) {P : Type 0} → P → OnTrue b P
on-true true p = p
on-true false p = tt

module _ (settings : OutputSettings) where
  module _ (law : (file : List ℕ) → HasOneRun (by_content settings) file) where
    -- the units of a file begin with valid units at its start
    pub units-more : (units : List DecodedUnit) (rest : List ℕ) → AreValid settings units → length units ≤ MAX_UNITS
        → (us : List DecodedUnit) (stop : Exit) → DecodesTo settings (unit_bytes settings units ++ rest) us stop → (more : List DecodedUnit) × (us ≡ units ++ more)
    units-more units rest valid count us stop runs = (law (unit_bytes settings units ++ rest)).longest us units stop rest runs (record { parts = refl; count = count; accepted = valid })

    module _ (old new : Slot → SlotView) (none : AreUnwritten old) where
      answer-by : (units : List DecodedUnit) (rest : List ℕ) (exit : Exit) → AreValid settings units → length units ≤ MAX_UNITS → EndsBy settings old new units rest exit
          → OnTrue (is_of_file exit) (IsWholeRun settings (unit_bytes settings units ++ rest) exit (new Output).written (new MetaOut).written)
      answer-by units rest exit valid count (by_memory left w) = tt
      answer-by units rest exit valid count (by_read fault w) = tt
      answer-by units rest exit valid count (by_write slot left stop) = tt
      answer-by units rest exit valid count (by_file e own s) = on-true (is_of_file e) (record {
        units = units;
        runs = record { rest = rest; prefix = record { parts = refl; count = count; accepted = valid }; stops = s.stops };
        whole = whole-written (old Output) (new Output) (dec_out settings units) (none Output refl) s.written.output;
        whole_metadata = whole-written (old MetaOut) (new MetaOut) (dec_payloads settings units) (none MetaOut refl) s.written.metadata;
      })

      pub decodes-of : (held : Option (List ℕ)) (exit : Exit) → DecodedUnits settings old exit new → (old Input).left ≡ held → DecodesFile settings held exit (new Output).written (new MetaOut).written
      decodes-of held exit d left = record {
        file = unit_bytes settings d.units ++ d.rest;
        told = subst (λ (h : Option (List ℕ)). IsKnownAs h (unit_bytes settings d.units ++ d.rest)) left d.told;
        prefix = λ us stop runs.
            let p = units-more d.units d.rest d.valid d.count us stop runs in
            more-units settings d.units p.0 us new p.1 (hold-prefixes settings old new none d.units d.rest exit d.ends);
        answer = answer-by d.units d.rest exit d.valid d.count (ends-by settings old new d.units d.rest exit d.ends);
      }

  -- nothing was written
  pub decodes-nothing : (held : Option (List ℕ)) (exit : Exit) (views : Slot → SlotView) → is_of_file exit ≡ false → AreUnwritten views → DecodesFile settings held exit (views Output).written (views MetaOut).written
  decodes-nothing held exit views e none =
      let some = some-content held in
      record {
        file = some.0;
        told = some.1;
        prefix = λ us stop runs. (prefix-none (views Output).written (dec_out settings us) (none Output refl), prefix-none (views MetaOut).written (dec_payloads settings us) (none MetaOut refl));
        answer = rw e tt;
      }
