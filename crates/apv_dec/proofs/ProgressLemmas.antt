-- Units that were read, judged and written, one more of them, and how the loop over them ends.
use Rattle.std.proofs.Common.{◌≡◌, ℕ, ◌<◌, ◌≤◌, List, [], ◌∷◌, ◌++◌, length, take, drop, refl, sym, ap, ◌∙◌, subst, arith, Option, None, Bool, true, false, append_assoc, append-nil, length-append, inl, inr, Err, Ok}
use Rattle.std.proofs.KnownBytes.{prepend_known-nil}
use Rattle.std.proofs.lemmas.List.{take-append-drop}
use Rattle.std.specs.Prelude.{if◌then◌else◌}
use Rattle.std.specs.Io.KnownBytes.{prepend_known, append_known, IsAtEnd}
use Rattle.apv_base.specs.declared.slot.Slot.{Slot}
use Rattle.apv_base.specs.declared.slot.Slot.TheVariants.{Input, Output, MetaOut}
use Rattle.apv_base.specs.declared.exits.Exit.{Exit}
use Rattle.apv_base.specs.declared.exits.Exit.TheVariants as exits
use Rattle.apv_base.specs.declared.exits.Exit.TheVariants.{Done, Memory, ReadFailed, WriteFailed, LimitMet, NoTag, FormatChange}
use Rattle.apv_base.specs.declared.format.Format.{Format}
use Rattle.apv_base.specs.declared.rules.UnitEnd.{UnitEnd}
use Rattle.apv_base.specs.declared.rules.UnitEnd.TheVariants.{Broken as BrokenUnit, Limit}
use Rattle.apv_base.specs.model.Judge.{DecodedUnit, IsValidUnit, UnitBreaks}
use Rattle.apv_base.specs.model.Output.{OutputSettings, FormatsAgree, FormatsDiffer, no_tag, other_format, IsUndecoded, broken, differs, by_content, formats, wants_format, dec_out, dec_payloads}
use Rattle.apv_base.specs.model.Run.{SizedAt, MAX_UNIT, MAX_UNITS, SizeStops, at_end, full, no_size, large, cut, StopsAfter, by_size, refused, sized, exit_of}
use Rattle.apv_base.specs.model.Sound.{unit_payloads}
use Rattle.apv_base.proofs.OneRunLemmas.{sized-length, sized-number}
use Rattle.apv_base.proofs.SomeRunLemmas.{accepted-none, accepted-push, spelled-push}
use Rattle.apv_files.specs.SlotView.{SlotView, OnlyAt, Faulted}
use Rattle.apv_files.specs.Loops.{TookAll, WroteAll, WritesAll, WritesFailed, WritesStopped}
use Rattle.apv_files.specs.declared.files.Failed.{Failed}
use Rattle.apv_files.specs.declared.files.Failed.TheVariants.{Device as FailedDevice, Memory as FailedMemory}
use Rattle.apv_files.proofs.Many.{prepend-prepend, took-none, wrote-none, wrote-wrote, wrote-failed}
use Rattle.apv_grid.specs.Buffer.{Buffer}
use Rattle.apv_run.specs.Known.{IsKnownAs}
use Rattle.apv_run.proofs.ThreeSlotsLemmas.{at-three-none, at-three-first, at-three-second, at-three-third, read-then}
use Rattle.apv_run.proofs.KnownLemmas.{known-end, known-prefix, some-content}
use Rattle.apv_run.specs.Exits.{write_exit}
use Rattle.apv_dec.specs.Exits.{no_unit_exit}
use Rattle.apv_dec.specs.Judged.{IsJudged, IsRefused, no_memory, breaks}
use Rattle.apv_dec.specs.NextUnit.{NextUnit, IsWithinUnit, TookUnit, StopsAtEnd, StopsBefore, ReadFails, MemoryFails}
use Rattle.apv_dec.specs.declared.unit.UnitRead.{UnitRead}
use Rattle.apv_dec.specs.declared.unit.UnitRead.TheVariants.{Broken, Limit as LimitOf, Read, Memory as OutOfMemory}
use Rattle.apv_dec.specs.Outputs.{header_text, output_of, selected_pictures, unit_pictures, unit_metadata, IsFirstFormat, new_format}
use Rattle.apv_dec.specs.Units.{AreValid, unit_bytes}
use Rattle.apv_run.specs.Cause.{is_write_fault}
use Rattle.apv_run.specs.Slots.{OnlyLeftChanged, IsWrittenPrefix, IsWriteFault, HasWritten}
use Rattle.apv_dec.specs.Decoded.{OnlyAtFiles, IsPartlyWritten, IsStopped, WritesStop, in_metadata, in_pictures, Ends, reading, writing, EndsWithin, DecodedUnits}
use Rattle.apv_dec.proofs.JudgeLemmas.{judged-as, valid-of}
use Rattle.apv_dec.proofs.OutputLemmas.{out-none, payloads-none, out-push, payloads-push, is-wanted}

-- ---- what stops the loop

-- what an answer says of what is left, and which answers no file gives
abbrev pub StopsWith : Exit → List ℕ → Type 0
StopsWith Done xs = xs ≡ []
StopsWith (exits.Broken break) xs = Unit {0}
StopsWith (LimitMet limit count) xs = Unit {0}
StopsWith (NoTag format) xs = Unit {0}
StopsWith (FormatChange first other) xs = Unit {0}
StopsWith exit xs = ⊥

size-stops-with : (n : ℕ) (xs : List ℕ) (exit : Exit) → SizeStops n xs exit → StopsWith exit xs
size-stops-with n xs exit (at_end e) = e
size-stops-with n xs exit (full ne e) = tt
size-stops-with n xs exit (no_size ne lt few) = tt
size-stops-with n xs exit (large size lt h gt) = tt
size-stops-with n xs exit (cut size lt h le few) = tt

unit-stops-with : (end : UnitEnd) (xs : List ℕ) → StopsWith (exit_of end) xs
unit-stops-with (BrokenUnit break) xs = tt
unit-stops-with (Limit count) xs = tt

formats-stop-with : (all : List Format) (xs : List ℕ) (exit : Exit) → FormatsDiffer all exit → StopsWith exit xs
formats-stop-with all xs exit (no_tag first more e none) = tt
formats-stop-with all xs exit (other_format first same other more e one ne) = tt

undecoded-stops : (settings : OutputSettings) (before : List DecodedUnit) (bytes xs : List ℕ) (exit : Exit) → IsUndecoded settings before bytes exit → StopsWith exit xs
undecoded-stops settings before bytes xs exit (broken end b) = unit-stops-with end xs
undecoded-stops settings before bytes xs exit (differs unit e same valid wants d) = formats-stop-with (formats settings (before ++ unit ∷ [])) xs e d

pub stops-with : (settings : OutputSettings) (units : List DecodedUnit) (xs : List ℕ) (exit : Exit) → StopsAfter (by_content settings) units xs exit → StopsWith exit xs
stops-with settings units xs exit (by_size e stop) = size-stops-with (length units) xs e stop
stops-with settings units xs exit (refused e bytes after lt at r) = undecoded-stops settings units bytes xs e r

-- an end of a unit isn't that of its file
not-done : (end : UnitEnd) → exit_of end ≡ Done → ⊥
not-done (BrokenUnit break) e = let no : ⊥ = cc in no
not-done (Limit count) e = let no : ⊥ = cc in no

-- these answers aren't that a write failed
size-no-write : (n : ℕ) (xs : List ℕ) (exit : Exit) → SizeStops n xs exit → is_write_fault exit ≡ false
size-no-write n xs exit (at_end e) = refl
size-no-write n xs exit (full ne e) = refl
size-no-write n xs exit (no_size ne lt few) = refl
size-no-write n xs exit (large size lt h gt) = refl
size-no-write n xs exit (cut size lt h le few) = refl

unit-no-write : (end : UnitEnd) → is_write_fault (exit_of end) ≡ false
unit-no-write (BrokenUnit break) = refl
unit-no-write (Limit count) = refl

formats-no-write : (all : List Format) (exit : Exit) → FormatsDiffer all exit → is_write_fault exit ≡ false
formats-no-write all exit (no_tag first more e none) = refl
formats-no-write all exit (other_format first same other more e one ne) = refl

formats-not-done : (all : List Format) (exit : Exit) → FormatsDiffer all exit → exit ≡ Done → ⊥
formats-not-done all exit (no_tag first more e none) done = let no : ⊥ = cc in no
formats-not-done all exit (other_format first same other more e one ne) done = let no : ⊥ = cc in no

-- a whole unit is no more than its bytes
within-sized : (bytes : List ℕ) → length bytes ≤ MAX_UNIT → IsWithinUnit (sized bytes)
within-sized bytes small =
    let at : SizedAt (sized bytes) bytes [] = record { bytes = sym (append-nil (sized bytes)); small = small } in
    let len = sized-length (sized bytes) bytes [] at in
    inr (length bytes, record { long = omega (arith, len); is = sym (sized-number (sized bytes) bytes [] at) }, small, omega (arith, len))

-- ---- writes of a part

-- a prefix is written up to what was written before
before-part : (old new : SlotView) (done bytes all : List ℕ) → all ≡ done ++ bytes → WroteAll old done new → IsWrittenPrefix old all new
before-part old new done bytes all e w = record { prefix = done; more = bytes; parts = sym e; rest = w }

whole-prefix : (old new : SlotView) (bytes : List ℕ) → WroteAll old bytes new → IsWrittenPrefix old bytes new
whole-prefix old new bytes w = record { prefix = bytes; more = []; parts = append-nil bytes; rest = w }

part-parts : (done bytes all : List ℕ) (count : ℕ) → all ≡ done ++ bytes → (done ++ take count bytes) ++ drop count bytes ≡ all
part-parts done bytes all count e = append_assoc done (take count bytes) (drop count bytes) ∙ ap (λ (xs : List ℕ). done ++ xs) (take-append-drop count bytes) ∙ sym e

part-written : (old mid new : SlotView) (done bytes all : List ℕ) → all ≡ done ++ bytes → WroteAll old done mid → WritesStopped mid bytes new → IsWrittenPrefix old all new
part-written old mid new done bytes all e w s =
    record { prefix = done ++ take s.count bytes; more = drop s.count bytes; parts = part-parts done bytes all s.count e; rest = wrote-wrote old mid new done (take s.count bytes) w s.wrote }

part-failed : (old mid new : SlotView) (done bytes all : List ℕ) → all ≡ done ++ bytes → WroteAll old done mid → WritesFailed mid bytes new → IsWriteFault old all new
part-failed old mid new done bytes all e w f =
    record { prefix = done ++ take f.count bytes; more = drop f.count bytes; parts = part-parts done bytes all f.count e; failed = wrote-failed old mid new done (take f.count bytes) w f.failed }

-- a write that failed, after others: a fault of the device, or memory that ran out
abbrev FailsIn : Failed → SlotView → List ℕ → SlotView → Type 0
FailsIn FailedDevice old all new = IsWriteFault old all new
FailsIn FailedMemory old all new = IsWrittenPrefix old all new

fails-in : (T : Type 0) (old mid new : SlotView) (done bytes all : List ℕ) (failed : Failed) → all ≡ done ++ bytes → WroteAll old done mid → WritesAll {T = T} mid bytes (Err failed) new → FailsIn failed old all new
fails-in T old mid new done bytes all FailedDevice e w f = part-failed old mid new done bytes all e w f
fails-in T old mid new done bytes all FailedMemory e w f = part-written old mid new done bytes all e w f

-- a write fails of an output that is wanted alone
fails-wanted : (T : Type 0) (wanted : Bool) (mid new : SlotView) (bytes : List ℕ) (failed : Failed) → WritesAll {T = T} mid (if wanted then bytes else []) (Err failed) new → wanted ≡ true
fails-wanted T wanted mid new bytes FailedDevice f = is-wanted wanted bytes f.count f.short
fails-wanted T wanted mid new bytes FailedMemory f = is-wanted wanted bytes f.count f.short

-- what was written begins with a part of it
written-part : (old new : SlotView) (done bytes all : List ℕ) → all ≡ done ++ bytes → WroteAll old all new → HasWritten old done new
written-part old new done bytes all e w = (bytes, ap (λ (v : SlotView). v.written) w ∙ ap (append_known old.written) e)

written-all : (old new : SlotView) (bytes : List ℕ) → WroteAll old bytes new → HasWritten old bytes new
written-all old new bytes w = written-part old new bytes [] bytes (sym (append-nil bytes)) w

-- what was written before a write that failed is there
written-before : (T : Type 0) (old mid new : SlotView) (done bytes : List ℕ) (failed : Failed) → WroteAll old done mid → WritesAll {T = T} mid bytes (Err failed) new → HasWritten old done new
written-before T old mid new done bytes FailedDevice w f = (take f.count bytes, ap (λ (v : SlotView). v.written) (wrote-failed old mid new done (take f.count bytes) w f.failed).rest)
written-before T old mid new done bytes FailedMemory w s = (take s.count bytes, ap (λ (v : SlotView). v.written) (wrote-wrote old mid new done (take s.count bytes) w s.wrote))

-- ---- progress

-- these whole units were read and judged valid, and their outputs written
pub record Progress (settings : OutputSettings) (old now : Slot → SlotView) (units : List DecodedUnit) : Type 0 where
  pub valid : AreValid settings units
  pub prefix : (old Input).left ≡ prepend_known (unit_bytes settings units) (now Input).left
  pub input : OnlyLeftChanged (old Input) (now Input)
  pub output : WroteAll (old Output) (dec_out settings units) (now Output)
  pub metadata : WroteAll (old MetaOut) (dec_payloads settings units) (now MetaOut)
  pub others : OnlyAtFiles old now

-- the formats of the selected frames of units agree where they have to, and this is the first of them
pub record HasFormat (settings : OutputSettings) (units : List DecodedUnit) (format : Option Format) : Type 0 where
  pub agree : FormatsAgree settings (formats settings units)
  pub first : IsFirstFormat settings units format

-- n units were read and written, and this is the format of their pictures: where the loop begins again
pub record LoopState (settings : OutputSettings) (old now : Slot → SlotView) (n : ℕ) (format : Option Format) : Type 0 where
  pub units : List DecodedUnit
  pub count : length units ≡ n
  pub has : HasFormat settings units format
  pub progress : Progress settings old now units

-- a unit was taken from the input, and nothing else happened
pub record Taken (settings : OutputSettings) (old mid new : Slot → SlotView) (units : List DecodedUnit) (bytes : List ℕ) : Type 0 where
  pub progress : Progress settings old mid units
  pub few : length units < MAX_UNITS
  pub took : TookAll (mid Input) (sized bytes) (new Input)
  pub small : length bytes ≤ MAX_UNIT
  pub elsewhere : OnlyAt Input mid new

-- whole valid units were read, of the last of which the outputs needn't be written
pub record WithUnit (settings : OutputSettings) (old new : Slot → SlotView) (units : List DecodedUnit) (unit : DecodedUnit) : Type 0 where
  pub valid : AreValid settings (units ++ unit ∷ [])
  pub count : length (units ++ unit ∷ []) ≤ MAX_UNITS
  pub prefix : (old Input).left ≡ prepend_known (unit_bytes settings (units ++ unit ∷ [])) (new Input).left
  pub input : OnlyLeftChanged (old Input) (new Input)
  pub others : OnlyAtFiles old new

-- a unit was read that is accepted; the outputs of the units before it are written, and nothing of its own
pub record ReadValid (settings : OutputSettings) (old new : Slot → SlotView) (units : List DecodedUnit) (bytes : List ℕ) (buffers : List (Buffer ℕ)) (format : Option Format) : Type 0 where
  pub unit : DecodedUnit
  pub is : IsJudged settings.strict bytes buffers unit
  pub has : HasFormat settings (units ++ unit ∷ []) format
  pub with : WithUnit settings old new units unit
  pub output : WroteAll (old Output) (dec_out settings units) (new Output)
  pub metadata : WroteAll (old MetaOut) (dec_payloads settings units) (new MetaOut)

-- the payloads of a valid unit are written too, and none of its pictures
pub record WrotePayloads (settings : OutputSettings) (old new : Slot → SlotView) (units : List DecodedUnit) (unit : DecodedUnit) : Type 0 where
  pub with : WithUnit settings old new units unit
  pub output : WroteAll (old Output) (dec_out settings units) (new Output)
  pub metadata : WroteAll (old MetaOut) (dec_payloads settings (units ++ unit ∷ [])) (new MetaOut)

same-of-both : (wanted : Bool) (first : Option Format) → first ≡ (if wanted then first else first)
same-of-both true first = refl
same-of-both false first = refl

module _ (settings : OutputSettings) where
  pub format-none : HasFormat settings [] None
  format-none = record { agree = λ e. tt; first = same-of-both (wants_format settings) None }

  -- before the first unit
  pub progress-none : (old : Slot → SlotView) → Progress settings old old []
  progress-none old = record {
    valid = accepted-none (by_content settings);
    prefix = sym (prepend_known-nil (old Input).left);
    input = refl;
    output = subst (λ (xs : List ℕ). WroteAll (old Output) xs (old Output)) (sym (out-none settings)) (wrote-none (old Output));
    metadata = subst (λ (xs : List ℕ). WroteAll (old MetaOut) xs (old MetaOut)) (sym (payloads-none settings)) (wrote-none (old MetaOut));
    others = at-three-none Input Output MetaOut old;
  }

  -- ---- one more unit

  valid-push : (units : List DecodedUnit) (unit : DecodedUnit) → AreValid settings units → length unit.bytes ≤ MAX_UNIT → IsValidUnit settings.strict unit → FormatsAgree settings (formats settings (units ++ unit ∷ []))
      → AreValid settings (units ++ unit ∷ [])
  valid-push units unit valid small is agree = accepted-push (by_content settings) units unit valid small (is, agree)

  taken-prefix : (old mid new : Slot → SlotView) (units : List DecodedUnit) (bytes : List ℕ) → Taken settings old mid new units bytes → (old Input).left ≡ prepend_known (unit_bytes settings units ++ sized bytes) (new Input).left
  taken-prefix old mid new units bytes t = t.progress.prefix ∙ ap (prepend_known (unit_bytes settings units)) t.took.prefix ∙ prepend-prepend (new Input).left (unit_bytes settings units) (sized bytes)

  -- a unit was taken
  pub unit-taken : (old mid new : Slot → SlotView) (n : ℕ) (some : Bool) (units : List DecodedUnit) (bytes : List ℕ) → Progress settings old mid units → length units ≡ n → some ≡ true → NextUnit n (mid Input) (Ok some) bytes (new Input)
      → OnlyAt Input mid new → Taken settings old mid new units bytes
  unit-taken old mid new n some units bytes p len is here elsewhere =
      let took : TookUnit n (mid Input) bytes (new Input) = subst (λ (b : Bool). NextUnit n (mid Input) (Ok b) bytes (new Input)) is here in
      record { progress = p; few = omega (arith, len, took.more); took = took.took; small = took.small; elsewhere = elsewhere }

  -- a unit that was taken is accepted: the units with it
  with-unit : (old mid new : Slot → SlotView) (units : List DecodedUnit) (bytes : List ℕ) (buffers : List (Buffer ℕ)) (unit : DecodedUnit) → Taken settings old mid new units bytes
      → IsJudged settings.strict bytes buffers unit → FormatsAgree settings (formats settings (units ++ unit ∷ [])) → WithUnit settings old new units unit
  with-unit old mid new units bytes buffers unit t is agree = record {
    valid = valid-push units unit t.progress.valid (subst (λ (b : List ℕ). length b ≤ MAX_UNIT) (sym is.same) t.small) (valid-of settings.strict bytes buffers unit is) agree;
    count = omega (arith, t.few, length-append units (unit ∷ []));
    prefix = taken-prefix old mid new units bytes t
        ∙ ap (λ (xs : List ℕ). prepend_known xs (new Input).left) (ap (λ (b : List ℕ). unit_bytes settings units ++ sized b) (sym is.same) ∙ sym (spelled-push (by_content settings) units unit));
    input = read-then (old Input) (mid Input) (new Input) t.progress.input t.took.rest;
    others = at-three-first Input Output MetaOut old mid new t.progress.others t.elsewhere;
  }

  -- it is accepted
  -- a unit was read, judged and decoded, and the formats of its pictures are accepted; its bytes and its frames have other names where the formats are judged
  pub read-valid : (old mid new : Slot → SlotView) (n : ℕ) (some : Bool) (before format : Option Format) (bytes given again : List ℕ) (buffers frames : List (Buffer ℕ)) (state : LoopState settings old mid n before) → some ≡ true
      → NextUnit n (mid Input) (Ok some) bytes (new Input) → OnlyAt Input mid new → given ≡ bytes → (unit : DecodedUnit) × IsJudged settings.strict given buffers unit → again ≡ bytes → frames ≡ buffers
      → ((units : List DecodedUnit) (unit : DecodedUnit) → FormatsAgree settings (formats settings units) → IsFirstFormat settings units before → IsJudged settings.strict again frames unit
      → FormatsAgree settings (formats settings (units ++ unit ∷ [])) × IsFirstFormat settings (units ++ unit ∷ []) format)
      → ReadValid settings old new state.units bytes buffers format
  read-valid old mid new n some before format bytes given again buffers frames state is here elsewhere same judged same_again held agree =
      let t : Taken settings old mid new state.units bytes = unit-taken old mid new n some state.units bytes state.progress state.count is here elsewhere in
      let so : IsJudged settings.strict bytes buffers judged.0 = subst (λ (b : List ℕ). IsJudged settings.strict b buffers judged.0) same judged.1 in
      let formats = agree state.units judged.0 state.has.agree state.has.first (judged-as settings.strict bytes again buffers frames judged.0 same_again held so) in
      record {
        unit = judged.0;
        is = so;
        has = record { agree = formats.0; first = formats.1 };
        with = with-unit old mid new state.units bytes buffers judged.0 t so formats.0;
        output = elsewhere Output ∙ state.progress.output;
        metadata = elsewhere MetaOut ∙ state.progress.metadata;
      }

  -- its metadata output is written, or a prefix of it
  with-metadata : (old mid new : Slot → SlotView) (units : List DecodedUnit) (unit : DecodedUnit) → WithUnit settings old mid units unit → OnlyAt MetaOut mid new → WithUnit settings old new units unit
  with-metadata old mid new units unit w elsewhere = record {
    valid = w.valid;
    count = w.count;
    prefix = w.prefix ∙ ap (λ (p : SlotView). prepend_known (unit_bytes settings (units ++ unit ∷ [])) p.left) (sym (elsewhere Input));
    input = subst (λ (p : SlotView). OnlyLeftChanged (old Input) p) (sym (elsewhere Input)) w.input;
    others = at-three-third Input Output MetaOut old mid new w.others elsewhere;
  }

  -- its pictures are written, or a prefix of them
  with-pictures : (old mid new : Slot → SlotView) (units : List DecodedUnit) (unit : DecodedUnit) → WithUnit settings old mid units unit → OnlyAt Output mid new → WithUnit settings old new units unit
  with-pictures old mid new units unit w elsewhere = record {
    valid = w.valid;
    count = w.count;
    prefix = w.prefix ∙ ap (λ (p : SlotView). prepend_known (unit_bytes settings (units ++ unit ∷ [])) p.left) (sym (elsewhere Input));
    input = subst (λ (p : SlotView). OnlyLeftChanged (old Input) p) (sym (elsewhere Input)) w.input;
    others = at-three-second Input Output MetaOut old mid new w.others elsewhere;
  }

  -- its payloads are written
  pub wrote-payloads : (old mid new : Slot → SlotView) (units : List DecodedUnit) (bytes : List ℕ) (buffers : List (Buffer ℕ)) (format : Option Format) (v : ReadValid settings old mid units bytes buffers format) → OnlyAt MetaOut mid new
      → WroteAll (mid MetaOut) (unit_metadata settings v.unit) (new MetaOut) → WrotePayloads settings old new units v.unit
  wrote-payloads old mid new units bytes buffers format v elsewhere wrote = record {
    with = with-metadata old mid new units v.unit v.with elsewhere;
    output = elsewhere Output ∙ v.output;
    metadata = subst (λ (xs : List ℕ). WroteAll (old MetaOut) xs (new MetaOut)) (sym (payloads-push settings units v.unit))
        (wrote-wrote (old MetaOut) (mid MetaOut) (new MetaOut) (dec_payloads settings units) (unit_metadata settings v.unit) v.metadata wrote);
  }

  -- its pictures are written too
  pub wrote-pictures : (old mid new : Slot → SlotView) (units : List DecodedUnit) (unit : DecodedUnit) (before now header : Option Format) → HasFormat settings units before → HasFormat settings (units ++ unit ∷ []) now → header ≡ new_format before now → WrotePayloads settings old mid units unit → OnlyAt Output mid new
      → WroteAll (mid Output) (unit_pictures settings header unit) (new Output) → Progress settings old new (units ++ unit ∷ [])
  wrote-pictures old mid new units unit before now header has also e so elsewhere wrote =
      let w : WithUnit settings old new units unit = with-pictures old mid new units unit so.with elsewhere in
      record {
        valid = w.valid;
        prefix = w.prefix;
        input = w.input;
        output = subst (λ (xs : List ℕ). WroteAll (old Output) xs (new Output)) (sym (out-push settings units unit before now header has.first also.first e))
            (wrote-wrote (old Output) (mid Output) (new Output) (dec_out settings units) (unit_pictures settings header unit) so.output wrote);
        metadata = elsewhere MetaOut ∙ so.metadata;
        others = w.others;
      }

  -- ---- how the loop ends

  ends-of-size : (old new : Slot → SlotView) (units : List DecodedUnit) (rest : List ℕ) (n : ℕ) (exit : Exit) → SizeStops n rest exit → IsStopped settings old new exit units rest → Ends settings old new exit units rest
  ends-of-size old new units rest n exit' (at_end e) s = s
  ends-of-size old new units rest n exit' (full ne e) s = s
  ends-of-size old new units rest n exit' (no_size ne lt few) s = s
  ends-of-size old new units rest n exit' (large size lt h gt) s = s
  ends-of-size old new units rest n exit' (cut size lt h le few) s = s

  ends-of-unit : (old new : Slot → SlotView) (units : List DecodedUnit) (rest : List ℕ) (end : UnitEnd) → IsStopped settings old new (exit_of end) units rest → Ends settings old new (exit_of end) units rest
  ends-of-unit old new units rest (BrokenUnit break) s = s
  ends-of-unit old new units rest (Limit count) s = s

  ends-of-formats : (old new : Slot → SlotView) (units : List DecodedUnit) (rest : List ℕ) (all : List Format) (exit : Exit) → FormatsDiffer all exit → IsStopped settings old new exit units rest → Ends settings old new exit units rest
  ends-of-formats old new units rest all exit' (no_tag first more e none) s = s
  ends-of-formats old new units rest all exit' (other_format first same other more e one ne) s = s

  ends-of-undecoded : (old new : Slot → SlotView) (units : List DecodedUnit) (rest bytes : List ℕ) (exit : Exit) → IsUndecoded settings units bytes exit → IsStopped settings old new exit units rest → Ends settings old new exit units rest
  ends-of-undecoded old new units rest bytes exit' (broken end b) s = ends-of-unit old new units rest end s
  ends-of-undecoded old new units rest bytes exit' (differs unit e same valid wants d) s = ends-of-formats old new units rest (formats settings (units ++ unit ∷ [])) e d s

  ends-of : (old new : Slot → SlotView) (units : List DecodedUnit) (rest : List ℕ) (exit : Exit) → StopsAfter (by_content settings) units rest exit → IsStopped settings old new exit units rest → Ends settings old new exit units rest
  ends-of old new units rest exit (by_size e stop) s = ends-of-size old new units rest (length units) e stop s
  ends-of old new units rest exit (refused e bytes after lt at r) s = ends-of-undecoded old new units rest bytes e r s

  -- within which unit the loop ended: while the unit after these was read or judged
  ends-reading : (old mid new : Slot → SlotView) (exit : Exit) (units : List DecodedUnit) (taken : List ℕ) → Progress settings old mid units → is_write_fault exit ≡ false → IsWithinUnit taken
      → (mid Input).left ≡ prepend_known taken (new Input).left → OnlyAt Input mid new → EndsWithin settings old new exit units
  ends-reading old mid new exit units taken p e within prefix elsewhere =
      reading units taken e within (p.prefix ∙ ap (prepend_known (unit_bytes settings units)) prefix ∙ prepend-prepend (new Input).left (unit_bytes settings units) taken)
      (record { output = elsewhere Output ∙ p.output; metadata = elsewhere MetaOut ∙ p.metadata })

  -- nothing follows the units: taken bytes, and what is known or may be after them
  pub stopped : (old mid new : Slot → SlotView) (exit : Exit) (units : List DecodedUnit) (taken more : List ℕ) → Progress settings old mid units → length units ≤ MAX_UNITS → TookAll (mid Input) taken (new Input) → OnlyAt Input mid new
      → IsKnownAs (new Input).left more → StopsAfter (by_content settings) units (taken ++ more) exit → is_write_fault exit ≡ false → IsWithinUnit taken → (exit ≡ Done → IsAtEnd (new Input).left) → DecodedUnits settings old exit new
  stopped old mid new exit units taken more p count took elsewhere known stops no-write within end =
      let prefix : (mid Input).left ≡ prepend_known taken (new Input).left = took.prefix in
      record {
        units = units;
        rest = taken ++ more;
        valid = p.valid;
        count = count;
        told = known-prefix (old Input).left (mid Input).left (unit_bytes settings units) (taken ++ more) p.prefix (known-prefix (mid Input).left (new Input).left taken more prefix known);
        others = at-three-first Input Output MetaOut old mid new p.others elsewhere;
        ends = ends-of old new units (taken ++ more) exit stops (record {
          stops = stops;
          input = read-then (old Input) (mid Input) (new Input) p.input took.rest;
          written = record { output = elsewhere Output ∙ p.output; metadata = elsewhere MetaOut ∙ p.metadata };
          end = end;
        });
        within = ends-reading old mid new exit units taken p no-write within prefix elsewhere;
      }

  pub stopped-done : (old mid new : Slot → SlotView) (n : ℕ) (some : Bool) (units : List DecodedUnit) (bytes : List ℕ) → Progress settings old mid units → length units ≡ n → n ≤ MAX_UNITS → some ≡ false
      → NextUnit n (mid Input) (Ok some) bytes (new Input) → OnlyAt Input mid new → DecodedUnits settings old Done new
  stopped-done old mid new n some units bytes p len le is given elsewhere =
      let none : (new Input ≡ mid Input) × IsAtEnd (mid Input).left = subst (λ (b : Bool). NextUnit n (mid Input) (Ok b) bytes (new Input)) is given in
      let here : IsAtEnd (new Input).left = subst (λ (q : SlotView). IsAtEnd q.left) (sym none.0) none.1 in
      stopped old mid new Done units [] [] p (omega (arith, len, le)) (subst (λ (q : SlotView). TookAll (mid Input) [] q) (sym none.0) (took-none (mid Input))) elsewhere (known-end (new Input).left here) (by_size Done (at_end refl)) refl (inl (omega arith)) (λ _. here)

  pub stopped-at_end : (old mid new : Slot → SlotView) (n : ℕ) (exit : Exit) (units : List DecodedUnit) → Progress settings old mid units → length units ≡ n → n ≤ MAX_UNITS → StopsAtEnd n (mid Input) exit (new Input) → OnlyAt Input mid new → DecodedUnits settings old exit new
  stopped-at_end old mid new n exit units p len le s elsewhere =
      stopped old mid new exit units s.taken [] p (omega (arith, len, le)) s.took elsewhere (known-end (new Input).left s.end) (by_size exit (rw (append-nil s.taken, len) s.stops)) (size-no-write n s.taken exit s.stops) s.within (λ _. s.end)

  pub stopped-before : (old mid new : Slot → SlotView) (n : ℕ) (exit : Exit) (units : List DecodedUnit) → Progress settings old mid units → length units ≡ n → n ≤ MAX_UNITS → StopsBefore n (mid Input) exit (new Input) → OnlyAt Input mid new → (exit ≡ Done → ⊥) → DecodedUnits settings old exit new
  stopped-before old mid new n exit units p len le s elsewhere not =
      let more = some-content (new Input).left in
      stopped old mid new exit units s.taken more.0 p (omega (arith, len, le)) s.took elsewhere more.1 (by_size exit (rw len (s.stops more.0))) (size-no-write n (s.taken ++ more.0) exit (s.stops more.0)) (inl s.short) (λ e. absurd (not e))

  -- a unit that was taken isn't valid
  stopped-broken : (old mid new : Slot → SlotView) (n : ℕ) (end : UnitEnd) (units : List DecodedUnit) (bytes : List ℕ) → Taken settings old mid new units bytes → length units ≡ n
      → UnitBreaks settings.strict n bytes end → DecodedUnits settings old (exit_of end) new
  stopped-broken old mid new n end units bytes t len b =
      let more = some-content (new Input).left in
      let at : SizedAt (sized bytes ++ more.0) bytes more.0 = record { bytes = refl; small = t.small } in
      let stops : StopsAfter (by_content settings) units (sized bytes ++ more.0) (exit_of end) = refused (exit_of end) bytes more.0 t.few at (broken end (rw len b)) in
      stopped old mid new (exit_of end) units (sized bytes) more.0 t.progress (omega (arith, t.few)) t.took t.elsewhere more.1 stops (unit-no-write end) (within-sized bytes t.small) (λ e. absurd (not-done end e))

  -- memory ran out while a unit that was taken was judged
  stopped-judging : (old mid new : Slot → SlotView) (units : List DecodedUnit) (bytes : List ℕ) → Taken settings old mid new units bytes → DecodedUnits settings old Memory new
  stopped-judging old mid new units bytes t =
      let more = some-content (new Input).left in
      let prefix : (mid Input).left ≡ prepend_known (sized bytes) (new Input).left = t.took.prefix in
      record {
        units = units;
        rest = sized bytes ++ more.0;
        valid = t.progress.valid;
        count = omega (arith, t.few);
        told = known-prefix (old Input).left (mid Input).left (unit_bytes settings units) (sized bytes ++ more.0) t.progress.prefix (known-prefix (mid Input).left (new Input).left (sized bytes) more.0 prefix more.1);
        others = at-three-first Input Output MetaOut old mid new t.progress.others t.elsewhere;
        ends = (
          read-then (old Input) (mid Input) (new Input) t.progress.input t.took.rest,
          record { output = whole-prefix (old Output) (new Output) (dec_out settings units) (t.elsewhere Output ∙ t.progress.output); metadata = whole-prefix (old MetaOut) (new MetaOut) (dec_payloads settings units) (t.elsewhere MetaOut ∙ t.progress.metadata) },
        );
        within = ends-reading old mid new Memory units (sized bytes) t.progress refl (within-sized bytes t.small) prefix t.elsewhere;
      }

  -- a unit that was taken is refused
  stopped-refused : (old mid new : Slot → SlotView) (n : ℕ) (exit : Exit) (units : List DecodedUnit) (bytes : List ℕ) → Taken settings old mid new units bytes → length units ≡ n
      → IsRefused settings.strict n bytes exit → DecodedUnits settings old exit new
  stopped-refused old mid new n exit units bytes t len no_memory = stopped-judging old mid new units bytes t
  stopped-refused old mid new n exit units bytes t len (breaks end b) = stopped-broken old mid new n end units bytes t len b

  pub stopped-judged : (old mid new : Slot → SlotView) (n : ℕ) (exit : Exit) (units : List DecodedUnit) (bytes given : List ℕ) → Taken settings old mid new units bytes → length units ≡ n → given ≡ bytes
      → IsRefused settings.strict n given exit → DecodedUnits settings old exit new
  stopped-judged old mid new n exit units bytes given t len same r = stopped-refused old mid new n exit units bytes t len (subst (λ (b : List ℕ). IsRefused settings.strict n b exit) same r)

  -- a valid unit that was taken has other formats
  pub stopped-formats : (old mid new : Slot → SlotView) (exit : Exit) (units : List DecodedUnit) (bytes given : List ℕ) (buffers : List (Buffer ℕ)) (unit : DecodedUnit) → Taken settings old mid new units bytes → given ≡ bytes
      → IsJudged settings.strict given buffers unit → (wants_format settings ≡ true) × FormatsDiffer (formats settings (units ++ unit ∷ [])) exit → DecodedUnits settings old exit new
  stopped-formats old mid new exit units bytes given buffers unit t same judged why =
      let all : List Format = formats settings (units ++ unit ∷ []) in
      let more = some-content (new Input).left in
      let at : SizedAt (sized bytes ++ more.0) bytes more.0 = record { bytes = refl; small = t.small } in
      let stops : StopsAfter (by_content settings) units (sized bytes ++ more.0) exit =
      refused exit bytes more.0 t.few at (differs unit exit (judged.same ∙ same) (valid-of settings.strict given buffers unit judged) why.0 why.1) in
      stopped old mid new exit units (sized bytes) more.0 t.progress (omega (arith, t.few)) t.took t.elsewhere more.1 stops (formats-no-write all exit why.1) (within-sized bytes t.small) (λ e. absurd (formats-not-done all exit why.1 e))

  -- a read failed
  pub read-failed : (old mid new : Slot → SlotView) (units : List DecodedUnit) → Progress settings old mid units → length units ≤ MAX_UNITS → ReadFails (mid Input) (new Input) → OnlyAt Input mid new → DecodedUnits settings old (ReadFailed Input) new
  read-failed old mid new units p count f elsewhere =
      let more = some-content (new Input).left in
      let same : (mid Input).read_faults ≡ (old Input).read_faults = ap (λ (q : SlotView). q.read_faults) p.input in
      record {
        units = units;
        rest = f.taken ++ more.0;
        valid = p.valid;
        count = count;
        told = known-prefix (old Input).left (mid Input).left (unit_bytes settings units) (f.taken ++ more.0) p.prefix (known-prefix (mid Input).left (new Input).left f.taken more.0 f.prefix more.1);
        others = at-three-first Input Output MetaOut old mid new p.others elsewhere;
        ends = (
          refl,
          record { fault = subst (λ (k : ℕ). Faulted k (new Input).read_faults) same f.fault; rest = f.rest ∙ ap (λ (q : SlotView). record q { left = (new Input).left; read_faults = (new Input).read_faults }) p.input },
          record { output = elsewhere Output ∙ p.output; metadata = elsewhere MetaOut ∙ p.metadata },
        );
        within = ends-reading old mid new (ReadFailed Input) units f.taken p refl f.within f.prefix elsewhere;
      }

  -- memory ran out while the next unit was read
  pub memory-failed : (old mid new : Slot → SlotView) (units : List DecodedUnit) → Progress settings old mid units → length units ≤ MAX_UNITS → MemoryFails (mid Input) (new Input) → OnlyAt Input mid new → DecodedUnits settings old Memory new
  memory-failed old mid new units p count f elsewhere =
      let more = some-content (new Input).left in
      record {
        units = units;
        rest = f.taken ++ more.0;
        valid = p.valid;
        count = count;
        told = known-prefix (old Input).left (mid Input).left (unit_bytes settings units) (f.taken ++ more.0) p.prefix (known-prefix (mid Input).left (new Input).left f.taken more.0 f.took.prefix more.1);
        others = at-three-first Input Output MetaOut old mid new p.others elsewhere;
        ends = (
          read-then (old Input) (mid Input) (new Input) p.input f.took.rest,
          record { output = whole-prefix (old Output) (new Output) (dec_out settings units) (elsewhere Output ∙ p.output); metadata = whole-prefix (old MetaOut) (new MetaOut) (dec_payloads settings units) (elsewhere MetaOut ∙ p.metadata) },
        );
        within = ends-reading old mid new Memory units f.taken p refl f.within f.took.prefix elsewhere;
      }

  -- ---- a write failed, or memory ran out, while the outputs of a valid unit were written

  ended : (old new : Slot → SlotView) (units : List DecodedUnit) (unit : DecodedUnit) (exit : Exit) → WithUnit settings old new units unit → HasWritten (old Output) (dec_out settings units) (new Output) → HasWritten (old MetaOut) (dec_payloads settings units) (new MetaOut)
      → ((rest : List ℕ) → Ends settings old new exit (units ++ unit ∷ []) rest) → DecodedUnits settings old exit new
  ended old new units unit exit w output metadata ends =
      let more = some-content (new Input).left in
      record {
        units = units ++ unit ∷ [];
        rest = more.0;
        valid = w.valid;
        count = w.count;
        told = known-prefix (old Input).left (new Input).left (unit_bytes settings (units ++ unit ∷ [])) more.0 w.prefix more.1;
        others = w.others;
        ends = ends more.0;
        within = writing units unit w.prefix output metadata;
      }

  write-ends : (old new : Slot → SlotView) (slot : Slot) (units : List DecodedUnit) (failed : Failed) (rest : List ℕ) → OnlyLeftChanged (old Input) (new Input)
      → (IsWriteFault (old slot) (output_of settings units slot) (new slot) → WritesStop settings old new units slot) → (IsWrittenPrefix (old slot) (output_of settings units slot) (new slot) → IsPartlyWritten settings units old new)
      → FailsIn failed (old slot) (output_of settings units slot) (new slot) → Ends settings old new (write_exit slot failed) units rest
  write-ends old new slot units FailedDevice rest input fault part f = (input, fault f)
  write-ends old new slot units FailedMemory rest input fault part f = (input, part f)

  -- of its payloads; no picture of it is written then
  pub metadata-failed : (T : Type 0) (old mid new : Slot → SlotView) (units : List DecodedUnit) (bytes : List ℕ) (buffers : List (Buffer ℕ)) (before now : Option Format) (failed : Failed) (exit : Exit) → exit ≡ write_exit MetaOut failed
      → HasFormat settings units before → (v : ReadValid settings old mid units bytes buffers now)
      → OnlyAt MetaOut mid new → WritesAll {T = T} (mid MetaOut) (unit_metadata settings v.unit) (Err failed) (new MetaOut) → DecodedUnits settings old exit new
  metadata-failed T old mid new units bytes buffers before now failed exit e has v elsewhere w =
      let all : List DecodedUnit = units ++ v.unit ∷ [] in
      let with : WithUnit settings old new units v.unit = with-metadata old mid new units v.unit v.with elsewhere in
      let output : WroteAll (old Output) (dec_out settings units) (new Output) = elsewhere Output ∙ v.output in
      let pictures : IsWrittenPrefix (old Output) (dec_out settings all) (new Output) =
      before-part (old Output) (new Output) (dec_out settings units) (unit_pictures settings (new_format before now) v.unit) (dec_out settings all) (out-push settings units v.unit before now (new_format before now) has.first v.has.first refl) output in
      ended old new units v.unit exit with (written-all (old Output) (new Output) (dec_out settings units) output)
      (written-before T (old MetaOut) (mid MetaOut) (new MetaOut) (dec_payloads settings units) (unit_metadata settings v.unit) failed v.metadata w)
      (λ rest. subst (λ (x : Exit). Ends settings old new x all rest) (sym e) (write-ends old new MetaOut all failed rest with.input
      (λ fault. in_metadata (fails-wanted T settings.payloads (mid MetaOut) (new MetaOut) (unit_payloads v.unit.pbus) failed w) fault pictures) (λ part. record { output = pictures; metadata = part })
      (fails-in T (old MetaOut) (mid MetaOut) (new MetaOut) (dec_payloads settings units) (unit_metadata settings v.unit) (dec_payloads settings all) failed (payloads-push settings units v.unit) v.metadata w)))

  -- of its pictures; its payloads are written
  pub pictures-failed : (T : Type 0) (old mid new : Slot → SlotView) (units : List DecodedUnit) (unit : DecodedUnit) (before now header : Option Format) (failed : Failed) (exit : Exit) → exit ≡ write_exit Output failed
      → HasFormat settings units before → HasFormat settings (units ++ unit ∷ []) now → header ≡ new_format before now → WrotePayloads settings old mid units unit
      → OnlyAt Output mid new → WritesAll {T = T} (mid Output) (unit_pictures settings header unit) (Err failed) (new Output) → DecodedUnits settings old exit new
  pictures-failed T old mid new units unit before now header failed exit e has also g so elsewhere w =
      let all : List DecodedUnit = units ++ unit ∷ [] in
      let with : WithUnit settings old new units unit = with-pictures old mid new units unit so.with elsewhere in
      let metadata : WroteAll (old MetaOut) (dec_payloads settings all) (new MetaOut) = elsewhere MetaOut ∙ so.metadata in
      ended old new units unit exit with (written-before T (old Output) (mid Output) (new Output) (dec_out settings units) (unit_pictures settings header unit) failed so.output w)
      (written-part (old MetaOut) (new MetaOut) (dec_payloads settings units) (unit_metadata settings unit) (dec_payloads settings all) (payloads-push settings units unit) metadata)
      (λ rest. subst (λ (x : Exit). Ends settings old new x all rest) (sym e) (write-ends old new Output all failed rest with.input
      (λ fault. in_pictures (fails-wanted T settings.output (mid Output) (new Output) (header_text settings header ++ selected_pictures settings unit) failed w) fault metadata)
      (λ part. record { output = part; metadata = whole-prefix (old MetaOut) (new MetaOut) (dec_payloads settings all) metadata })
      (fails-in T (old Output) (mid Output) (new Output) (dec_out settings units) (unit_pictures settings header unit) (dec_out settings all) failed (out-push settings units unit before now header has.first also.first g) so.output w)))

  -- no unit was read
  ends-unread : (old mid new : Slot → SlotView) (n : ℕ) (end : UnitRead) (units : List DecodedUnit) (bytes : List ℕ) → Progress settings old mid units → length units ≡ n → n ≤ MAX_UNITS
      → NextUnit n (mid Input) (Err end) bytes (new Input) → OnlyAt Input mid new → DecodedUnits settings old (no_unit_exit end) new
  ends-unread old mid new n (Broken break) units bytes p len le s elsewhere = stopped-at_end old mid new n (exits.Broken break) units p len le s elsewhere
  ends-unread old mid new n (LimitOf limit count) units bytes p len le s elsewhere = stopped-before old mid new n (LimitMet limit count) units p len le s elsewhere (λ e. let no : ⊥ = cc in no)
  ends-unread old mid new n Read units bytes p len le s elsewhere = read-failed old mid new units p (omega (arith, len, le)) s elsewhere
  ends-unread old mid new n OutOfMemory units bytes p len le s elsewhere = memory-failed old mid new units p (omega (arith, len, le)) s elsewhere

  pub not-read : (old mid new : Slot → SlotView) (n : ℕ) (end : UnitRead) (exit : Exit) (units : List DecodedUnit) (bytes : List ℕ) → exit ≡ no_unit_exit end → Progress settings old mid units → length units ≡ n → n ≤ MAX_UNITS
      → NextUnit n (mid Input) (Err end) bytes (new Input) → OnlyAt Input mid new → DecodedUnits settings old exit new
  not-read old mid new n end exit units bytes e p len le s elsewhere = subst (λ (x : Exit). DecodedUnits settings old x new) (sym e) (ends-unread old mid new n end units bytes p len le s elsewhere)
