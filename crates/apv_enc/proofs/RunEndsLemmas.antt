-- What a run of the encoder leaves, where its files weren't opened, where they were, and over a generated video.
use Rattle.std.proofs.Common.{◌≡◌, ℕ, List, [], take, sym, ap, ◌∙◌, subst, Option, Some, None, is_some, Bool, true, false, not, ◌⊎◌, inl, inr, refl, true≢false, arith}
use Rattle.std.specs.Prelude.{IsTrue}
use Rattle.std.specs.Bool.{OnFalse}
use Rattle.std.specs.Io.KnownBytes.{IsAtEnd}
use Rattle.apv_base.specs.declared.exits.Exit.{Exit}
use Rattle.apv_base.specs.declared.exits.Exit.TheVariants.{Done, Memory}
use Rattle.apv_base.specs.declared.slot.Slot.{Slot}
use Rattle.apv_base.specs.declared.slot.Slot.TheVariants.{Input, Preview, Depth, Alpha, Metadata, TileQp, Output, Recon, MetaOut, Console}
use Rattle.apv_base.specs.model.Slot.{is_input, is_output, same_slot}
use Rattle.apv_files.specs.SlotView.{Lender, SlotView, AllClosed}
use Rattle.apv_files.specs.declared.files.Mode.{Mode}
use Rattle.apv_files.specs.declared.files.Mode.TheVariants.{Closed}
use Rattle.apv_generated.specs.Views.{input_view, lender_of, with_input}
use Rattle.apv_quant.specs.Laws.{HasOneNearest}
use Rattle.apv_run.specs.Cause.{AreUnwritten, HasCause, HasNoFault, HaveNoFault, HaveNotRisen}
use Rattle.apv_run.specs.Known.{BeginsWith}
use Rattle.apv_run.specs.Names.{AreOpen, IsNamed, Names}
use Rattle.apv_run.specs.Opened.{IsOpenEnd, IsOpened, IsRefused, Opened}
use Rattle.apv_run.proofs.CauseLemmas.{open-end-cause, open-end-other, quiet-answer}
use Rattle.apv_run.proofs.KnownLemmas.{prefix-none}
use Rattle.apv_run.proofs.WrittenLemmas.{begins-none}
use Rattle.apv_run.proofs.OpenLemmas.{are-open, are-quiet, are-unwritten, closed-named, open-are-named}
use Rattle.apv_words.specs.Encoder.{HasEncBounds, HasEncFiles}
use Rattle.apv_words.specs.declared.encoder.EncSettings.{EncSettings}
use Rattle.apv_encoding.specs.AccessUnit.{EncodedUnit}
use Rattle.apv_encoding.specs.Answer.{Inputs, enc_out, recon_out}
use Rattle.apv_encoding.specs.Generated.{generated_file}
use Rattle.apv_encoding.specs.Laws.{AreSoundSettings, Encoding, HasEncoding}
use Rattle.apv_encoding.specs.Settings.{EncoderSettings}
use Rattle.apv_tracks.specs.Plain.{plain_settings}
use Rattle.apv_enc.specs.ByFrame.{IsEncodedByFrame, left_by, left_of_input}
use Rattle.apv_enc.specs.Encoded.{EncodesInputs, EndsGenerated, EndsOpened, EndsRun, IsComplete, WritesDecodable}
use Rattle.apv_enc.specs.Run.{AreFiles, AreKnown, content_of, input_by, input_content, is_own_answer, name_of, names_with}
use Rattle.apv_enc.specs.Told.{IsToldReport}
use Rattle.apv_enc.specs.declared.end.RunEnd.{RunEnd}
use Rattle.apv_enc.proofs.RunByFrameLemmas.{by-frame}
use Rattle.apv_enc.proofs.RunCauseLemmas.{cause-of, console-of, named-after, open-after, stay-open}
use Rattle.apv_enc.proofs.RunEncodedLemmas.{HasDecodableFiles, complete-of, decodes-of, encodes-nothing, encodes-of, out-none, outcome-report, own-of-file, recon-none}
use Rattle.apv_enc.proofs.RunGeneratedLemmas.{real-cause, real-open}
use Rattle.apv_enc.proofs.RunOpenLemmas.{input-not-open, opened-left}
use Rattle.apv_enc.proofs.RunOutcomeLemmas.{HasOutcome, Outcome, known-outcome, outcome-of}
use Rattle.apv_enc.proofs.WithInputLemmas.{with-both}
use Rattle.apv_tracks.proofs.HeaderLemmas.{plain-sound}

-- where nothing was read or written, no frame was
no-frame : (settings : EncSettings) (given : HasEncFiles settings) (inputs : Inputs) (units : List EncodedUnit) (views : Slot → SlotView) → AllClosed views → AreUnwritten views → AreOpen (name_of settings) views
    → IsEncodedByFrame (plain_settings settings) inputs units Memory (left_of_input settings views) views
no-frame settings given inputs units views closed none is_open = go settings.generate given.input
  where
    s : EncoderSettings
    s = plain_settings settings

    go : (generate : Option ℕ) → is_some settings.input ≡ not (is_some generate) → IsEncodedByFrame s inputs units Memory (left_by generate (views Input).left) views
    go None named = absurd (input-not-open settings views (closed Input) named is_open)
    go (Some seed) named = record {
      count = 0;
      among = omega arith;
      output = record {
        whole = subst (BeginsWith (views Output).written) (sym (out-none s)) (begins-none (views Output).written);
        no_more = prefix-none (views Output).written (enc_out s (take 1 units)) (none Output refl);
      };
      recon = λ format begin has. record {
        whole = subst (BeginsWith (views Recon).written) (sym (recon-none s inputs format)) (begins-none (views Recon).written);
        no_more = prefix-none (views Recon).written (recon_out s inputs format (take 1 units)) (none Recon refl);
      };
      input = tt;
      written = λ fault. absurd (true≢false (sym fault));
    }

-- where memory ran out before any file was opened
pub memory-run : (settings : EncSettings) (held : List ℕ → Option (List ℕ)) (views : Slot → SlotView) → AllClosed views → AreUnwritten views → HasEncFiles settings → EndsRun settings held (record { exit = Memory; report = None }) views views
memory-run settings held views closed none given = record {
  encodes = encodes-nothing settings held Memory views refl none;
  decodes = λ done named bytes is. absurd (let no : ⊥ = cc (done) in no);
  cause = tt;
  by_frame = λ is_open known inputs encoding files made. no-frame settings given inputs encoding.units views closed none is_open;
  named = closed-named (name_of settings) views closed;
  complete = λ known inputs encoding files made done quiet. inr refl;
  report = λ done. absurd (let no : ⊥ = cc (done) in no);
}

-- where a file wasn't opened, and no count rose, memory ran out
quiet-refused : (names : Names) (old new : Slot → SlotView) (exit : Exit) → IsOpenEnd names old new exit → HaveNotRisen old new → (exit ≡ Done) ⊎ (exit ≡ Memory)
quiet-refused names old new exit end quiet = elim (quiet-answer is_own_answer names old new quiet exit (open-end-cause is_own_answer names old new exit end)) [
  | inl ends ↦ ends
  | inr own ↦ absurd (true≢false (sym (own-of-file exit own) ∙ open-end-other is_own_answer names old new exit end))
]

no-done : (names : Names) (old new : Slot → SlotView) (exit : Exit) → IsOpenEnd names old new exit → exit ≡ Done → ⊥
no-done names old new exit end done = let no : ⊥ = subst (IsOpenEnd names old new) done end in no

-- where a file wasn't opened
pub refused-run : (settings : EncSettings) (held : List ℕ → Option (List ℕ)) (old new : Slot → SlotView) (exit : Exit) → IsRefused (name_of settings) old new exit → EndsRun settings held (record { exit = exit; report = None }) old new
refused-run settings held old new exit r = record {
  encodes = encodes-nothing settings held exit new (open-end-other is_own_answer (name_of settings) old new exit r.cause) r.unwritten;
  decodes = λ done named bytes is. absurd (no-done (name_of settings) old new exit r.cause done);
  cause = open-end-cause is_own_answer (name_of settings) old new exit r.cause;
  by_frame = λ is_open known inputs encoding files made. absurd (r.not_open is_open);
  named = r.named;
  complete = λ known inputs encoding files made done quiet. quiet-refused (name_of settings) old new exit r.cause quiet;
  report = λ done. absurd (no-done (name_of settings) old new exit r.cause done);
}

-- where all slots were opened, as the run sees them
module _ (settings : EncSettings) (nearest : HasOneNearest) (decodable : HasDecodableFiles) (bounds : HasEncBounds settings) (given : HasEncFiles settings) (held : List ℕ → Option (List ℕ)) (old new : Slot → SlotView) (none : AreUnwritten old)
    (left_input : (old Input).left ≡ input_content settings held) (left : (slot : Slot) → is_input slot ≡ true → IsNamed (name_of settings) slot → (old slot).left ≡ content_of (name_of settings slot) held) (end : RunEnd) (ends : EndsOpened settings old new end) where
  sound : AreSoundSettings (plain_settings settings)
  sound = plain-sound settings bounds

  has-outcome : HasOutcome settings held old new end
  has-outcome = outcome-of settings held old new given.input left_input left end ends

  encodes-run : EncodesInputs settings held end.exit new
  encodes-run = encodes-of settings nearest sound held old new none end has-outcome

  decodes-run : WritesDecodable settings held end.exit new
  decodes-run done named = decodes-of settings decodable sound held end.exit (new Output).written (new Recon).written named encodes-run done

  outcome-run : AreKnown settings held → (inputs : Inputs) → AreFiles settings held inputs → Outcome settings inputs old new end
  outcome-run known inputs files = known-outcome settings held old new given.input left_input left known inputs files end ends

  by-frame-run : AreKnown settings held → (inputs : Inputs) (encoding : Encoding) → AreFiles settings held inputs → HasEncoding (plain_settings settings) inputs encoding → IsEncodedByFrame (plain_settings settings) inputs encoding.units end.exit (new Input).left new
  by-frame-run = by-frame settings nearest sound held old new none given.input left_input end outcome-run

  complete-run : (names : Names) (first last : Slot → SlotView) → HasCause is_own_answer names first last end.exit → IsComplete settings held first last end.exit
  complete-run names first last cause = complete-of settings nearest sound held names first last old new none end outcome-run cause

  report-run : end.exit ≡ Done → IsToldReport settings held settings.generate end.report
  report-run done = outcome-report settings old new none has-outcome.inputs held end has-outcome.told has-outcome.outcome done

-- without a seed what is known to be left of Input is just that
left-without : (generate : Option ℕ) (left : Option (List ℕ)) → generate ≡ None → left ≡ left_by generate left
left-without None left none = refl
left-without (Some seed) left none = absurd (let no : ⊥ = cc (none) in no)

content-without : (generate : Option ℕ) (known : Option (List ℕ)) → generate ≡ None → known ≡ input_by generate known
content-without None known none = refl
content-without (Some seed) known none = absurd (let no : ⊥ = cc (none) in no)

pub named-without : (generate : Option ℕ) (some : Bool) → generate ≡ None → some ≡ not (is_some generate) → some ≡ true
named-without None some none is = is
named-without (Some seed) some none is = absurd (let no : ⊥ = cc (none) in no)

-- ---- over a generated video

none-named : (name : Option (List ℕ)) → is_some name ≡ false → name ≡ None
none-named None none = refl
none-named (Some name) none = absurd (true≢false none)

-- a slot without a name wasn't opened
not-opened : (held : List ℕ → Option (List ℕ)) (is_read : Bool) (name : Option (List ℕ)) (old new : SlotView) → name ≡ None → IsOpened is_read name held old new → new ≡ old
not-opened held is_read None old new none e = e
not-opened held is_read (Some name) old new none e = absurd (let no : ⊥ = cc (none) in no)

abbrev lender-mode : Option Lender → Mode
lender-mode None = Closed
lender-mode (Some lender) = lender.mode

abbrev lender-opens : Option Lender → ℕ
lender-opens None = 0
lender-opens (Some lender) = lender.open_faults

abbrev lender-reads : Option Lender → ℕ
lender-reads None = 0
lender-reads (Some lender) = lender.read_faults

abbrev lender-writes : Option Lender → ℕ
lender-writes None = 0
lender-writes (Some lender) = lender.write_faults

-- where all files were opened
module _ (settings : EncSettings) (nearest : HasOneNearest) (decodable : HasDecodableFiles) (bounds : HasEncBounds settings) (given : HasEncFiles settings) (held : List ℕ → Option (List ℕ)) (start old new : Slot → SlotView) (closed : AllClosed start) (none : AreUnwritten start)
    (o : Opened (name_of settings) held start old) (end : RunEnd) where
  none-yet : AreUnwritten old
  none-yet = are-unwritten (name_of settings) held start old o none

  -- without a generated video
  module _ (no_seed : settings.generate ≡ None) (ends : EndsOpened settings old new end) where
    pub has-input : is_some settings.input ≡ true
    has-input = named-without settings.generate (is_some settings.input) no_seed given.input

    left_input : (old Input).left ≡ input_content settings held
    left_input = opened-left settings held start old o Input refl has-input ∙ content-without settings.generate (content_of settings.input held) no_seed

    left : (slot : Slot) → is_input slot ≡ true → IsNamed (name_of settings) slot → (old slot).left ≡ content_of (name_of settings slot) held
    left = opened-left settings held start old o

    cause-run : HasCause is_own_answer (name_of settings) start new end.exit
    cause-run = cause-of settings settings.input start old new has-input (are-quiet (name_of settings) held start old o) (are-open (name_of settings) held start old o closed) end ends

    pub opened-run : EndsRun settings held end start new
    opened-run = record {
      encodes = encodes-run settings nearest decodable bounds given held old new none-yet left_input left end ends;
      decodes = decodes-run settings nearest decodable bounds given held old new none-yet left_input left end ends;
      cause = cause-run;
      by_frame = λ is_open known inputs encoding files made. subst (λ (known_left : Option (List ℕ)). IsEncodedByFrame (plain_settings settings) inputs encoding.units end.exit known_left new) (left-without settings.generate (new Input).left no_seed)
          (by-frame-run settings nearest decodable bounds given held old new none-yet left_input left end ends known inputs encoding files made);
      named = named-after settings settings.input start old new has-input (are-quiet (name_of settings) held start old o) (are-open (name_of settings) held start old o closed) end ends;
      complete = complete-run settings nearest decodable bounds given held old new none-yet left_input left end ends (name_of settings) start new cause-run;
      report = report-run settings nearest decodable bounds given held old new none-yet left_input left end ends;
    }

  -- over a generated video
  module _ (seed : ℕ) (is_seed : settings.generate ≡ Some seed) (g : EndsGenerated settings seed old new end) where
    abbrev first : SlotView
    first = input_view g.name (old Input) (generated_file seed)

    abbrev last : SlotView
    last = input_view g.name (new Input) g.left

    abbrev seen_old : Slot → SlotView
    seen_old = with_input first old

    abbrev seen_new : Slot → SlotView
    seen_new = with_input last new

    unnamed : settings.input ≡ None
    unnamed = none-named settings.input (given.input ∙ ap (λ (generate : Option ℕ). not (is_some generate)) is_seed)

    seen-unwritten : AreUnwritten seen_old
    seen-unwritten = with-both (λ slot x y. IsTrue (is_output slot) → IsAtEnd y.written) first first old old (λ output. refl) (λ slot other output. none-yet slot output)

    seen-input : (seen_old Input).left ≡ input_content settings held
    seen-input = sym (ap (λ (generate : Option ℕ). input_by generate (content_of settings.input held)) is_seed)

    seen-left : (slot : Slot) → is_input slot ≡ true → IsNamed (name_of settings) slot → (seen_old slot).left ≡ content_of (name_of settings slot) held
    seen-left = with-both (λ slot x y. is_input slot ≡ true → IsNamed (name_of settings) slot → y.left ≡ content_of (name_of settings slot) held) first first old old
        (λ input named. absurd (true≢false (sym named ∙ ap is_some unnamed))) (λ slot other input named. opened-left settings held start old o slot input named)

    -- the slot Input of the borrowed files is as it was
    same-input : old Input ≡ start Input
    same-input = not-opened held (is_input Input) (name_of settings Input) (start Input) (old Input) unnamed (o.opened Input (omega arith))

    same-lender : Some (lender_of g.name (new Input)) ≡ Some (lender_of g.name (old Input))
    same-lender = (stay-open settings seen_old seen_new end g.ends Input).lender

    still-closed : (new Input).mode ≡ Closed
    still-closed = ap lender-mode same-lender ∙ ap (λ (p : SlotView). p.mode) same-input ∙ closed Input

    still-quiet : HasNoFault (start Input) (new Input)
    still-quiet = record {
      opens = ap lender-opens same-lender ∙ ap (λ (p : SlotView). p.open_faults) same-input;
      reads = ap lender-reads same-lender ∙ ap (λ (p : SlotView). p.read_faults) same-input;
      writes = ap lender-writes same-lender ∙ ap (λ (p : SlotView). p.write_faults) same-input;
    }

    seen-quiet : HaveNoFault (with_input first start) seen_old
    seen-quiet = with-both (λ slot x y. OnFalse (same_slot slot Console) (HasNoFault x y)) first first start old (record { opens = refl; reads = refl; writes = refl }) (λ slot other. are-quiet (name_of settings) held start old o slot)

    all-open : AreOpen (name_of settings) old
    all-open = are-open (name_of settings) held start old o closed

    seen-open : AreOpen (names_with (Some []) settings) seen_old
    seen-open Input = (refl, refl)
    seen-open Preview = all-open Preview
    seen-open Depth = all-open Depth
    seen-open Alpha = all-open Alpha
    seen-open Metadata = all-open Metadata
    seen-open TileQp = all-open TileQp
    seen-open Output = all-open Output
    seen-open Recon = all-open Recon
    seen-open MetaOut = all-open MetaOut
    seen-open Console = all-open Console

    seen-after : AreOpen (names_with (Some []) settings) seen_new
    seen-after = open-after settings (Some []) (with_input first start) seen_old seen_new refl seen-quiet seen-open end g.ends

    cause-generated : HasCause is_own_answer (name_of settings) start new end.exit
    cause-generated = real-cause settings unnamed start new first last still-closed still-quiet refl refl end.exit seen-after (cause-of settings (Some []) (with_input first start) seen_old seen_new refl seen-quiet seen-open end g.ends)

    alone : (inputs : Inputs) (units : List EncodedUnit) → IsEncodedByFrame (plain_settings settings) inputs units end.exit (seen_new Input).left seen_new → IsEncodedByFrame (plain_settings settings) inputs units end.exit (left_of_input settings new) new
    alone inputs units f = subst (λ (known_left : Option (List ℕ)). IsEncodedByFrame (plain_settings settings) inputs units end.exit known_left new) (sym (ap (λ (generate : Option ℕ). left_by generate (new Input).left) is_seed))
        (record { count = f.count; among = f.among; output = f.output; recon = f.recon; input = tt; written = λ fault. ((f.written fault).0, tt) })

    pub generated-run : EndsRun settings held end start new
    generated-run = record {
      encodes = encodes-run settings nearest decodable bounds given held seen_old seen_new seen-unwritten seen-input seen-left end g.ends;
      decodes = decodes-run settings nearest decodable bounds given held seen_old seen_new seen-unwritten seen-input seen-left end g.ends;
      cause = cause-generated;
      by_frame = λ is_open known inputs encoding files made. alone inputs encoding.units (by-frame-run settings nearest decodable bounds given held seen_old seen_new seen-unwritten seen-input seen-left end g.ends known inputs encoding files made);
      named = open-are-named (name_of settings) new (real-open settings unnamed start new first last still-closed still-quiet refl refl seen-after);
      complete = complete-run settings nearest decodable bounds given held seen_old seen_new seen-unwritten seen-input seen-left end g.ends (name_of settings) start new cause-generated;
      report = report-run settings nearest decodable bounds given held seen_old seen_new seen-unwritten seen-input seen-left end g.ends;
    }

    pub generated-console : new Console ≡ old Console
    generated-console = console-of settings seen_old seen_new end g.ends
