-- What each output of a run of the encoder holds: a prefix of what is defined for its files, and with an answer of the
-- files' own the whole, which decodes.
use Rattle.std.proofs.Common.{◌≡◌, ℕ, List, [], ◌++◌, refl, sym, ap, ◌∙◌, subst, Option, Some, None, is_some, Bool, true, false, inl, inr, true≢false}
use Rattle.std.proofs.lemmas.Bool.{OnTrue_at}
use Rattle.std.proofs.lemmas.Grind.{flat_map-append}
use Rattle.std.specs.Bool.{OnTrue}
use Rattle.std.specs.List.{flat_map}
use Rattle.std.specs.Prelude.{if◌then◌else◌}
use Rattle.std.specs.Io.KnownBytes.{IsAtEnd}
use Rattle.apv_base.specs.declared.exits.Exit.{Exit}
use Rattle.apv_base.specs.declared.exits.Exit.TheVariants.{Done, Memory, Usage, Broken, BadVideo, BadPayloads, BadTileQp, OpenFailed, ReadFailed, WriteFailed, LimitMet, FormatChange, NoTag, TooLarge}
use Rattle.apv_base.specs.declared.format.Format.{Format}
use Rattle.apv_base.specs.declared.slot.Slot.{Slot}
use Rattle.apv_base.specs.declared.slot.Slot.TheVariants.{Input, Output, Recon}
use Rattle.apv_base.specs.model.Output.{OutputSettings}
use Rattle.apv_base.specs.model.Run.{sized}
use Rattle.apv_files.specs.SlotView.{SlotView}
use Rattle.apv_quant.specs.Laws.{HasOneNearest}
use Rattle.apv_run.specs.Cause.{AreUnwritten, HasCause, is_of_file}
use Rattle.apv_run.specs.Known.{IsKnownAs, IsPrefixOf}
use Rattle.apv_run.proofs.CauseLemmas.{quiet-answer}
use Rattle.apv_run.proofs.WrittenLemmas.{all-written, failed-written, none-whole, part-written, whole-written}
use Rattle.apv_run.proofs.KnownLemmas.{prefix-none, prefix-more}
use Rattle.apv_words.specs.declared.encoder.EncSettings.{EncSettings}
use Rattle.apv_encoding.specs.AccessUnit.{EncodedUnit}
use Rattle.apv_encoding.specs.Answer.{FormatAt, HasFormats, Inputs, StopsBefore, before, encoded, enc_out, from_first_frame, recon_out, reconstruction, tile_offsets, tracks_for}
use Rattle.apv_encoding.specs.DecodedUnit.{DecodesToReconstruction}
use Rattle.apv_encoding.specs.Laws.{AreSoundSettings, Encoding, HasEncoding}
use Rattle.apv_encoding.specs.Settings.{EncoderSettings, Track, primary_track}
use Rattle.apv_encoding.specs.Tracks.{Contents, FramesAt}
use Rattle.apv_encoding.proofs.OneAnswerLemmas.{answer-once}
use Rattle.apv_tracks.specs.Plain.{plain_settings}
use Rattle.apv_enc.specs.Encoded.{EncodesFiles, IsComplete, IsDecodable, IsWholeEncoding}
use Rattle.apv_enc.specs.Report.{IsReported, report_of}
use Rattle.apv_enc.specs.Told.{HasReport, IsToldReport}
use Rattle.apv_enc.specs.declared.end.RunEnd.{RunEnd}
use Rattle.apv_run.specs.Names.{Names}
use Rattle.apv_enc.specs.Frames.{AreWritten, IsStopped, WritesStop, in_output, in_recon}
use Rattle.apv_enc.specs.Run.{AreFiles, AreKnown, is_own_answer, name_of}
use Rattle.apv_enc.proofs.RunCauseLemmas.{EndsBy, by_memory, by_read, by_write, by_end, by_own, IsOwnExit, own_video, own_limit, own_payload, own_offset, own_large, own-before, stops-here}
use Rattle.apv_enc.proofs.RunOutcomeLemmas.{HasOutcome, Outcome, at_head, at_frames, RanFrames, StopsInHead, on-true, some-files}
use Rattle.apv_enc.proofs.RunPrefixLemmas.{BeginsSo, begins-so}

-- ---- answers

-- an own answer isn't Done
own-not-done : (exit : Exit) → IsOwnExit exit → exit ≡ Done → ⊥
own-not-done exit (own_video break) done = cc (done)
own-not-done exit (own_limit limit count) done = cc (done)
own-not-done exit (own_payload byte) done = cc (done)
own-not-done exit (own_offset byte) done = cc (done)
own-not-done exit (own_large frame smallest limit) done = cc (done)

-- ---- the outputs of units and of more units

both-append : {A : Type 0} (b : Bool) (f : A → List ℕ) (xs ys : List A) → (if b then flat_map f (xs ++ ys) else []) ≡ (if b then flat_map f xs else []) ++ (if b then flat_map f ys else [])
both-append {A} true f xs ys = flat_map-append f xs ys
both-append {A} false f xs ys = refl

pub out-append : (settings : EncoderSettings) (units more : List EncodedUnit) → enc_out settings (units ++ more) ≡ enc_out settings units ++ enc_out settings more
out-append settings units more = both-append settings.output (λ (unit : EncodedUnit). sized unit.bytes) units more

pub recon-append : (settings : EncoderSettings) (inputs : Inputs) (format : Format) (units more : List EncodedUnit) → recon_out settings inputs format (units ++ more) ≡ recon_out settings inputs format units ++ recon_out settings inputs format more
recon-append settings inputs format units more =
    let primary = primary_track settings format (tile_offsets inputs.offsets) in
    both-append settings.recon (reconstruction primary.header primary.qps) units more

-- no units
none-of : {A : Type 0} (b : Bool) (f : A → List ℕ) → (if b then flat_map f [] else []) ≡ []
none-of {A} true f = refl
none-of {A} false f = refl

pub out-none : (settings : EncoderSettings) → enc_out settings [] ≡ []
out-none settings = none-of settings.output (λ (unit : EncodedUnit). sized unit.bytes)

pub recon-none : (settings : EncoderSettings) (inputs : Inputs) (format : Format) → recon_out settings inputs format [] ≡ []
recon-none settings inputs format =
    let primary = primary_track settings format (tile_offsets inputs.offsets) in
    none-of settings.recon (reconstruction primary.header primary.qps)

-- ---- both outputs

-- each output holds a prefix of that of the units
pub record HoldPrefixes (settings : EncoderSettings) (inputs : Inputs) (format : Format) (units : List EncodedUnit) (views : Slot → SlotView) : Type 0 where
  pub output : IsPrefixOf (views Output).written (enc_out settings units)
  pub recon : IsPrefixOf (views Recon).written (recon_out settings inputs format units)

pub more-units : (settings : EncoderSettings) (inputs : Inputs) (format : Format) (units more : List EncodedUnit) (views : Slot → SlotView) → HoldPrefixes settings inputs format units views → HoldPrefixes settings inputs format (units ++ more) views
more-units settings inputs format units more views h = record {
  output = prefix-more (views Output).written (enc_out settings units) (enc_out settings (units ++ more)) h.output (enc_out settings more, out-append settings units more);
  recon = prefix-more (views Recon).written (recon_out settings inputs format units) (recon_out settings inputs format (units ++ more)) h.recon (recon_out settings inputs format more, recon-append settings inputs format units more);
}

module _ (settings : EncoderSettings) (inputs : Inputs) (format : Format) (old new : Slot → SlotView) (no_output : IsAtEnd (old Output).written) (no_recon : IsAtEnd (old Recon).written) (units : List EncodedUnit) where
  written-prefixes : AreWritten settings inputs format units old new → HoldPrefixes settings inputs format units new
  written-prefixes w = record {
    output = all-written (old Output) (new Output) (enc_out settings units) no_output w.output;
    recon = all-written (old Recon) (new Recon) (recon_out settings inputs format units) no_recon w.recon;
  }

  failed-prefixes : (slot : Slot) → WritesStop settings inputs format old new units slot → HoldPrefixes settings inputs format units new
  failed-prefixes slot (in_output wanted fault recon) = record {
    output = failed-written (old Output) (new Output) (enc_out settings units) no_output fault.prefix fault.more fault.parts fault.failed;
    recon = part-written (old Recon) (new Recon) (recon_out settings inputs format units) no_recon recon.prefix recon.more recon.parts recon.rest;
  }
  failed-prefixes slot (in_recon wanted fault output) = record {
    output = all-written (old Output) (new Output) (enc_out settings units) no_output output;
    recon = failed-written (old Recon) (new Recon) (recon_out settings inputs format units) no_recon fault.prefix fault.more fault.parts fault.failed;
  }

  pub hold-prefixes : (rest : Contents) (exit : Exit) → EndsBy settings inputs format old new units rest exit → HoldPrefixes settings inputs format units new
  hold-prefixes rest exit (by_memory read w) = record {
    output = part-written (old Output) (new Output) (enc_out settings units) no_output w.output.prefix w.output.more w.output.parts w.output.rest;
    recon = part-written (old Recon) (new Recon) (recon_out settings inputs format units) no_recon w.recon.prefix w.recon.more w.recon.parts w.recon.rest;
  }
  hold-prefixes rest exit (by_read slot s) = written-prefixes s.written
  hold-prefixes rest exit (by_write slot read stop) = failed-prefixes slot stop
  hold-prefixes rest exit (by_end s) = written-prefixes s.written
  hold-prefixes rest exit (by_own e own s) = written-prefixes s.written

-- ---- frames that were encoded

module _ (settings : EncSettings) (inputs : Inputs) (format : Format) (old mid new : Slot → SlotView) (end : RunEnd) (r : RanFrames settings inputs format old mid new end) where
  abbrev plain : EncoderSettings
  plain = plain_settings settings

  abbrev begin : List ℕ
  begin = r.ran.bytes Input ++ r.ran.rest Input

  pub ran-formats : HasFormats plain inputs format begin
  ran-formats = record {
    payloads = r.whole;
    format_at = subst (λ (file : List ℕ). FormatAt file plain.source format begin) (sym r.parts) (r.format_at begin);
    input = r.passes.input;
    preview = r.passes.preview;
  }

  pub ran-frames : FramesAt plain.source (tracks_for plain inputs format) (from_first_frame inputs.contents begin) r.ran.frames r.ran.rest
  ran-frames = r.ran.frame_bytes (from_first_frame inputs.contents begin) r.ran.rest r.joined

  module _ (none : AreUnwritten old) where
    pub mid-output : IsAtEnd (mid Output).written
    mid-output = subst (λ (view : SlotView). IsAtEnd view.written) (sym r.output) (none Output refl)

    pub mid-recon : IsAtEnd (mid Recon).written
    mid-recon = subst (λ (view : SlotView). IsAtEnd view.written) (sym r.recon) (none Recon refl)

    pub ran-prefixes : HoldPrefixes plain inputs format r.ran.units new
    ran-prefixes = hold-prefixes plain inputs format mid new mid-output mid-recon r.ran.units r.ran.rest end.exit r.ran.ends

    abbrev whole-by : (e : Exit) → IsStopped plain inputs format mid new e r.ran.units r.ran.rest → IsWholeEncoding plain inputs e (new Output).written (new Recon).written
    whole-by e s = record {
      encoding = record { units = r.ran.units; output = enc_out plain r.ran.units; recon = recon_out plain inputs format r.ran.units; exit = e };
      made = encoded format begin r.ran.frames r.ran.rest r.ran.units e ran-formats r.right r.ran.count ran-frames r.ran.encoded (stops-here plain inputs format mid new r.ran.units r.ran.rest e s);
      answer = refl;
      whole = whole-written (mid Output) (new Output) (enc_out plain r.ran.units) mid-output s.written.output;
      whole_recon = whole-written (mid Recon) (new Recon) (recon_out plain inputs format r.ran.units) mid-recon s.written.recon;
    }

    answer-by : (e : Exit) → EndsBy plain inputs format mid new r.ran.units r.ran.rest e → OnTrue (is_of_file e) (IsWholeEncoding plain inputs e (new Output).written (new Recon).written)
    answer-by e (by_memory read w) = tt
    answer-by e (by_read slot s) = tt
    answer-by e (by_write slot read stop) = tt
    answer-by e (by_end s) = whole-by Done s
    answer-by e (by_own x own s) = on-true (is_of_file x) (whole-by x s)

    pub ran-answer : OnTrue (is_of_file end.exit) (IsWholeEncoding plain inputs end.exit (new Output).written (new Recon).written)
    ran-answer = answer-by end.exit r.ran.ends

    -- the report of a run up to the end is that of its access units
    module _ (held : List ℕ → Option (List ℕ)) (files : AreFiles settings held inputs) where
      abbrev primary : Track
      primary = primary_track plain format (tile_offsets inputs.offsets)

      report-at : (seed : ℕ) → IsStopped plain inputs format mid new Done r.ran.units r.ran.rest → HasReport settings held seed (report_of seed primary r.ran.units)
      report-at seed s = let w = whole-by Done s in record { inputs = inputs; told = files; format = format; begin = begin; formats = ran-formats; encoding = w.encoding; made = w.made; end = refl; is = refl }

      report-by : (seed : ℕ) (e : Exit) → e ≡ Done → EndsBy plain inputs format mid new r.ran.units r.ran.rest e → HasReport settings held seed (report_of seed primary r.ran.units)
      report-by seed e done (by_memory read w) = absurd (let no : ⊥ = cc (done) in no)
      report-by seed e done (by_read slot s) = absurd (let no : ⊥ = cc (done) in no)
      report-by seed e done (by_write slot read stop) = absurd (let no : ⊥ = cc (done) in no)
      report-by seed e done (by_end s) = report-at seed s
      report-by seed e done (by_own x own s) = absurd (own-not-done x own done)

      report-of : (generate : Option ℕ) → end.exit ≡ Done → IsReported generate primary r.ran.units end.report → IsToldReport settings held generate end.report
      report-of None done is = is
      report-of (Some seed) done is = (report_of seed primary r.ran.units, is, report-by seed end.exit done r.ran.ends)

      pub ran-report : end.exit ≡ Done → IsToldReport settings held settings.generate end.report
      ran-report done = report-of settings.generate done (r.ran.report done)

  module _ (nearest : HasOneNearest) (sound : AreSoundSettings plain) where
    pub ran-begins : (encoding : Encoding) → HasEncoding plain inputs encoding → BeginsSo plain inputs format r.ran.units encoding
    ran-begins encoding made = begins-so nearest plain sound inputs format begin r.ran.frames r.ran.rest r.ran.units ran-formats r.right r.ran.count ran-frames r.ran.encoded encoding made

-- ---- what a run answers and leaves

on-map : (b : Bool) {P Q : Type 0} → (P → Q) → OnTrue b P → OnTrue b Q
on-map true f p = f p
on-map false f p = tt

module _ (settings : EncSettings) (old new : Slot → SlotView) (none : AreUnwritten old) (inputs : Inputs) where
  -- nothing was written before the first frame
  pub head-output : StopsInHead settings old new → IsAtEnd (new Output).written
  head-output h = subst (λ (view : SlotView). IsAtEnd view.written) (sym h.output) (none Output refl)

  pub head-recon : StopsInHead settings old new → IsAtEnd (new Recon).written
  head-recon h = subst (λ (view : SlotView). IsAtEnd view.written) (sym h.recon) (none Recon refl)

  before-whole : (exit : Exit) → StopsInHead settings old new → StopsBefore (plain_settings settings) inputs exit → IsWholeEncoding (plain_settings settings) inputs exit (new Output).written (new Recon).written
  before-whole exit h stops = record {
    encoding = record { units = []; output = []; recon = []; exit = exit };
    made = before exit stops;
    answer = refl;
    whole = none-whole (new Output).written (head-output h);
    whole_recon = none-whole (new Recon).written (head-recon h);
  }

  -- an answer of the files' own is that of an encoder, and all that it writes is written
  answer-of : (end : RunEnd) → Outcome settings inputs old new end → OnTrue (is_of_file end.exit) (IsWholeEncoding (plain_settings settings) inputs end.exit (new Output).written (new Recon).written)
  answer-of end (at_head h quiet stops) = on-map (is_of_file end.exit) (λ s. before-whole end.exit h s) stops
  answer-of end (at_frames format mid r) = ran-answer settings inputs format old mid new end r none

  -- the report of a run up to the end
  pub outcome-report : (held : List ℕ → Option (List ℕ)) (end : RunEnd) → AreFiles settings held inputs → Outcome settings inputs old new end → end.exit ≡ Done → IsToldReport settings held settings.generate end.report
  outcome-report held end files (at_head h quiet stops) done =
      let before : StopsBefore (plain_settings settings) inputs Done = subst (StopsBefore (plain_settings settings) inputs) done (OnTrue_at (ap is_of_file done) stops) in
      absurd (own-not-done Done (own-before (plain_settings settings) inputs Done before) refl)
  outcome-report held end files (at_frames format mid r) done = ran-report settings inputs format old mid new end r none held files done

  begins-prefix : (format : Format) (units : List EncodedUnit) (encoding : Encoding) → HoldPrefixes (plain_settings settings) inputs format units new → BeginsSo (plain_settings settings) inputs format units encoding
      → IsPrefixOf (new Output).written encoding.output × IsPrefixOf (new Recon).written encoding.recon
  begins-prefix format units encoding h b =
      let all = more-units (plain_settings settings) inputs format units b.more new h in
      (subst (IsPrefixOf (new Output).written) (sym b.output) all.output, subst (IsPrefixOf (new Recon).written) (sym b.recon) all.recon)

  module _ (nearest : HasOneNearest) (sound : AreSoundSettings (plain_settings settings)) where
    prefix-of : (end : RunEnd) → Outcome settings inputs old new end → (encoding : Encoding) → HasEncoding (plain_settings settings) inputs encoding → IsPrefixOf (new Output).written encoding.output × IsPrefixOf (new Recon).written encoding.recon
    prefix-of end (at_head h quiet stops) encoding made = (prefix-none (new Output).written encoding.output (head-output h), prefix-none (new Recon).written encoding.recon (head-recon h))
    prefix-of end (at_frames format mid r) encoding made =
        begins-prefix format r.ran.units encoding (ran-prefixes settings inputs format old mid new end r none) (ran-begins settings inputs format old mid new end r nearest sound encoding made)

    -- where the outcome is the files' own answer, it is that of each encoding of the inputs
    own-answer : (end : RunEnd) → is_of_file end.exit ≡ true → Outcome settings inputs old new end → (encoding : Encoding) → HasEncoding (plain_settings settings) inputs encoding → end.exit ≡ encoding.exit
    own-answer end of_file outcome encoding made =
        let w = OnTrue_at of_file (answer-of end outcome) in
        sym w.answer ∙ ap (λ (e : Encoding). e.exit) (answer-once nearest (plain_settings settings) inputs sound w.encoding encoding w.made made)

pub encodes-of : (settings : EncSettings) (nearest : HasOneNearest) (sound : AreSoundSettings (plain_settings settings)) (held : List ℕ → Option (List ℕ)) (old new : Slot → SlotView) (none : AreUnwritten old) (end : RunEnd) → HasOutcome settings held old new end
    → EncodesFiles settings held end.exit (new Output).written (new Recon).written
encodes-of settings nearest sound held old new none end h = record {
  inputs = h.inputs;
  told = h.told;
  prefix = prefix-of settings old new none h.inputs nearest sound end h.outcome;
  answer = answer-of settings old new none h.inputs end h.outcome;
}

-- nothing was written
pub encodes-nothing : (settings : EncSettings) (held : List ℕ → Option (List ℕ)) (exit : Exit) (views : Slot → SlotView) → is_of_file exit ≡ false → AreUnwritten views → EncodesFiles settings held exit (views Output).written (views Recon).written
encodes-nothing settings held exit views other none =
    let some = some-files settings held in
    record {
      inputs = some.0;
      told = some.1;
      prefix = λ encoding made. (prefix-none (views Output).written encoding.output (none Output refl), prefix-none (views Recon).written encoding.recon (none Recon refl));
      answer = rw other tt;
    }

-- ---- files that are encoded up to the end of the inputs

-- an own answer is one of the files
pub own-of-file : (exit : Exit) → is_own_answer exit ≡ true → is_of_file exit ≡ true
own-of-file Done own = refl
own-of-file Memory own = absurd (true≢false (sym own))
own-of-file (OpenFailed slot) own = absurd (true≢false (sym own))
own-of-file (ReadFailed slot) own = absurd (true≢false (sym own))
own-of-file (WriteFailed slot) own = absurd (true≢false (sym own))
own-of-file (Broken break) own = refl
own-of-file (LimitMet limit count) own = refl
own-of-file (NoTag format) own = refl
own-of-file (FormatChange first other) own = refl
own-of-file (Usage kind) own = refl
own-of-file (BadVideo break) own = refl
own-of-file (BadPayloads byte) own = refl
own-of-file (BadTileQp byte) own = refl
own-of-file (TooLarge frame smallest limit) own = refl

-- where no count rose, the answer is that of the files, or memory ran out
pub complete-of : (settings : EncSettings) (nearest : HasOneNearest) (sound : AreSoundSettings (plain_settings settings)) (held : List ℕ → Option (List ℕ)) (names : Names) (real start old new : Slot → SlotView) (none : AreUnwritten old) (end : RunEnd)
    → (AreKnown settings held → (inputs : Inputs) → AreFiles settings held inputs → Outcome settings inputs old new end) → HasCause is_own_answer names real start end.exit → IsComplete settings held real start end.exit
complete-of settings nearest sound held names real start old new none end outcome cause known inputs encoding files made done quiet = elim (quiet-answer is_own_answer names real start quiet end.exit cause) [
  | inl ends ↦ ends
  | inr own ↦ inl (own-answer settings old new none inputs nearest sound end (own-of-file end.exit own) (outcome known inputs files) encoding made ∙ done)
]

-- ---- what was written decodes

abbrev pub HasDecodableFiles : Type 0
HasDecodableFiles = (settings : EncoderSettings) (inputs : Inputs) (encoding : Encoding) (decoder : OutputSettings) → AreSoundSettings settings → settings.output ≡ true → HasEncoding settings inputs encoding → DecodesToReconstruction settings inputs encoding decoder

known-is : (known : Option (List ℕ)) (bytes whole : List ℕ) → known ≡ Some bytes → IsKnownAs known whole → whole ≡ bytes
known-is None bytes whole e k = absurd (let no : ⊥ = cc (e) in no)
known-is (Some xs) bytes whole e k = let same : xs ≡ bytes = cc (e) in sym k ∙ same

pub decodes-of : (settings : EncSettings) (law : HasDecodableFiles) (sound : AreSoundSettings (plain_settings settings)) (held : List ℕ → Option (List ℕ)) (exit : Exit) (output recon : Option (List ℕ)) → is_some settings.output ≡ true → EncodesFiles settings held exit output recon
    → exit ≡ Done → (bytes : List ℕ) → output ≡ Some bytes → IsDecodable settings held bytes recon
decodes-of settings law sound held exit output recon named enc done bytes is =
    let w = OnTrue_at (ap is_of_file done) enc.answer in
    record {
      inputs = enc.inputs;
      told = enc.told;
      encoding = w.encoding;
      made = w.made;
      end = w.answer ∙ done;
      whole = known-is output bytes w.encoding.output is w.whole;
      whole_recon = w.whole_recon;
      decodes = λ decoder. law (plain_settings settings) enc.inputs w.encoding decoder sound named w.made;
    }
