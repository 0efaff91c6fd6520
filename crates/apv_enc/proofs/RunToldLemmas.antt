-- What stays true of the outputs when the console's line is written after a run, or when memory runs out then.
use Rattle.std.proofs.Common.{◌≡◌, ℕ, List, String, map, refl, sym, ap, ◌∙◌, subst, Option, Some, None, true, ◌⊎◌, inl, inr, true≢false}
use Rattle.apv_base.specs.declared.exits.Exit.{Exit}
use Rattle.std.specs.Prelude.{string_bytes}
use Rattle.std.specs.declared.alloc.Global.{Global}
use Rattle.apv_base.specs.declared.exits.Exit.TheVariants.{Done, Memory, Usage, Broken, BadVideo, BadPayloads, BadTileQp, OpenFailed, ReadFailed, WriteFailed, LimitMet, FormatChange, NoTag, TooLarge}
use Rattle.apv_base.specs.declared.slot.Slot.{Slot}
use Rattle.apv_base.specs.declared.slot.Slot.TheVariants.{Input, Output, Recon, Console}
use Rattle.apv_files.specs.SlotView.{SlotView, OnlyAt}
use Rattle.apv_run.specs.Cause.{HasNotRisen, HaveNotRisen}
use Rattle.apv_run.proofs.SlotLemmas.{at-files-by-two}
use Rattle.apv_run.proofs.ToldLemmas.{IsTold, open-before}
use Rattle.apv_words.specs.declared.encoder.EncSettings.{EncSettings}
use Rattle.apv_encoding.specs.AccessUnit.{EncodedUnit}
use Rattle.apv_encoding.specs.Answer.{Inputs}
use Rattle.apv_enc.specs.ByFrame.{EncodesByFrame, IsEncodedByFrame, left_by, left_of_input}
use Rattle.apv_enc.specs.Encoded.{EncodesFiles, EncodesInputs, IsComplete, WritesDecodable}
use Rattle.apv_run.specs.Cause.{is_write_fault}
use Rattle.apv_tracks.specs.Plain.{plain_settings}
use Rattle.apv_console.specs.Line.{line_of, report_line}
use Rattle.apv_console.specs.Tells.{TellsLine}
use Rattle.apv_console.specs.declared.report.Report.{Report}
use Rattle.apv_words.specs.Encoder.{HasEncSettings, built_enc_table}
use Rattle.apv_enc.specs.Run.{name_of}
use Rattle.apv_enc.specs.Told.{GiveSettings, HasReport, IsLineOf, IsToldReport, TellsRun, line_by, line_of_end, of_answer, of_report}
use Rattle.apv_enc.specs.declared.end.RunEnd.{RunEnd}
use Rattle.apv_encoding.specs.Settings.{EncoderSettings}

module _ (settings : EncSettings) (held : List ℕ → Option (List ℕ)) (exit told : Exit) (one : IsTold exit told) where
  encodes-along : (output recon : Option (List ℕ)) → IsTold exit told → EncodesFiles settings held exit output recon → EncodesFiles settings held told output recon
  encodes-along output recon (inl same) e = subst (λ (x : Exit). EncodesFiles settings held x output recon) (sym same) e
  encodes-along output recon (inr memory) e = record { inputs = e.inputs; told = e.told; prefix = e.prefix; answer = rw memory tt }

  done-told : IsTold exit told → told ≡ Done → exit ≡ Done
  done-told (inl same) done = sym same ∙ done
  done-told (inr memory) done = let both : Memory ≡ Done = sym memory ∙ done in absurd (let no : ⊥ = cc (both) in no)

  fault-told : IsTold exit told → is_write_fault told ≡ true → is_write_fault exit ≡ true
  fault-told (inl same) fault = sym (ap is_write_fault same) ∙ fault
  fault-told (inr memory) fault = absurd (true≢false (sym fault ∙ ap is_write_fault memory))

  ends-told : IsTold exit told → (exit ≡ Done) ⊎ (exit ≡ Memory) → (told ≡ Done) ⊎ (told ≡ Memory)
  ends-told (inl same) (inl done) = inl (same ∙ done)
  ends-told (inl same) (inr memory) = inr (same ∙ memory)
  ends-told (inr memory) ends = inr memory

  module _ (old new : Slot → SlotView) (o : OnlyAt Console old new) where
    pub encodes-told : EncodesInputs settings held exit old → EncodesInputs settings held told new
    encodes-told e = rw (o Output, o Recon) (encodes-along (old Output).written (old Recon).written one e)

    pub decodes-told : WritesDecodable settings held exit old → WritesDecodable settings held told new
    decodes-told d done named bytes is = rw (o Recon) (d (done-told one done) named bytes (ap (λ (view : SlotView). view.written) (sym (o Output)) ∙ is))

    frame-along : (s : EncoderSettings) (inputs : Inputs) (units : List EncodedUnit) (left : Option (List ℕ)) → IsEncodedByFrame s inputs units exit left old → IsEncodedByFrame s inputs units told left new
    frame-along s inputs units left r = record {
      count = r.count;
      among = r.among;
      output = rw (o Output) r.output;
      recon = λ format begin has. rw (o Recon) (r.recon format begin has);
      input = r.input;
      written = λ fault. r.written (fault-told one fault);
    }

    pub by-frame-told : EncodesByFrame settings held exit old → EncodesByFrame settings held told new
    by-frame-told r is_open known inputs encoding files made =
        subst (λ (left : Option (List ℕ)). IsEncodedByFrame (plain_settings settings) inputs encoding.units told left new) (ap (λ (view : SlotView). left_by settings.generate view.left) (sym (o Input)))
        (frame-along (plain_settings settings) inputs encoding.units (left_of_input settings old) (r (open-before (name_of settings) old new o is_open) known inputs encoding files made))

    pub complete-told : (start : Slot → SlotView) → IsComplete settings held start old exit → IsComplete settings held start new told
    complete-told start c known inputs encoding files made done quiet =
        let before : HaveNotRisen start old = at-files-by-two (λ slot. HasNotRisen (start slot) (new slot)) (λ slot. new slot ≡ old slot) (λ slot. HasNotRisen (start slot) (old slot)) (λ slot h same. subst (HasNotRisen (start slot)) same h) quiet o in
        ends-told one (c known inputs encoding files made done before)

-- ---- the line of a run

module _ (words : List (String Global)) (held : List ℕ → Option (List ℕ)) where
  no-seed : (s : EncSettings) (generate : Option ℕ) → IsToldReport s held generate None → generate ≡ None
  no-seed s None told = refl
  no-seed s (Some seed) told = absurd (let no : ⊥ = cc (told.1) in no)

  with-seed : (s : EncSettings) (report : Report) → HasEncSettings built_enc_table (map string_bytes words) s → (generate : Option ℕ) → s.generate ≡ generate → IsToldReport s held generate (Some report) → IsLineOf words held Done (report_line report)
  with-seed s report given None e told = absurd (let no : ⊥ = cc (told) in no)
  with-seed s report given (Some seed) e told =
      let same : told.0 ≡ report = cc (told.1) in
      of_report s seed report given e refl (subst (HasReport s held seed) same told.2)

  line-by : (exit : Exit) (report : Option Report) → GiveSettings words exit → ((s : EncSettings) → HasEncSettings built_enc_table (map string_bytes words) s → exit ≡ Done → IsToldReport s held s.generate report) → IsLineOf words held exit (line_by exit report)
  line-by Done None gives told = of_answer (λ s given done. no-seed s s.generate (told s given refl))
  line-by Done (Some report) gives told = let g = gives refl in with-seed g.0 report g.1 g.0.generate refl (told g.0 g.1 refl)
  line-by Memory report gives told = of_answer (λ s given done. absurd (let no : ⊥ = cc (done) in no))
  line-by (OpenFailed slot) report gives told = of_answer (λ s given done. absurd (let no : ⊥ = cc (done) in no))
  line-by (ReadFailed slot) report gives told = of_answer (λ s given done. absurd (let no : ⊥ = cc (done) in no))
  line-by (WriteFailed slot) report gives told = of_answer (λ s given done. absurd (let no : ⊥ = cc (done) in no))
  line-by (Usage kind) report gives told = of_answer (λ s given done. absurd (let no : ⊥ = cc (done) in no))
  line-by (Broken break) report gives told = of_answer (λ s given done. absurd (let no : ⊥ = cc (done) in no))
  line-by (LimitMet limit count) report gives told = of_answer (λ s given done. absurd (let no : ⊥ = cc (done) in no))
  line-by (NoTag format) report gives told = of_answer (λ s given done. absurd (let no : ⊥ = cc (done) in no))
  line-by (FormatChange first other) report gives told = of_answer (λ s given done. absurd (let no : ⊥ = cc (done) in no))
  line-by (BadVideo break) report gives told = of_answer (λ s given done. absurd (let no : ⊥ = cc (done) in no))
  line-by (BadPayloads byte) report gives told = of_answer (λ s given done. absurd (let no : ⊥ = cc (done) in no))
  line-by (BadTileQp byte) report gives told = of_answer (λ s given done. absurd (let no : ⊥ = cc (done) in no))
  line-by (TooLarge frame smallest limit) report gives told = of_answer (λ s given done. absurd (let no : ⊥ = cc (done) in no))

  -- what the console got of a run
  pub tells-run : (end : RunEnd) (told : Exit) (old mid new : SlotView) → IsTold end.exit told → GiveSettings words end.exit → ((s : EncSettings) → HasEncSettings built_enc_table (map string_bytes words) s → end.exit ≡ Done → IsToldReport s held s.generate end.report)
      → mid ≡ old → TellsLine mid (line_of_end end) told new → TellsRun words held old told new
  tells-run end told old mid new (inl same) gives report before line = record {
    line = line_of_end end;
    is = subst (λ (x : Exit). IsLineOf words held x (line_of_end end)) (sym same) (line-by end.exit end.report gives report);
    told = subst (λ (view : SlotView). TellsLine view (line_of_end end) told new) before line;
  }
  tells-run end told old mid new (inr memory) gives report before line = record {
    line = line_of told;
    is = of_answer (λ s given done. absurd (let both : Memory ≡ Done = sym memory ∙ done in let no : ⊥ = cc (both) in no));
    told = subst (λ (x : Exit). TellsLine old (line_of told) x new) (sym memory) tt;
  }
