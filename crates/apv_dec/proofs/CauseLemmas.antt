-- What follows each answer of the decoder, and that a file is decoded where nothing fails.
use Rattle.std.proofs.Common.{◌≡◌, ℕ, List, refl, sym, ap, subst, Option, is_some, true, inl, inr, true≢false}
use Rattle.std.proofs.lemmas.Bool.{OnTrue_at}
use Rattle.std.specs.Io.KnownBytes.{IsAtEnd}
use Rattle.apv_base.specs.declared.exits.Exit.{Exit}
use Rattle.apv_base.specs.declared.exits.Exit.TheVariants.{Done, Memory, Usage, Broken, BadVideo, BadPayloads, BadTileQp, OpenFailed, ReadFailed, WriteFailed, LimitMet, FormatChange, NoTag, TooLarge}
use Rattle.apv_base.specs.declared.slot.Slot.{Slot}
use Rattle.apv_base.specs.declared.slot.Slot.TheVariants.{Input, Preview, Depth, Alpha, Metadata, TileQp, Output, Recon, MetaOut, Console}
use Rattle.apv_base.specs.laws.Run.{HasOneRun}
use Rattle.apv_base.specs.model.Judge.{DecodedUnit}
use Rattle.apv_base.specs.model.Output.{DecodesTo, by_content, dec_out, dec_payloads}
use Rattle.apv_files.specs.SlotView.{SlotView, AllClosed, Rose}
use Rattle.apv_run.specs.Cause.{AreAtEnd, AreSound, HasCause, HasNoFault, HaveNoFault, IsNotWritten, is_of_file}
use Rattle.apv_run.specs.Names.{AreNamed, AreOpen}
use Rattle.apv_run.specs.Opened.{Opened}
use Rattle.apv_run.proofs.CauseLemmas.{all-quiet-then, quiet-answer}
use Rattle.apv_run.proofs.ViewLemmas.{wrote-quiet}
use Rattle.apv_run.proofs.KnownLemmas.{known-file}
use Rattle.apv_run.proofs.OpenLemmas.{are-open, are-quiet, open-are-named, same-quiet}
use Rattle.apv_run.proofs.ViewLemmas.{open-still}
use Rattle.apv_run.proofs.SlotLemmas.{at-files}
use Rattle.apv_words.specs.declared.decoder.DecSettings.{DecSettings}
use Rattle.apv_dec.specs.Outputs.{output_settings}
use Rattle.apv_dec.specs.Decoded.{OnlyAtFiles, IsStopped, WritesStop, in_metadata, in_pictures, DecodedUnits}
use Rattle.apv_dec.specs.Settings.{name_of}
use Rattle.apv_dec.specs.Answer.{IsWholeRun, DecodesFile, IsComplete, is_own_answer}
use Rattle.apv_dec.proofs.EndLemmas.{IsFileAnswer, is_done, is_broken, is_limit, is_no_tag, is_change, EndsBy, by_memory, by_read, by_write, by_file, ends-by}
use Rattle.apv_dec.proofs.OpenLemmas.{at-three, ends-open}

-- ---- the end of the input

-- the input is at its end, and it is the only one that is named
ends-of : (settings : DecSettings) (new : Slot → SlotView) → IsAtEnd (new Input).left → AreAtEnd (name_of settings) new
ends-of settings new end Input input named = end
ends-of settings new end Preview input named = absurd (true≢false (sym named))
ends-of settings new end Depth input named = absurd (true≢false (sym named))
ends-of settings new end Alpha input named = absurd (true≢false (sym named))
ends-of settings new end Metadata input named = absurd (true≢false (sym named))
ends-of settings new end TileQp input named = absurd (true≢false (sym named))
ends-of settings new end Output input named = absurd (true≢false (sym input))
ends-of settings new end Recon input named = absurd (true≢false (sym input))
ends-of settings new end MetaOut input named = absurd (true≢false (sym input))
ends-of settings new end Console input named = absurd (true≢false (sym input))

-- ---- what follows the loop over the units

module _ (settings : DecSettings) (held : List ℕ → Option (List ℕ)) (start old new : Slot → SlotView) (given : is_some settings.input ≡ true) (o : Opened (name_of settings) held start old) (closed : AllClosed start) where
  quiet-start : HaveNoFault start old
  quiet-start = are-quiet (name_of settings) held start old o

  open-now : (units : List DecodedUnit) (rest : List ℕ) (exit : Exit) → OnlyAtFiles old new → EndsBy (output_settings settings) old new units rest exit → AreOpen (name_of settings) new
  open-now units rest exit others e = open-still (name_of settings) old new (ends-open (output_settings settings) old new units others rest exit e) (are-open (name_of settings) held start old o closed)

  stopped-quiet : (units : List DecodedUnit) (rest : List ℕ) (exit : Exit) → OnlyAtFiles old new → IsStopped (output_settings settings) old new exit units rest → HaveNoFault start new
  stopped-quiet units rest exit others s =
      let i : HasNoFault (old Input) (new Input) = record { opens = ap (λ (p : SlotView). p.open_faults) s.input; reads = ap (λ (p : SlotView). p.read_faults) s.input; writes = ap (λ (p : SlotView). p.write_faults) s.input } in
      let all = at-three old new HasNoFault same-quiet others i (wrote-quiet (old Output) (new Output) (dec_out (output_settings settings) units) s.written.output)
      (wrote-quiet (old MetaOut) (new MetaOut) (dec_payloads (output_settings settings) units) s.written.metadata) in
      all-quiet-then start old new quiet-start (at-files (λ slot. HasNoFault (old slot) (new slot)) (λ slot file. all slot))

  -- the slot of a write that failed, which the settings name
  failed-slot : (units : List DecodedUnit) (slot : Slot) → AreOpen (name_of settings) new → WritesStop (output_settings settings) old new units slot → IsNotWritten (name_of settings) slot start new
  failed-slot units slot is_open (in_metadata wanted fault pictures) =
      record { are_open = is_open; named = wanted; output = refl; rose = subst (λ (n : ℕ). Rose n (new MetaOut).write_faults) (quiet-start MetaOut).writes fault.failed.fault.rose }
  failed-slot units slot is_open (in_pictures wanted fault payloads) =
      record { are_open = is_open; named = wanted; output = refl; rose = subst (λ (n : ℕ). Rose n (new Output).write_faults) (quiet-start Output).writes fault.failed.fault.rose }

  file-cause : (units : List DecodedUnit) (rest : List ℕ) (exit : Exit) → IsFileAnswer exit → IsStopped (output_settings settings) old new exit units rest → AreSound (name_of settings) start new → HasCause is_own_answer (name_of settings) start new exit
  file-cause units rest exit is_done s sound = (sound, ends-of settings new (s.end refl))
  file-cause units rest exit (is_broken break) s sound = (refl, sound)
  file-cause units rest exit (is_limit limit count) s sound = (refl, sound)
  file-cause units rest exit (is_no_tag format) s sound = (refl, sound)
  file-cause units rest exit (is_change first other) s sound = (refl, sound)

  cause-by : (units : List DecodedUnit) (rest : List ℕ) (exit : Exit) → OnlyAtFiles old new → AreOpen (name_of settings) new → EndsBy (output_settings settings) old new units rest exit → HasCause is_own_answer (name_of settings) start new exit
  cause-by units rest exit others is_open (by_memory left w) = tt
  cause-by units rest exit others is_open (by_read fault w) =
      record { are_open = is_open; named = given; input = refl; rose = subst (λ (n : ℕ). Rose n (new Input).read_faults) (quiet-start Input).reads fault.fault.rose }
  cause-by units rest exit others is_open (by_write slot left stop) = failed-slot units slot is_open stop
  cause-by units rest exit others is_open (by_file e own s) = file-cause units rest e own s (record { are_open = is_open; quiet = stopped-quiet units rest e others s })

  pub cause-of : (exit : Exit) → DecodedUnits (output_settings settings) old exit new → HasCause is_own_answer (name_of settings) start new exit
  cause-of exit d =
      let e = ends-by (output_settings settings) old new d.units d.rest exit d.ends in
      cause-by d.units d.rest exit d.others (open-now d.units d.rest exit d.others e) e

  pub named-after : (exit : Exit) → DecodedUnits (output_settings settings) old exit new → AreNamed (name_of settings) new
  named-after exit d = open-are-named (name_of settings) new (open-now d.units d.rest exit d.others (ends-by (output_settings settings) old new d.units d.rest exit d.ends))

-- ---- a file that decodes to its end is decoded

-- an own answer is one of the file
own-of-file : (exit : Exit) → is_own_answer exit ≡ true → is_of_file exit ≡ true
own-of-file Done own = refl
own-of-file Memory own = absurd (true≢false (sym own))
own-of-file (OpenFailed slot) own = absurd (true≢false (sym own))
own-of-file (ReadFailed slot) own = absurd (true≢false (sym own))
own-of-file (WriteFailed slot) own = absurd (true≢false (sym own))
own-of-file (Broken break) own = refl
own-of-file (LimitMet limit count) own = refl
own-of-file (NoTag format) own = refl
own-of-file (FormatChange first other) own = refl
own-of-file (Usage kind) own = refl
own-of-file (BadVideo break) own = refl
own-of-file (BadPayloads byte) own = refl
own-of-file (BadTileQp byte) own = refl
own-of-file (TooLarge frame smallest limit) own = refl

module _ (settings : DecSettings) (law : (file : List ℕ) → HasOneRun (by_content (output_settings settings)) file) (held : Option (List ℕ)) (old new : Slot → SlotView) (output metadata : Option (List ℕ)) where
  by-run : (file other : List ℕ) (units : List DecodedUnit) (exit : Exit) → file ≡ other → DecodesTo (output_settings settings) file units Done → IsWholeRun (output_settings settings) other exit output metadata → exit ≡ Done
  by-run file other units exit e runs is = ((law file).one is.units units exit Done (subst (λ (f : List ℕ). DecodesTo (output_settings settings) f is.units exit) (sym e) is.runs) runs).1

  pub complete-of : (exit : Exit) → DecodesFile (output_settings settings) held exit output metadata → HasCause is_own_answer (name_of settings) old new exit → IsComplete (output_settings settings) held old new exit
  complete-of exit dec h file units e runs quiet = elim (quiet-answer is_own_answer (name_of settings) old new quiet exit h) [
    | inl ends ↦ ends
    | inr own ↦ inl (by-run file dec.file units exit (known-file held file dec.file e dec.told) runs (OnTrue_at (own-of-file exit own) dec.answer))
  ]
