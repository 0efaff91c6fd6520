-- What follows each answer of a run over a generated video: for the files that were borrowed what is true of those over
-- them.
use Rattle.std.proofs.Common.{◌≡◌, ℕ, ◌+◌, ◌≤◌, List, [], refl, sym, ap, ◌∙◌, subst, Option, Some, None, is_some, Bool, true, false, not, true≢false, arith, min, ◌-◌, ◌^◌}
use Rattle.std.specs.Bool.{OnFalse}
use Rattle.std.specs.Io.KnownBytes.{IsAtEnd}
use Rattle.apv_base.specs.declared.exits.Exit.{Exit}
use Rattle.apv_base.specs.declared.exits.Exit.TheVariants.{Done, Memory, Usage, Broken, BadVideo, BadPayloads, BadTileQp, OpenFailed, ReadFailed, WriteFailed, LimitMet, FormatChange, NoTag, TooLarge}
use Rattle.apv_base.specs.declared.slot.Slot.{Slot}
use Rattle.apv_base.specs.declared.slot.Slot.TheVariants.{Input, Preview, Depth, Alpha, Metadata, TileQp, Output, Recon, MetaOut, Console}
use Rattle.apv_base.specs.model.Slot.{is_input, is_output, same_slot}
use Rattle.apv_files.specs.declared.files.Mode.TheVariants.{Closed, Reading}
use Rattle.apv_files.specs.SlotView.{Lender, SlotView, Rose}
use Rattle.apv_generated.specs.Views.{input_view, lender_of, with_input}
use Rattle.apv_run.specs.Cause.{AreAtEnd, AreSound, HasCause, HasNoFault, HaveNoFault, IsNotWritten, IsUnread}
use Rattle.apv_run.specs.Names.{AreOpen, IsNamed, IsOpenAs, mode_of}
use Rattle.apv_run.proofs.OpenLemmas.{not-open}
use Rattle.apv_words.specs.declared.encoder.EncSettings.{EncSettings}
use base.Fml.{GName}
use Rattle.apv_encoding.specs.Generated.{generated_file}
use Rattle.apv_tracks.specs.Kinds.{AreReading}
use Rattle.apv_tracks.specs.Opening.{AreInputsReading}
use Rattle.apv_enc.specs.Encoded.{EndsGenerated, EndsOpened}
use Rattle.apv_enc.specs.declared.end.RunEnd.{RunEnd}
use Rattle.apv_enc.specs.Run.{is_own_answer, name_of, names_with}
use Rattle.apv_enc.proofs.WithInputLemmas.{with-both, without-both}

-- a count that is 0 didn't rise to 0
none-rose : Rose 0 0 → ⊥
none-rose rose = absurd (omega (arith, rose))

module _ (settings : EncSettings) (unnamed : settings.input ≡ None) (start new : Slot → SlotView) (a b : SlotView) (closed : (new Input).mode ≡ Closed) (quiet : HasNoFault (start Input) (new Input)) (never_before : a.read_faults ≡ 0) (never : b.read_faults ≡ 0) where
  abbrev seen_start : Slot → SlotView
  seen_start = with_input a start

  abbrev seen_new : Slot → SlotView
  seen_new = with_input b new

  -- ---- which slots are open

  input-open : IsOpenAs Reading settings.input (new Input)
  input-open = subst (λ (name : Option (List ℕ)). IsOpenAs Reading name (new Input)) (sym unnamed) closed

  pub real-open : AreOpen (names_with (Some []) settings) seen_new → AreOpen (name_of settings) new
  real-open o Input = input-open
  real-open o Preview = o Preview
  real-open o Depth = o Depth
  real-open o Alpha = o Alpha
  real-open o Metadata = o Metadata
  real-open o TileQp = o TileQp
  real-open o Output = o Output
  real-open o Recon = o Recon
  real-open o MetaOut = o MetaOut
  real-open o Console = o Console

  -- ---- causes

  real-quiet : HaveNoFault seen_start seen_new → HaveNoFault start new
  real-quiet q = without-both (λ slot old now. OnFalse (same_slot slot Console) (HasNoFault old now)) a b start new q quiet

  real-sound : AreSound (names_with (Some []) settings) seen_start seen_new → AreSound (name_of settings) start new
  real-sound s = record { are_open = real-open s.are_open; quiet = real-quiet s.quiet }

  no-input : IsNamed (name_of settings) Input → ⊥
  no-input named = absurd (true≢false (sym named ∙ ap is_some unnamed))

  real-end : AreAtEnd (names_with (Some []) settings) seen_new → AreAtEnd (name_of settings) new
  real-end e Input input named = absurd (no-input named)
  real-end e Preview input named = e Preview input named
  real-end e Depth input named = e Depth input named
  real-end e Alpha input named = e Alpha input named
  real-end e Metadata input named = e Metadata input named
  real-end e TileQp input named = e TileQp input named
  real-end e Output input named = absurd (true≢false (sym input))
  real-end e Recon input named = absurd (true≢false (sym input))
  real-end e MetaOut input named = absurd (true≢false (sym input))
  real-end e Console input named = absurd (true≢false (sym input))

  real-unread : (slot : Slot) → IsUnread (names_with (Some []) settings) slot seen_start seen_new → IsUnread (name_of settings) slot start new
  real-unread Input u = absurd (none-rose (subst (λ (n : ℕ). Rose n 0) never_before (subst (λ (n : ℕ). Rose a.read_faults n) never u.rose)))
  real-unread Preview u = record { are_open = real-open u.are_open; named = u.named; input = u.input; rose = u.rose }
  real-unread Depth u = record { are_open = real-open u.are_open; named = u.named; input = u.input; rose = u.rose }
  real-unread Alpha u = record { are_open = real-open u.are_open; named = u.named; input = u.input; rose = u.rose }
  real-unread Metadata u = record { are_open = real-open u.are_open; named = u.named; input = u.input; rose = u.rose }
  real-unread TileQp u = record { are_open = real-open u.are_open; named = u.named; input = u.input; rose = u.rose }
  real-unread Output u = absurd (true≢false (sym u.input))
  real-unread Recon u = absurd (true≢false (sym u.input))
  real-unread MetaOut u = absurd (true≢false (sym u.input))
  real-unread Console u = absurd (true≢false (sym u.input))

  real-unwritten : (slot : Slot) → IsNotWritten (names_with (Some []) settings) slot seen_start seen_new → IsNotWritten (name_of settings) slot start new
  real-unwritten Output u = record { are_open = real-open u.are_open; named = u.named; output = u.output; rose = u.rose }
  real-unwritten Recon u = record { are_open = real-open u.are_open; named = u.named; output = u.output; rose = u.rose }
  real-unwritten MetaOut u = record { are_open = real-open u.are_open; named = u.named; output = u.output; rose = u.rose }
  real-unwritten Input u = absurd (true≢false (sym u.output))
  real-unwritten Preview u = absurd (true≢false (sym u.output))
  real-unwritten Depth u = absurd (true≢false (sym u.output))
  real-unwritten Alpha u = absurd (true≢false (sym u.output))
  real-unwritten Metadata u = absurd (true≢false (sym u.output))
  real-unwritten TileQp u = absurd (true≢false (sym u.output))
  real-unwritten Console u = absurd (true≢false (sym u.output))

  -- what follows an answer, where all slots are open
  pub real-cause : (exit : Exit) → AreOpen (names_with (Some []) settings) seen_new → HasCause is_own_answer (names_with (Some []) settings) seen_start seen_new exit → HasCause is_own_answer (name_of settings) start new exit
  real-cause Done o h = (real-sound h.0, real-end h.1)
  real-cause Memory o h = tt
  real-cause (OpenFailed slot) o h = absurd (not-open (names_with (Some []) settings) seen_new slot (seen_new slot).name h.file h.name h.closed o)
  real-cause (ReadFailed slot) o h = real-unread slot h
  real-cause (WriteFailed slot) o h = real-unwritten slot h
  real-cause (Usage kind) o h = (h.0, real-sound h.1)
  real-cause (Broken break) o h = (h.0, real-sound h.1)
  real-cause (LimitMet limit count) o h = (h.0, real-sound h.1)
  real-cause (NoTag format) o h = (h.0, real-sound h.1)
  real-cause (FormatChange first other) o h = (h.0, real-sound h.1)
  real-cause (BadVideo break) o h = (h.0, real-sound h.1)
  real-cause (BadPayloads byte) o h = (h.0, real-sound h.1)
  real-cause (BadTileQp byte) o h = (h.0, real-sound h.1)
  real-cause (TooLarge frame smallest limit) o h = (h.0, real-sound h.1)

-- ---- how a run over borrowed files ends

module _ {F : Type 0} (view : F → Slot → SlotView) (settings : EncSettings) where
  pub inputs-generated : (input : SlotView) (made files : F) → made ≡ files → ((one : SlotView) → one.mode ≡ Reading → AreInputsReading settings (with_input one (view files))) → input.mode ≡ Reading → AreInputsReading settings (with_input input (view made))
  inputs-generated input made files same asked reading = subst (λ (f : F). AreInputsReading settings (with_input input (view f))) (sym same) (asked input reading)

  pub reading-generated : (input : SlotView) (made files : F) → made ≡ files → ((one : SlotView) → one.mode ≡ Reading → AreReading settings (with_input one (view files))) → input.mode ≡ Reading → AreReading settings (with_input input (view made))
  reading-generated input made files same asked reading = subst (λ (f : F). AreReading settings (with_input input (view f))) (sym same) (asked input reading)

  pub ends-generated : (seed : ℕ) (end : RunEnd) (name later : GName) (made files new last : F) (left rest : List ℕ) → made ≡ files → left ≡ generated_file seed → later ≡ name → new ≡ last
      → EndsOpened settings (with_input (input_view name (view made Input) left) (view made)) (with_input (input_view later (view new Input) rest) (view new)) end → EndsGenerated settings seed (view files) (view last) end
  ends-generated seed end name later made files new last left rest same all still same_last ends = record {
    name = name;
    left = rest;
    ends =
        subst (λ (f : F). EndsOpened settings (with_input (input_view name (view files Input) (generated_file seed)) (view files)) (with_input (input_view name (view f Input) rest) (view f)) end) same_last
        (subst (λ (n : GName). EndsOpened settings (with_input (input_view name (view files Input) (generated_file seed)) (view files)) (with_input (input_view n (view new Input) rest) (view new)) end) still
        (subst (λ (l : List ℕ). EndsOpened settings (with_input (input_view name (view files Input) l) (view files)) (with_input (input_view later (view new Input) rest) (view new)) end) all
        (subst (λ (f : F). EndsOpened settings (with_input (input_view name (view f Input) left) (view f)) (with_input (input_view later (view new Input) rest) (view new)) end) same ends)));
  }
