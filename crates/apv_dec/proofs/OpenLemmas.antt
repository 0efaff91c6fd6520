-- Which slots are open, after files were opened and after the loop over the units.
use Rattle.std.proofs.Common.{◌≡◌, ℕ, List, refl, sym, ap, Option, Some, None, is_some, true, false, true≢false, arith}
use Rattle.std.specs.Prelude.{option_and_then}
use Rattle.std.specs.Bool.{OnTrue}
use Rattle.apv_base.specs.declared.exits.Exit.{Exit}
use Rattle.apv_base.specs.declared.slot.Slot.{Slot}
use Rattle.apv_base.specs.declared.slot.Slot.TheVariants.{Input, Preview, Depth, Alpha, Metadata, TileQp, Output, Recon, MetaOut, Console}
use Rattle.apv_base.specs.model.Judge.{DecodedUnit}
use Rattle.apv_base.specs.model.Output.{OutputSettings, dec_out, dec_payloads}
use Rattle.apv_base.specs.model.Slot.{slot_number}
use Rattle.apv_files.specs.declared.files.Mode.TheVariants.{Closed, Reading, Writing}
use Rattle.apv_files.specs.SlotView.{SlotView, AllClosed}
use Rattle.apv_run.specs.Cause.{AreUnwritten}
use Rattle.apv_run.specs.Names.{AreOpen}
use Rattle.apv_run.specs.Opened.{IsNext, IsOpened, Opened, OpenedBelow}
use Rattle.apv_run.proofs.OpenLemmas.{not-open, opened-more, opened-none}
use Rattle.apv_run.proofs.ViewLemmas.{AllStayOpen, StaysOpen, failed-open, left-open, read-open, same-open, wrote-open}
use Rattle.apv_words.specs.declared.decoder.DecSettings.{DecSettings}
use Rattle.apv_dec.specs.Decoded.{OnlyAtFiles, IsWritten, WritesStop, in_metadata, in_pictures}
use Rattle.apv_dec.specs.Settings.{input_content, name_of}
use Rattle.apv_dec.proofs.EndLemmas.{EndsBy, by_memory, by_read, by_write, by_file}

-- ---- each slot, where only the input and the outputs changed

pub at-three : (old new : Slot → SlotView) (claim : SlotView → SlotView → Type 0) → ((one other : SlotView) → other ≡ one → claim one other) → OnlyAtFiles old new
    → claim (old Input) (new Input) → claim (old Output) (new Output) → claim (old MetaOut) (new MetaOut) → (slot : Slot) → claim (old slot) (new slot)
at-three old new claim same others i o m Input = i
at-three old new claim same others i o m Output = o
at-three old new claim same others i o m MetaOut = m
at-three old new claim same others i o m Preview = same (old Preview) (new Preview) (others Preview)
at-three old new claim same others i o m Depth = same (old Depth) (new Depth) (others Depth)
at-three old new claim same others i o m Alpha = same (old Alpha) (new Alpha) (others Alpha)
at-three old new claim same others i o m Metadata = same (old Metadata) (new Metadata) (others Metadata)
at-three old new claim same others i o m TileQp = same (old TileQp) (new TileQp) (others TileQp)
at-three old new claim same others i o m Recon = same (old Recon) (new Recon) (others Recon)
at-three old new claim same others i o m Console = same (old Console) (new Console) (others Console)

-- ---- slots that stay open

module _ (settings : OutputSettings) (old new : Slot → SlotView) (units : List DecodedUnit) (others : OnlyAtFiles old new) where
  three-open : StaysOpen (old Input) (new Input) → StaysOpen (old Output) (new Output) → StaysOpen (old MetaOut) (new MetaOut) → AllStayOpen old new
  three-open i o m = at-three old new StaysOpen same-open others i o m

  written-open : StaysOpen (old Input) (new Input) → IsWritten settings units old new → AllStayOpen old new
  written-open i w = three-open i (wrote-open (old Output) (new Output) (dec_out settings units) w.output) (wrote-open (old MetaOut) (new MetaOut) (dec_payloads settings units) w.metadata)

  stopped-open : (slot : Slot) → StaysOpen (old Input) (new Input) → WritesStop settings old new units slot → AllStayOpen old new
  stopped-open slot i (in_metadata wanted fault pictures) =
      three-open i (wrote-open (old Output) (new Output) pictures.prefix pictures.rest) (failed-open (old MetaOut) (new MetaOut) fault.prefix fault.failed)
  stopped-open slot i (in_pictures wanted fault payloads) =
      three-open i (failed-open (old Output) (new Output) fault.prefix fault.failed) (wrote-open (old MetaOut) (new MetaOut) (dec_payloads settings units) payloads)

  -- the loop opens and closes nothing
  pub ends-open : (rest : List ℕ) (exit : Exit) → EndsBy settings old new units rest exit → AllStayOpen old new
  ends-open rest exit (by_memory left w) =
      three-open (left-open (old Input) (new Input) left) (wrote-open (old Output) (new Output) w.output.prefix w.output.rest) (wrote-open (old MetaOut) (new MetaOut) w.metadata.prefix w.metadata.rest)
  ends-open rest exit (by_read fault w) = written-open (read-open (old Input) (new Input) fault.rest) w
  ends-open rest exit (by_write slot left stop) = stopped-open slot (left-open (old Input) (new Input) left) stop
  ends-open rest exit (by_file e own s) = written-open (left-open (old Input) (new Input) s.input) s.written

-- ---- the names of the settings

-- the settings name the input and the outputs alone
unnamed : (settings : DecSettings) (slot : Slot) → (slot_number slot ≡ slot_number Input → ⊥) → (slot_number slot ≡ slot_number Output → ⊥) → (slot_number slot ≡ slot_number MetaOut → ⊥) → name_of settings slot ≡ None
unnamed settings Input i o m = absurd (i refl)
unnamed settings Output i o m = absurd (o refl)
unnamed settings MetaOut i o m = absurd (m refl)
unnamed settings Preview i o m = refl
unnamed settings Depth i o m = refl
unnamed settings Alpha i o m = refl
unnamed settings Metadata i o m = refl
unnamed settings TileQp i o m = refl
unnamed settings Recon i o m = refl
unnamed settings Console i o m = refl

-- an input that is named and closed isn't open
pub input-not-open : (settings : DecSettings) (views : Slot → SlotView) → (views Input).mode ≡ Closed → is_some settings.input ≡ true → AreOpen (name_of settings) views → ⊥
input-not-open settings views closed given is_open = go settings.input refl given
  where
    go : (name : Option (List ℕ)) → settings.input ≡ name → is_some name ≡ true → ⊥
    go None e some = true≢false (sym some)
    go (Some name) e some = not-open (name_of settings) views Input name refl e closed is_open

-- ---- files that are opened in order

module _ (settings : DecSettings) (held : List ℕ → Option (List ℕ)) (start : Slot → SlotView) (closed : AllClosed start) (none : AreUnwritten start) where
  pub input-next : IsNext (name_of settings) held held start start Input settings.input
  input-next = record { closed = closed; unwritten = none; named = refl; same = λ file. refl; below = opened-none (name_of settings) held start }

  module _ (now_held : List ℕ → Option (List ℕ)) (now : Slot → SlotView) (same : (file : List ℕ) → now_held file ≡ held file) where
    pub output-next : OpenedBelow 1 (name_of settings) held start now → IsNext (name_of settings) held now_held start now Output settings.output
    output-next o = record {
      closed = closed;
      unwritten = none;
      named = refl;
      same = same;
      below = opened-more 1 6 (name_of settings) held start now (omega arith)
          (λ slot le lt. unnamed settings slot (λ e. omega (arith, le, e)) (λ e. omega (arith, lt, e)) (λ e. omega (arith, lt, e))) o;
    }

    pub metadata-next : OpenedBelow 7 (name_of settings) held start now → IsNext (name_of settings) held now_held start now MetaOut settings.metadata
    metadata-next o = record {
      closed = closed;
      unwritten = none;
      named = refl;
      same = same;
      below = opened-more 7 8 (name_of settings) held start now (omega arith)
          (λ slot le lt. unnamed settings slot (λ e. omega (arith, le, e)) (λ e. omega (arith, le, e)) (λ e. omega (arith, lt, e))) o;
    }

-- ---- files that were opened

input-reading : (held : List ℕ → Option (List ℕ)) (name : Option (List ℕ)) (old new : SlotView) → is_some name ≡ true → IsOpened true name held old new → (new.mode ≡ Reading) × (new.left ≡ option_and_then held name)
input-reading held None old new some e = absurd (true≢false (sym some))
input-reading held (Some name) old new some e = (ap (λ (p : SlotView). p.mode) e, ap (λ (p : SlotView). p.left) e)

output-writing : (held : List ℕ → Option (List ℕ)) (name : Option (List ℕ)) (old new : SlotView) → IsOpened false name held old new → OnTrue (is_some name) (new.mode ≡ Writing)
output-writing held None old new e = tt
output-writing held (Some name) old new c = ap (λ (p : SlotView). p.mode) c.rest

module _ (settings : DecSettings) (held : List ℕ → Option (List ℕ)) (old new : Slot → SlotView) (o : Opened (name_of settings) held old new) where
  pub opened-input : is_some settings.input ≡ true → ((new Input).mode ≡ Reading) × ((new Input).left ≡ input_content settings held)
  opened-input some = input-reading held settings.input (old Input) (new Input) some (o.opened Input (omega arith))

  pub opened-output : OnTrue (is_some settings.output) ((new Output).mode ≡ Writing)
  opened-output = output-writing held settings.output (old Output) (new Output) (o.opened Output (omega arith))

  pub opened-metadata : OnTrue (is_some settings.metadata) ((new MetaOut).mode ≡ Writing)
  opened-metadata = output-writing held settings.metadata (old MetaOut) (new MetaOut) (o.opened MetaOut (omega arith))
