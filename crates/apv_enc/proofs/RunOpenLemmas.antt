-- The files of a run, opened in their order.
use Rattle.std.proofs.Common.{◌≡◌, ℕ, ◌+◌, ◌≤◌, List, refl, sym, ap, ◌∙◌, Option, Some, None, Result, Ok, Err, Bool, is_some, true, false, true≢false, arith}
use Rattle.std.specs.Prelude.{option_and_then}
use Rattle.std.specs.Bool.{OnTrue}
use Rattle.std.proofs.lemmas.Bool.{OnTrue_from}
use Rattle.apv_base.specs.declared.exits.Exit.{Exit}
use Rattle.apv_base.specs.declared.slot.Slot.{Slot}
use Rattle.apv_base.specs.declared.slot.Slot.TheVariants.{Input, Preview, Depth, Alpha, Metadata, TileQp, Output, Recon, MetaOut, Console}
use Rattle.apv_base.specs.model.Slot.{is_input, slot_number}
use Rattle.apv_files.specs.declared.files.Mode.TheVariants.{Closed, Reading, Writing}
use Rattle.apv_files.specs.SlotView.{SlotView, AllClosed}
use Rattle.apv_generated.specs.Views.{with_input}
use Rattle.apv_run.specs.Cause.{AreUnwritten}
use Rattle.apv_run.specs.Names.{AreOpen, IsNamed}
use Rattle.apv_run.specs.Opened.{AfterOpening, IsNext, IsOpened, Opened, OpenedBelow}
use Rattle.apv_run.proofs.OpenLemmas.{not-open, opened-more, opened-none}
use Rattle.apv_run.proofs.SlotLemmas.{before-console, input-file}
use Rattle.apv_tracks.specs.Kinds.{AreReading}
use Rattle.apv_tracks.specs.Opening.{AreInputsReading}
use Rattle.apv_words.specs.declared.encoder.EncSettings.{EncSettings}
use Rattle.apv_enc.specs.Run.{content_of, name_of}
use Rattle.apv_enc.proofs.RunTracksLemmas.{each-kind}

-- ---- the names of the settings

-- no slot after Recon has a name
unnamed : (settings : EncSettings) (slot : Slot) → 8 ≤ slot_number slot → name_of settings slot ≡ None
unnamed settings Input le = absurd (omega (arith, le))
unnamed settings Preview le = absurd (omega (arith, le))
unnamed settings Depth le = absurd (omega (arith, le))
unnamed settings Alpha le = absurd (omega (arith, le))
unnamed settings Metadata le = absurd (omega (arith, le))
unnamed settings TileQp le = absurd (omega (arith, le))
unnamed settings Output le = absurd (omega (arith, le))
unnamed settings Recon le = absurd (omega (arith, le))
unnamed settings MetaOut le = refl
unnamed settings Console le = refl

-- an input that is named and closed isn't open
pub input-not-open : (settings : EncSettings) (views : Slot → SlotView) → (views Input).mode ≡ Closed → is_some settings.input ≡ true → AreOpen (name_of settings) views → ⊥
input-not-open settings views closed given is_open = go settings.input refl given
  where
    go : (name : Option (List ℕ)) → settings.input ≡ name → is_some name ≡ true → ⊥
    go None e some = true≢false (sym some)
    go (Some name) e some = not-open (name_of settings) views Input name refl e closed is_open

-- ---- files that are opened in order

-- all were closed and unwritten at the start, the slots below a number are opened, and files hold what they held
pub record IsOpenTo (settings : EncSettings) (held now_held : List ℕ → Option (List ℕ)) (start now : Slot → SlotView) (number : ℕ) : Type 0 where
  pub closed : AllClosed start
  pub unwritten : AreUnwritten start
  pub below : OpenedBelow number (name_of settings) held start now
  pub same : (file : List ℕ) → now_held file ≡ held file

module _ (settings : EncSettings) (held : List ℕ → Option (List ℕ)) (start : Slot → SlotView) where
  pub none-open : AllClosed start → AreUnwritten start → IsOpenTo settings held held start start 0
  none-open closed none = record { closed = closed; unwritten = none; below = opened-none (name_of settings) held start; same = λ file. refl }

  -- the next slot
  pub next : (now_held : List ℕ → Option (List ℕ)) (now : Slot → SlotView) (slot : Slot) → IsOpenTo settings held now_held start now (slot_number slot) → IsNext (name_of settings) held now_held start now slot (name_of settings slot)
  next now_held now slot o = record { closed = o.closed; unwritten = o.unwritten; named = refl; same = o.same; below = o.below }

  -- more slots
  pub more : (now_held then_held : List ℕ → Option (List ℕ)) (now then : Slot → SlotView) {number : ℕ} (all : ℕ) → OpenedBelow all (name_of settings) held start then → ((file : List ℕ) → then_held file ≡ now_held file)
      → IsOpenTo settings held now_held start now number → IsOpenTo settings held then_held start then all
  more now_held then_held now then all opened same o = record { closed = o.closed; unwritten = o.unwritten; below = opened; same = λ file. same file ∙ o.same file }

  -- one slot more
  pub one-more : (now_held then_held : List ℕ → Option (List ℕ)) (now then : Slot → SlotView) (slot : Slot) → (IsNext (name_of settings) held now_held start now slot (name_of settings slot) → OpenedBelow (slot_number slot + 1) (name_of settings) held start then)
      → ((file : List ℕ) → then_held file ≡ now_held file) → IsOpenTo settings held now_held start now (slot_number slot) → IsOpenTo settings held then_held start then (slot_number slot + 1)
  one-more now_held then_held now then slot opens same o = more now_held then_held now then (slot_number slot + 1) (opens (next now_held now slot o)) same o

-- the slots up to Recon are all that are opened
pub recon-last : {T : Type 0} (settings : EncSettings) (held : List ℕ → Option (List ℕ)) (old new : Slot → SlotView) (result : Result T Exit) → AfterOpening 8 (name_of settings) held old result new → AfterOpening 9 (name_of settings) held old result new
recon-last settings held old new (Ok value) o = opened-more 8 9 (name_of settings) held old new (omega arith) (λ slot le lt. unnamed settings slot le) o
recon-last settings held old new (Err exit) h = h

-- ---- files that were opened

-- an input that has a name is reading what its file holds
opened-reading : (held : List ℕ → Option (List ℕ)) (is_read : Bool) (name : Option (List ℕ)) (old new : SlotView) → is_read ≡ true → is_some name ≡ true → IsOpened is_read name held old new → (new.mode ≡ Reading) × (new.left ≡ option_and_then held name)
opened-reading held is_read None old new read some e = absurd (true≢false (sym some))
opened-reading held true (Some name) old new read some e = (ap (λ (p : SlotView). p.mode) e, ap (λ (p : SlotView). p.left) e)
opened-reading held false (Some name) old new read some e = absurd (true≢false (sym read))

-- an output that has a name is writing
opened-writing : (held : List ℕ → Option (List ℕ)) (name : Option (List ℕ)) (old new : SlotView) → IsOpened false name held old new → OnTrue (is_some name) (new.mode ≡ Writing)
opened-writing held None old new e = tt
opened-writing held (Some name) old new c = ap (λ (p : SlotView). p.mode) c.rest

module _ (settings : EncSettings) (held : List ℕ → Option (List ℕ)) (old new : Slot → SlotView) (o : Opened (name_of settings) held old new) where
  opened-input : (slot : Slot) → is_input slot ≡ true → IsNamed (name_of settings) slot → ((new slot).mode ≡ Reading) × ((new slot).left ≡ content_of (name_of settings slot) held)
  opened-input slot input named = opened-reading held (is_input slot) (name_of settings slot) (old slot) (new slot) input named (o.opened slot (before-console slot (input-file slot input)))

  -- what is left of an input that has a name is what its file holds
  pub opened-left : (slot : Slot) → is_input slot ≡ true → IsNamed (name_of settings) slot → (new slot).left ≡ content_of (name_of settings slot) held
  opened-left slot input named = (opened-input slot input named).1

  opened-mode : (slot : Slot) → is_input slot ≡ true → IsNamed (name_of settings) slot → (new slot).mode ≡ Reading
  opened-mode slot input named = (opened-input slot input named).0

  pub opened-inputs : is_some settings.input ≡ true → AreInputsReading settings new
  opened-inputs given = record {
    input = opened-mode Input refl given;
    metadata = OnTrue_from (is_some settings.metadata) ((new Metadata).mode ≡ Reading) (λ named. opened-mode Metadata refl named);
    tile_qp = OnTrue_from (is_some settings.tile_qp) ((new TileQp).mode ≡ Reading) (λ named. opened-mode TileQp refl named);
  }

  pub opened-tracks : is_some settings.input ≡ true → AreReading settings new
  opened-tracks given =
      each-kind settings (λ slot. (new slot).mode ≡ Reading) (opened-mode Input refl given) (λ named. opened-mode Preview refl named) (λ named. opened-mode Depth refl named) (λ named. opened-mode Alpha refl named)

  -- with a generated video in place of Input
  pub generated-inputs : (input : SlotView) → input.mode ≡ Reading → AreInputsReading settings (with_input input new)
  generated-inputs input reading = record {
    input = reading;
    metadata = OnTrue_from (is_some settings.metadata) ((new Metadata).mode ≡ Reading) (λ named. opened-mode Metadata refl named);
    tile_qp = OnTrue_from (is_some settings.tile_qp) ((new TileQp).mode ≡ Reading) (λ named. opened-mode TileQp refl named);
  }

  pub generated-tracks : (input : SlotView) → input.mode ≡ Reading → AreReading settings (with_input input new)
  generated-tracks input reading =
      each-kind settings (λ slot. (with_input input new slot).mode ≡ Reading) reading (λ named. opened-mode Preview refl named) (λ named. opened-mode Depth refl named) (λ named. opened-mode Alpha refl named)

  pub opened-output : OnTrue (is_some settings.output) ((new Output).mode ≡ Writing)
  opened-output = opened-writing held settings.output (old Output) (new Output) (o.opened Output (omega arith))

  pub opened-recon : OnTrue (is_some settings.recon) ((new Recon).mode ≡ Writing)
  opened-recon = opened-writing held settings.recon (old Recon) (new Recon) (o.opened Recon (omega arith))
