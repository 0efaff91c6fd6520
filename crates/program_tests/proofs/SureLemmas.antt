-- A run over files that never fail by a device ends as it is defined to, unless memory runs out.
use native.Mathlib.Omega.{arith}
use Rattle.std.proofs.Common.{◌≡◌, ℕ, List, Option, refl, sym, subst, Bool, true, ◌⊎◌, inl, inr, true≢false}
use Rattle.std.proofs.lemmas.Bool.{OnTrue_at}
use Rattle.apv_base.specs.declared.exits.Exit.{Exit}
use Rattle.apv_base.specs.declared.exits.Exit.TheVariants.{Done, Memory, Usage, Broken, BadVideo, BadPayloads, BadTileQp, OpenFailed, ReadFailed, WriteFailed, LimitMet, FormatChange, NoTag, TooLarge}
use Rattle.apv_base.specs.declared.options.UsageKind.{UsageKind}
use Rattle.apv_base.specs.declared.slot.Slot.{Slot}
use Rattle.apv_files.specs.SlotView.{NeverFailed, Rose, SlotView}
use Rattle.apv_run.specs.Cause.{HasCause, IsUsage, is_of_file}
use Rattle.apv_run.specs.Names.{Names}
use Rattle.apv_words.specs.declared.decoder.DecSettings.{DecSettings}
use Rattle.apv_words.specs.declared.encoder.EncSettings.{EncSettings}
use Rattle.apv_dec.specs.Answer.{DecodesInput}
use Rattle.apv_enc.specs.Encoded.{EncodesInputs}
use Rattle.program_tests.specs.Surely.{DecodesSurely, EncodesSurely, NeverFails}

-- a count that is 0 before and after didn't rise
not-risen : (before now : ℕ) → before ≡ 0 → now ≡ 0 → Rose before now → ⊥
not-risen before now b n rose = let no : ⊥ = omega (arith, b, n, rose) in no

module _ (is_own : Exit → Bool) (names : Names) (old new : Slot → SlotView) (before : (slot : Slot) → NeverFailed (old slot)) (after : (slot : Slot) → NeverFailed (new slot)) where
  pub never-fails : (exit : Exit) → HasCause is_own names old new exit → NeverFails exit
  never-fails Done h = refl
  never-fails Memory h = refl
  never-fails (OpenFailed slot) h = absurd (not-risen (old slot).open_faults (new slot).open_faults (before slot).open_faults (after slot).open_faults h.rose)
  never-fails (ReadFailed slot) h = absurd (not-risen (old slot).read_faults (new slot).read_faults (before slot).read_faults (after slot).read_faults h.rose)
  never-fails (WriteFailed slot) h = absurd (not-risen (old slot).write_faults (new slot).write_faults (before slot).write_faults (after slot).write_faults h.rose)
  never-fails (Usage kind) h = refl
  never-fails (Broken break) h = refl
  never-fails (LimitMet limit count) h = refl
  never-fails (NoTag format) h = refl
  never-fails (FormatChange first other) h = refl
  never-fails (BadVideo break) h = refl
  never-fails (BadPayloads byte) h = refl
  never-fails (BadTileQp byte) h = refl
  never-fails (TooLarge frame smallest limit) h = refl

-- refused words are no fault of a device
pub usage-never-fails : (kind : UsageKind) (exit : Exit) → IsUsage kind exit → NeverFails exit
usage-never-fails kind exit (inl usage) = subst NeverFails (sym usage) refl
usage-never-fails kind exit (inr memory) = subst NeverFails (sym memory) refl

-- an answer that is no fault of a device is one of the files, or memory ran out
sure-answer : (exit : Exit) → NeverFails exit → (exit ≡ Memory) ⊎ (is_of_file exit ≡ true)
sure-answer Done sure = inr refl
sure-answer Memory sure = inl refl
sure-answer (OpenFailed slot) sure = absurd (true≢false sure)
sure-answer (ReadFailed slot) sure = absurd (true≢false sure)
sure-answer (WriteFailed slot) sure = absurd (true≢false sure)
sure-answer (Usage kind) sure = inr refl
sure-answer (Broken break) sure = inr refl
sure-answer (LimitMet limit count) sure = inr refl
sure-answer (NoTag format) sure = inr refl
sure-answer (FormatChange first other) sure = inr refl
sure-answer (BadVideo break) sure = inr refl
sure-answer (BadPayloads byte) sure = inr refl
sure-answer (BadTileQp byte) sure = inr refl
sure-answer (TooLarge frame smallest limit) sure = inr refl

pub decodes-surely : (settings : DecSettings) (held : List ℕ → Option (List ℕ)) (exit : Exit) (new : Slot → SlotView) → NeverFails exit → DecodesInput settings held exit new → DecodesSurely settings held exit new
decodes-surely settings held exit new sure dec = elim (sure-answer exit sure) [
  | inl memory ↦ inl memory
  | inr own ↦ inr (dec.file, dec.told, OnTrue_at own dec.answer)
]

pub encodes-surely : (settings : EncSettings) (held : List ℕ → Option (List ℕ)) (exit : Exit) (new : Slot → SlotView) → NeverFails exit → EncodesInputs settings held exit new → EncodesSurely settings held exit new
encodes-surely settings held exit new sure enc = elim (sure-answer exit sure) [
  | inl memory ↦ inl memory
  | inr own ↦ inr (enc.inputs, enc.told, OnTrue_at own enc.answer)
]
