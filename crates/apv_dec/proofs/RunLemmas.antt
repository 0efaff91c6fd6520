-- What a run of the decoder leaves, where its files weren't opened and where they were.
use Rattle.std.proofs.Common.{◌≡◌, ℕ, List, refl, ◌∙◌, Option, is_some, true}
use Rattle.apv_base.specs.declared.exits.Exit.{Exit}
use Rattle.apv_base.specs.declared.exits.Exit.TheVariants.{Memory}
use Rattle.apv_base.specs.declared.slot.Slot.{Slot}
use Rattle.apv_base.specs.declared.slot.Slot.TheVariants.{Input}
use Rattle.apv_base.specs.laws.Run.{HasOneRun}
use Rattle.apv_base.specs.model.Output.{by_content}
use Rattle.apv_files.specs.SlotView.{SlotView, AllClosed}
use Rattle.apv_run.specs.Cause.{AreUnwritten}
use Rattle.apv_run.specs.Opened.{IsRefused, Opened}
use Rattle.apv_run.proofs.CauseLemmas.{open-end-cause, open-end-other}
use Rattle.apv_run.proofs.OpenLemmas.{are-unwritten, closed-named}
use Rattle.apv_words.specs.declared.decoder.DecSettings.{DecSettings}
use Rattle.apv_dec.specs.Answer.{EndsRun, is_own_answer}
use Rattle.apv_dec.specs.Decoded.{DecodedUnits}
use Rattle.apv_dec.specs.Outputs.{output_settings}
use Rattle.apv_dec.specs.Settings.{input_content, name_of}
use Rattle.apv_dec.proofs.ByUnitLemmas.{by-unit}
use Rattle.apv_dec.proofs.CauseLemmas.{cause-of, named-after}
use Rattle.apv_dec.proofs.OpenLemmas.{input-not-open, opened-input}
use Rattle.apv_dec.proofs.WrittenLemmas.{decodes-nothing, decodes-of}

module _ (settings : DecSettings) (held : List ℕ → Option (List ℕ)) where
  -- where memory ran out before any file was opened
  pub memory-run : (views : Slot → SlotView) → AllClosed views → AreUnwritten views → is_some settings.input ≡ true → EndsRun settings held Memory views views
  memory-run views closed none given = record {
    decodes = decodes-nothing (output_settings settings) (input_content settings held) Memory views refl none;
    cause = tt;
    by_unit = λ is_open. absurd (input-not-open settings views (closed Input) given is_open);
    named = closed-named (name_of settings) views closed;
  }

  -- where a file wasn't opened
  pub refused-run : (old new : Slot → SlotView) (exit : Exit) → IsRefused (name_of settings) old new exit → EndsRun settings held exit old new
  refused-run old new exit r = record {
    decodes = decodes-nothing (output_settings settings) (input_content settings held) exit new (open-end-other is_own_answer (name_of settings) old new exit r.cause) r.unwritten;
    cause = open-end-cause is_own_answer (name_of settings) old new exit r.cause;
    by_unit = λ is_open. absurd (r.not_open is_open);
    named = r.named;
  }

  -- where all files were opened
  module _ (given : is_some settings.input ≡ true) (law : (file : List ℕ) → HasOneRun (by_content (output_settings settings)) file) (start old new : Slot → SlotView) (closed : AllClosed start) (none : AreUnwritten start) (o : Opened (name_of settings) held start old) where
    none-yet : AreUnwritten old
    none-yet = are-unwritten (name_of settings) held start old o none

    left : (old Input).left ≡ input_content settings held
    left = (opened-input settings held start old o given).1

    pub opened-run : (exit : Exit) → DecodedUnits (output_settings settings) old exit new → EndsRun settings held exit start new
    opened-run exit d = record {
      decodes = decodes-of (output_settings settings) law old new none-yet (input_content settings held) exit d left;
      cause = cause-of settings held start old new given o closed exit d;
      by_unit = λ is_open file units stop is runs. by-unit (output_settings settings) old new none-yet file (left ∙ is) exit d law units stop runs;
      named = named-after settings held start old new given o closed exit d;
    }
