-- What stays true of the outputs when the console's line is written after a run, or when memory runs out then.
use Rattle.std.proofs.Common.{◌≡◌, ℕ, List, sym, ap, ◌∙◌, subst, Option, true, inl, inr, true≢false}
use Rattle.apv_base.specs.declared.exits.Exit.{Exit}
use Rattle.apv_base.specs.declared.slot.Slot.{Slot}
use Rattle.apv_base.specs.declared.slot.Slot.TheVariants.{Input, Output, MetaOut, Console}
use Rattle.apv_base.specs.model.Judge.{DecodedUnit}
use Rattle.apv_base.specs.model.Output.{OutputSettings}
use Rattle.apv_files.specs.SlotView.{SlotView, OnlyAt}
use Rattle.apv_run.proofs.ToldLemmas.{IsTold, open-before}
use Rattle.apv_words.specs.declared.decoder.DecSettings.{DecSettings}
use Rattle.apv_dec.specs.Outputs.{output_settings}
use Rattle.apv_run.specs.Cause.{is_write_fault}
use Rattle.apv_dec.specs.OneUnit.{IsReadByUnit, ReadsByUnit}
use Rattle.apv_dec.specs.Settings.{name_of}
use Rattle.apv_dec.specs.Answer.{DecodesFile}

-- ---- outputs

module _ (settings : OutputSettings) (held : Option (List ℕ)) where
  decodes-along : (exit told : Exit) (output metadata : Option (List ℕ)) → IsTold exit told → DecodesFile settings held exit output metadata → DecodesFile settings held told output metadata
  decodes-along exit told output metadata (inl same) d = subst (λ (x : Exit). DecodesFile settings held x output metadata) (sym same) d
  decodes-along exit told output metadata (inr memory) d = record { file = d.file; told = d.told; prefix = d.prefix; answer = rw memory tt }

  pub decodes-told : (exit told : Exit) (old new : Slot → SlotView) → IsTold exit told → OnlyAt Console old new → DecodesFile settings held exit (old Output).written (old MetaOut).written
      → DecodesFile settings held told (new Output).written (new MetaOut).written
  decodes-told exit told old new one o h = rw (o Output, o MetaOut) (decodes-along exit told (old Output).written (old MetaOut).written one h)

-- ---- unit by unit

fault-told : (exit told : Exit) → IsTold exit told → is_write_fault told ≡ true → is_write_fault exit ≡ true
fault-told exit told (inl same) fault = sym (ap is_write_fault same) ∙ fault
fault-told exit told (inr memory) fault = absurd (true≢false (sym fault ∙ ap is_write_fault memory))

unit-along : (settings : OutputSettings) (file : List ℕ) (units : List DecodedUnit) (exit told : Exit) (old new : Slot → SlotView) → IsTold exit told → OnlyAt Console old new
    → IsReadByUnit settings file units exit old → IsReadByUnit settings file units told new
unit-along settings file units exit told old new one o r = record {
  count = r.count;
  among = r.among;
  output = rw (o Output) r.output;
  payloads = rw (o MetaOut) r.payloads;
  no_more_output = rw (o Output) r.no_more_output;
  no_more_payloads = rw (o MetaOut) r.no_more_payloads;
  input = rw (o Input) r.input;
  written = λ fault. let w = r.written (fault-told exit told one fault) in (w.0, rw (o Input) w.1);
}

pub by-unit-told : (settings : DecSettings) (held : List ℕ → Option (List ℕ)) (exit told : Exit) (old new : Slot → SlotView) → IsTold exit told → OnlyAt Console old new → ReadsByUnit settings held exit old → ReadsByUnit settings held told new
by-unit-told settings held exit told old new one o r is_open file units stop is runs =
    unit-along (output_settings settings) file units exit told old new one o (r (open-before (name_of settings) old new o is_open) file units stop is runs)
