-- How the loop over the units of a file ends, by cases, and its end where it didn't begin.
use Rattle.std.proofs.Common.{ℕ, List, [], refl, sym, subst, arith, inl, append-nil}
use Rattle.apv_base.specs.declared.exits.Exit.{Exit}
use Rattle.apv_base.specs.declared.exits.Exit.TheVariants.{Done, Memory, Usage, Broken, BadVideo, BadPayloads, BadTileQp, OpenFailed, ReadFailed, WriteFailed, LimitMet, FormatChange, NoTag, TooLarge}
use Rattle.apv_base.specs.declared.format.Format.{Format}
use Rattle.apv_base.specs.declared.rules.Break.{Break}
use Rattle.apv_base.specs.declared.rules.Limit.{Limit}
use Rattle.apv_base.specs.declared.slot.Slot.{Slot}
use Rattle.apv_base.specs.declared.slot.Slot.TheVariants.{Input}
use Rattle.apv_base.specs.model.Judge.{DecodedUnit}
use Rattle.apv_base.specs.model.Output.{OutputSettings, dec_out, dec_payloads}
use Rattle.apv_files.specs.SlotView.{SlotView}
use Rattle.apv_run.proofs.KnownLemmas.{some-content}
use Rattle.apv_run.specs.Slots.{OnlyLeftChanged, IsReadFault}
use Rattle.apv_dec.specs.Decoded.{IsWritten, IsPartlyWritten, IsStopped, WritesStop, Ends, DecodedUnits, reading}
use Rattle.apv_dec.proofs.ProgressLemmas.{progress-none, stops-with}

-- the answers that a file gives
pub data IsFileAnswer : Exit → Type 0 where
  is_done : IsFileAnswer Done
  is_broken : (break : Break) → IsFileAnswer (Broken break)
  is_limit : (limit : Limit) (count : ℕ) → IsFileAnswer (LimitMet limit count)
  is_no_tag : (format : Format) → IsFileAnswer (NoTag format)
  is_change : (first other : Format) → IsFileAnswer (FormatChange first other)

-- memory ran out, a read or a write failed, or the file stops
pub data EndsBy (settings : OutputSettings) (old new : Slot → SlotView) (units : List DecodedUnit) (rest : List ℕ) : Exit → Type 0 where
  by_memory : OnlyLeftChanged (old Input) (new Input) → IsPartlyWritten settings units old new → EndsBy settings old new units rest Memory
  by_read : IsReadFault (old Input) (new Input) → IsWritten settings units old new → EndsBy settings old new units rest (ReadFailed Input)
  by_write : (slot : Slot) → OnlyLeftChanged (old Input) (new Input) → WritesStop settings old new units slot → EndsBy settings old new units rest (WriteFailed slot)
  by_file : (exit : Exit) → IsFileAnswer exit → IsStopped settings old new exit units rest → EndsBy settings old new units rest exit

module _ (settings : OutputSettings) (old new : Slot → SlotView) (units : List DecodedUnit) (rest : List ℕ) where
  pub ends-by : (exit : Exit) → Ends settings old new exit units rest → EndsBy settings old new units rest exit
  ends-by Memory e = by_memory e.0 e.1
  ends-by (ReadFailed slot) e = subst (λ (s : Slot). EndsBy settings old new units rest (ReadFailed s)) (sym e.0) (by_read e.1 e.2)
  ends-by (WriteFailed slot) e = by_write slot e.0 e.1
  ends-by Done e = by_file Done is_done e
  ends-by (Broken break) e = by_file (Broken break) (is_broken break) e
  ends-by (LimitMet limit count) e = by_file (LimitMet limit count) (is_limit limit count) e
  ends-by (OpenFailed slot) e = absurd (stops-with settings units rest (OpenFailed slot) e.stops)
  ends-by (Usage kind) e = absurd (stops-with settings units rest (Usage kind) e.stops)
  ends-by (BadVideo break) e = absurd (stops-with settings units rest (BadVideo break) e.stops)
  ends-by (BadPayloads byte) e = absurd (stops-with settings units rest (BadPayloads byte) e.stops)
  ends-by (BadTileQp byte) e = absurd (stops-with settings units rest (BadTileQp byte) e.stops)
  ends-by (FormatChange first other) e = by_file (FormatChange first other) (is_change first other) e
  ends-by (NoTag format) e = by_file (NoTag format) (is_no_tag format) e
  ends-by (TooLarge frame smallest limit) e = absurd (stops-with settings units rest (TooLarge frame smallest limit) e.stops)

-- memory ran out before a unit was read
pub none-decoded : (settings : OutputSettings) (views : Slot → SlotView) → DecodedUnits settings views Memory views
none-decoded settings views =
    let some = some-content (views Input).left in
    let p = progress-none settings views in
    record {
      units = [];
      rest = some.0;
      valid = p.valid;
      count = omega arith;
      told = some.1;
      others = p.others;
      ends = (
        p.input,
        record {
          output = record { prefix = dec_out settings []; more = []; parts = append-nil (dec_out settings []); rest = p.output };
          metadata = record { prefix = dec_payloads settings []; more = []; parts = append-nil (dec_payloads settings []); rest = p.metadata };
        },
      );
      within = reading [] [] refl (inl (omega arith)) p.prefix (record { output = p.output; metadata = p.metadata });
    }
