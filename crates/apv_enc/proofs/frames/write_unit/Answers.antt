use Rattle.std.proofs.Common.{◌∙◌, length, rules, is_some}
use Rattle.apv_base.specs.declared.slot.Slot.TheVariants.{Output}
use Rattle.apv_header.proofs.TileWriteLemmas.{bytes_4}
use Rattle.apv_enc.proofs.StepLemmas.{unit-writes, size-fails}
use Rattle.apv_enc.proofs.frames.write_unit.Goals as goal

pub returns-in-Ok-clause-here : goal.returns-in-Ok-clause-here
returns-in-Ok-clause-here g c =
    unit-writes (g.F.Files.slot_view c.args.files.now Output) (g.F.Files.slot_view c.write_all.new.files Output) _ (is_some c.args.settings.now.output) c.to_be_bytes-size.result c.args.unit.now c.write_all-in-Ok.result (search rules)
    (c.to_be_bytes-size.ensures ∙ bytes_4 (length c.args.unit.now)) c.in-Ok.ensures.here c.write_all-in-Ok.ensures.here

pub returns-in-Err-clause-here : goal.returns-in-Err-clause-here
returns-in-Err-clause-here g c =
    size-fails (Unit {0}) (Unit {0}) (g.F.Files.slot_view c.args.files.now Output) _ (is_some c.args.settings.now.output) c.to_be_bytes-size.result c.args.unit.now c.in-Err.failed (search rules)
    (c.to_be_bytes-size.ensures ∙ bytes_4 (length c.args.unit.now)) c.in-Err.ensures.here
