use Rattle.apv_dec.specs.Outputs.{output_settings}
use Rattle.apv_dec.proofs.EndLemmas.{none-decoded}
use Rattle.apv_dec.proofs.run.decode_opened.Goals as goal

pub returns-in_default : goal.returns-in_default
returns-in_default g c = record { views = none-decoded (output_settings c.args.settings.now) (g.F.Files.slot_view c.args.files.now) }

pub returns-in_default-new : goal.returns-in_default-new
returns-in_default-new g c = record { views = none-decoded (output_settings c.args.settings.now) (g.F.Files.slot_view c.args.files.now) }
