use Rattle.std.proofs.Common.{rules}
use Rattle.apv_base.specs.declared.slot.Slot.TheVariants.{Output}
use Rattle.apv_dec.specs.Outputs.{output_settings}
use Rattle.apv_dec.proofs.PictureLemmas.{pictures-after}
use Rattle.apv_dec.proofs.pictures.write_pictures.Goals as goal

pub returns-in-Ok-clause-here : goal.returns-in-Ok-clause-here
returns-in-Ok-clause-here g c judged is =
    pictures-after (Unit {0}) (output_settings c.args.settings.now) c.args.header judged _ (g.F.Files.slot_view c.write_header_of.new.files Output) _ c.write_selected.result (search rules) c.in-Ok.ensures.here (c.write_selected.ensures.here judged is)
