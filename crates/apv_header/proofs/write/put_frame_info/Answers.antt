use Rattle.std.proofs.Common.{length, ap, ◌∙◌}
use Rattle.apv_header.proofs.LengthLemmas.{length-info}
use Rattle.apv_header.proofs.SpellLemmas.{spelled-info}
use Rattle.apv_header.proofs.write.put_frame_info.Goals as goal

pub returns-clause-appends : goal.returns-clause-appends
returns-clause-appends c = rw (spelled-info c.args.info.now c.requires.sound.format.low, ← c.from.ensures, ← c.from-2.ensures, ← c.from-3.ensures, ← c.idc.ensures, ← c.from-4.ensures, ← c.from-5.ensures, ← c.from-6.ensures) c.put_fields.ensures.appends

pub returns-clause-len : goal.returns-clause-len
returns-clause-len c = ap length (spelled-info c.args.info.now c.requires.sound.format.low) ∙ length-info c.args.info.now
