use Rattle.apv_header.proofs.SpellLemmas.{spelled-info}
use Rattle.apv_bits.proofs.WriterLemmas.{appends_both}
use Rattle.apv_header.proofs.write.put_prefix.Goals as goal

pub returns-clause-appends : goal.returns-clause-appends
returns-clause-appends c =
    appends_both _ _ _ _ _ (rw (spelled-info c.args.header.now.info c.requires.sound.info.format.low) at c.put_frame_info.ensures.appends) (
    appends_both _ _ _ _ _ c.put_reserved.ensures.appends (
    appends_both _ _ _ _ _ c.put_colour.ensures.appends (
    appends_both _ _ _ _ _ c.put_matrices.ensures.appends (
    appends_both _ _ _ _ _ c.put_fields.ensures.appends (
    appends_both _ _ _ _ _ c.put_sizes.ensures.appends c.put_reserved-2.ensures.appends)))))
