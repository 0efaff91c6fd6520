use Rattle.apv_enc.proofs.FixedSizeLemmas.{unit-size}
use Rattle.apv_enc.proofs.unit.sizes.len_unit_fixed.Goals as goal

pub returns-clause-size : goal.returns-clause-size
returns-clause-size c =
    unit-size c.args.settings.now c.args.tracks.now c.args.payloads.now c.len_au_info-au_info.result c.len_metadata.result c.len_filler.result c.len_frames_fixed.result c.requires.tracks c.len_au_info-au_info.ensures.size
    c.len_metadata.ensures.size c.len_filler.ensures.size c.len_frames_fixed.ensures.size
