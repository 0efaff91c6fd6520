use Rattle.std.proofs.Common.{refl}
use Rattle.apv_tracks.proofs.TileMapLemmas.{offset-kept}
use Rattle.apv_tracks.proofs.opening.component_offsets.Goals as goal

pub returns : goal.returns
returns c =
    let settings = c.args.settings.now in
    let first = offset-kept settings.qp_offset_1 c.requires.qp_offset_1 in
    let second = offset-kept settings.qp_offset_2 c.requires.qp_offset_2 in
    let third = offset-kept settings.qp_offset_3 c.requires.qp_offset_3 in
    rw (first, second, third) refl
