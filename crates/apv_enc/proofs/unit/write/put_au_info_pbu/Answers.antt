use Rattle.std.proofs.Common.{List, arith}
use Rattle.apv_base.specs.model.AuInfo.{ListedFrame}
use Rattle.apv_enc.specs.UnitParts.{listed_states}
use Rattle.apv_enc.proofs.FixedSizeLemmas.{listed-count}
use Rattle.apv_enc.proofs.PartSizeLemmas.{au-part-size}
use Rattle.apv_enc.proofs.unit.write.put_au_info_pbu.Goals as goal

pub overflow_sub-size : goal.overflow_sub-size
overflow_sub-size c = omega (arith, c.requires.room, au-part-size c.args.asked (listed_states c.args.kinds.now c.args.tracks.now) c.if-not-asked.false)

pub overflow_cast-size : goal.overflow_cast-size
overflow_cast-size c =
    let listed : List ListedFrame = listed_states c.args.kinds.now c.args.tracks.now in
    omega (arith, c.requires.room, au-part-size c.args.asked listed c.if-not-asked.false, listed-count c.args.kinds.now c.args.tracks.now c.requires.kinds, c.requires.four)

pub split_at_mut-header-requires : goal.split_at_mut-header-requires
split_at_mut-header-requires c = omega (arith, c.requires.room, au-part-size c.args.asked (listed_states c.args.kinds.now c.args.tracks.now) c.if-not-asked.false)

pub put_au_info-requires-clause-room : goal.put_au_info-requires-clause-room
put_au_info-requires-clause-room c =
    let listed : List ListedFrame = listed_states c.args.kinds.now c.args.tracks.now in
    omega (
      arith,
      c.requires.room,
      au-part-size c.args.asked listed c.if-not-asked.false,
      listed-count c.args.kinds.now c.args.tracks.now c.requires.kinds,
      c.split_at_mut-header.ensures.back_len,
      c.split_at.ensures.front_len,
    )
