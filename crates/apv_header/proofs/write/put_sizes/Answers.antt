use Rattle.std.proofs.Common.{arith}
use Rattle.apv_header.proofs.LengthLemmas.{length-sizes_word, length-present}
use Rattle.apv_header.proofs.WriteLemmas.{room_after_bits}
use Rattle.apv_header.proofs.write.put_sizes.Goals as goal

pub put-requires-clause-room : goal.put-requires-clause-room
put-requires-clause-room c = omega (arith, c.requires, length-sizes_word c.args.present c.args.sizes.now)

pub put_tile_sizes-requires : goal.put_tile_sizes-requires
put_tile_sizes-requires c =
    let room = rw c.if-present.true at c.requires in
    omega (arith, room, length-present c.args.sizes.now, room_after_bits c.args.writer.now c.put.new.self 1 _ c.put.ensures.appends)
