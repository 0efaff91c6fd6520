use Rattle.std.proofs.Common.{arith}
use Rattle.apv_base.proofs.BitsLemmas.{length-bin}
use Rattle.apv_header.proofs.LengthLemmas.{length-some_colour}
use Rattle.apv_header.proofs.write.put_colour.Goals as goal

pub put_fields-requires-clause-room : goal.put_fields-requires-clause-room
put_fields-requires-clause-room c = let room = rw c.in-Some.is at c.requires in omega (arith, room, length-some_colour c.in-Some.colour)

pub put-requires-clause-room : goal.put-requires-clause-room
put-requires-clause-room c = let room = rw c.in-None.is at c.requires in omega (arith, room, length-bin 1 0)
