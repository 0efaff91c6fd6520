use Rattle.std.proofs.Common.{arith}
use Rattle.apv_header.proofs.WriteLemmas.{room_after_bits}
use Rattle.apv_header.proofs.write.put_reserved.Goals as goal

pub returns-clause-left : goal.returns-clause-left
returns-clause-left c = omega (arith, c.requires, room_after_bits _ _ 8 0 c.put.ensures.appends)
