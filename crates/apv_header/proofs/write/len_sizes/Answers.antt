use Rattle.std.proofs.Common.{arith}
use Rattle.apv_header.proofs.LengthLemmas.{length-present, length-absent}
use Rattle.apv_header.proofs.write.len_sizes.Goals as goal

pub returns-then-present-clause-bytes : goal.returns-then-present-clause-bytes
returns-then-present-clause-bytes c sizes count = rw c.if-present.true (omega (arith, length-present sizes, count c.if-present.true))

pub returns-else-present-clause-bytes : goal.returns-else-present-clause-bytes
returns-else-present-clause-bytes c sizes count = rw c.if-present.false (length-absent sizes)
