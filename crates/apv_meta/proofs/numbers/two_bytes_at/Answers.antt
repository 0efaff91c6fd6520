use Rattle.std.proofs.Common.{arith}
use Rattle.apv_meta.proofs.NumberBytes.{two-read}
use Rattle.apv_meta.proofs.numbers.two_bytes_at.Goals as goal

pub returns : goal.returns
returns c = two-read c.args.bytes.now c.args.place c.from_be_bytes.result c.requires (λ i. omega (arith, c.type_inv.bytes i)) c.from_be_bytes.ensures
