use Rattle.std.proofs.Common.{◌≡◌, ◌+◌, ◌-◌, arith}
use Rattle.apv_bits.proofs.WindowLemmas.{loaded}
use Rattle.apv_bits.proofs.field.load.Goals as goal

pub returns-clause-bits : goal.returns-clause-bits
returns-clause-bits c =
    let m : c.args.first + 8 - c.args.first ≡ 8 = omega arith in
    loaded c.args.bytes.now c.args.first c.number.result c.if-bytes-first.false (rw m at c.number.ensures.bits)
