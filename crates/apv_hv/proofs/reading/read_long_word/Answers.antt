use Rattle.std.proofs.Common.{◌+◌, ◌^◌, ◌≤◌, refl, arith}
use Rattle.apv_base.proofs.CodeWordLemmas.{pow_le}
use Rattle.apv_hv.specs.declared.reading.Read.TheVariants.{Ends, Over}
use Rattle.apv_hv.proofs.ReadingLemmas.{long_over, long_ends, long_one, long_zero, bit_one, bit_zero, least}
use Rattle.apv_hv.proofs.reading.read_long_word.Goals as goal

pub returns-then-least-limit : goal.returns-then-least-limit
returns-then-least-limit c =
    let e = least c.args.k c.loop-zeros.zeros (omega arith) in
    c.loop-zeros.invariant Over c.loop-zeros.reader
    (long_over c.args.k c.loop-zeros.zeros c.args.limit c.loop-zeros.reader c.loop-zeros.reader (rw (← e) c.if-least-limit.true))

pub returns-in_default : goal.returns-in_default
returns-in_default c =
    let e = least c.args.k c.loop-zeros.zeros (omega arith) in
    c.loop-zeros.invariant Ends c.loop-zeros.reader
    (long_ends c.args.k c.loop-zeros.zeros c.args.limit c.loop-zeros.reader c.loop-zeros.reader (rw (← e) c.if-least-limit.false) (c.in_default.ensures.ended.0 refl))

pub returns-then-bit-eq1 : goal.returns-then-bit-eq1
returns-then-bit-eq1 c =
    let e = least c.args.k c.loop-zeros.zeros (omega arith) in
    c.loop-zeros.invariant c.read_tail.result c.read_tail.new.reader
    (long_one c.args.k c.loop-zeros.zeros c.args.limit c.loop-zeros.reader c.read.new.self (rw (← bit_one c.in-Ok.bit c.if-bit-eq1.true) c.in-Ok.ensures.ok.1)
    c.read_tail.result c.read_tail.new.reader (rw (← e) c.read_tail.ensures))

pub loop-zeros-preserved : goal.loop-zeros-preserved
loop-zeros-preserved c r new reads =
    c.loop-zeros.invariant r new
    (long_zero c.args.k c.loop-zeros.zeros c.args.limit c.loop-zeros.reader c.read.new.self
    (rw (← bit_zero c.in-Ok.bit c.in-Ok.ensures.ok.0 c.if-bit-eq1.false) c.in-Ok.ensures.ok.1) r new reads)

pub returns : goal.returns
returns c =
    c.loop-zeros.invariant Over c.loop-zeros.reader
    (long_over c.args.k c.loop-zeros.zeros c.args.limit c.loop-zeros.reader c.loop-zeros.reader
    (let p : 2 ^ 17 ≤ 2 ^ (c.args.k + c.loop-zeros.zeros) = pow_le 17 (c.args.k + c.loop-zeros.zeros) (omega arith) in omega arith))
