use Rattle.std.proofs.Common.{◌<◌, refl, arith}
use Rattle.std.proofs.lemmas.Nat.{one_shl}
use Rattle.apv_hv.proofs.ReadingLemmas.{word_none, word_one, word_two, word_long, only_zero, word_zero_ends, word_zero_over, bit_one, bit_zero}
use Rattle.apv_hv.proofs.reading.read_word.Goals as goal

pub returns-in_default : goal.returns-in_default
returns-in_default c = word_none c.args.k c.args.limit c.args.reader.now c.args.reader.now (c.in_default.ensures.ended.0 refl)

pub returns-then-bit-eq1 : goal.returns-then-bit-eq1
returns-then-bit-eq1 c =
    word_one c.args.k c.args.limit c.args.reader.now c.read.new.self (rw (← bit_one c.in-Ok.bit c.if-bit-eq1.true) c.in-Ok.ensures.ok.1)
    c.read_tail.result c.read_tail.new.reader c.read_tail.ensures

pub returns-then-k-limit : goal.returns-then-k-limit
returns-then-k-limit c =
    let hk : c.args.k < 32 = omega arith in
    word_zero_ends c.args.k c.args.limit c.args.reader.now c.args.reader.now
    (only_zero c.args.reader.now c.read.new.self (rw (← bit_zero c.in-Ok.bit c.in-Ok.ensures.ok.0 c.if-bit-eq1.false) c.in-Ok.ensures.ok.1) (c.in_default-read.ensures.ended.0 refl))
    (rw (← one_shl c.args.k 32 hk) c.if-k-limit.true)

pub returns-else-k-limit : goal.returns-else-k-limit
returns-else-k-limit c =
    let hk : c.args.k < 32 = omega arith in
    word_zero_over c.args.k c.args.limit c.args.reader.now c.args.reader.now
    (only_zero c.args.reader.now c.read.new.self (rw (← bit_zero c.in-Ok.bit c.in-Ok.ensures.ok.0 c.if-bit-eq1.false) c.in-Ok.ensures.ok.1) (c.in_default-read.ensures.ended.0 refl))
    (rw (← one_shl c.args.k 32 hk) c.if-k-limit.false)

pub returns-then-second-eq1 : goal.returns-then-second-eq1
returns-then-second-eq1 c =
    word_long c.args.k c.args.limit c.args.reader.now c.read.new.self c.read-2.new.self
    (rw (← bit_zero c.in-Ok.bit c.in-Ok.ensures.ok.0 c.if-bit-eq1.false) c.in-Ok.ensures.ok.1)
    (rw (← bit_one c.in-Ok-read.second c.if-second-eq1.true) c.in-Ok-read.ensures.ok.1)
    c.read_long_word.result c.read_long_word.new.reader c.read_long_word.ensures

pub returns-else-second-eq1 : goal.returns-else-second-eq1
returns-else-second-eq1 c =
    let hk : c.args.k < 32 = omega arith in
    word_two c.args.k c.args.limit c.args.reader.now c.read.new.self c.read-2.new.self
    (rw (← bit_zero c.in-Ok.bit c.in-Ok.ensures.ok.0 c.if-bit-eq1.false) c.in-Ok.ensures.ok.1)
    (rw (← bit_zero c.in-Ok-read.second c.in-Ok-read.ensures.ok.0 c.if-second-eq1.false) c.in-Ok-read.ensures.ok.1)
    c.read_tail-else-second-eq1.result c.read_tail-else-second-eq1.new.reader
    (rw (← one_shl c.args.k 32 hk) c.read_tail-else-second-eq1.ensures)
