use Rattle.std.proofs.Common.{◌≡◌, ◌<◌, length, refl, arith}
use Rattle.apv_hv.proofs.ReadingLemmas.{number_over, all_read, number_ends, number_ends_over, shifted}
use Rattle.apv_hv.proofs.reading.read_tail.Goals as goal

pub overflow_add-first : goal.overflow_add-first
overflow_add-first c =
    let more : length c.args.reader.now.left < c.args.n = c.in_default.ensures.ended.0 refl in
    let len : c.left-left.result ≡ length c.args.reader.now.left = rw (← c.in_default.ensures.err) c.left-left.ensures.left in
    let s = shifted c.args.n c.left-left.result c.in-Ok-read.prefix c.requires.n (omega arith) c.in-Ok-read.ensures.ok.0 in
    rw s.0 (omega (arith, s.1))

pub returns-then-first-prefix : goal.returns-then-first-prefix
returns-then-first-prefix c =
    let more : length c.args.reader.now.left < c.args.n = c.in_default.ensures.ended.0 refl in
    let len : c.left-left.result ≡ length c.args.reader.now.left = rw (← c.in_default.ensures.err) c.left-left.ensures.left in
    let s = shifted c.args.n c.left-left.result c.in-Ok-read.prefix c.requires.n (omega arith) c.in-Ok-read.ensures.ok.0 in
    number_ends c.args.n c.left-left.result c.args.first c.args.limit c.in-Ok-read.prefix c.args.reader.now.left (omega arith) c.in-Ok-read.ensures.ok.0
    (all_read c.left-left.result c.in-Ok-read.prefix c.args.reader.now c.read.new.self c.read-in_default.new.self c.in_default.ensures.err c.in-Ok-read.ensures.ok.1 c.left-left.ensures.left)
    (rw (← s.0) c.if-first-prefix.true)

pub returns-else-first-prefix : goal.returns-else-first-prefix
returns-else-first-prefix c =
    let more : length c.args.reader.now.left < c.args.n = c.in_default.ensures.ended.0 refl in
    let len : c.left-left.result ≡ length c.args.reader.now.left = rw (← c.in_default.ensures.err) c.left-left.ensures.left in
    let s = shifted c.args.n c.left-left.result c.in-Ok-read.prefix c.requires.n (omega arith) c.in-Ok-read.ensures.ok.0 in
    number_ends_over c.args.n c.left-left.result c.args.first c.args.limit c.in-Ok-read.prefix c.args.reader.now.left (omega arith) c.in-Ok-read.ensures.ok.0
    (all_read c.left-left.result c.in-Ok-read.prefix c.args.reader.now c.read.new.self c.read-in_default.new.self c.in_default.ensures.err c.in-Ok-read.ensures.ok.1 c.left-left.ensures.left)
    (rw (← s.0) c.if-first-prefix.false)

pub returns-else-first-number : goal.returns-else-first-number
returns-else-first-number c =
    number_over c.args.n c.args.first c.args.limit c.in-Ok.number c.args.reader.now.left c.read.new.self.left c.in-Ok.ensures.ok.0 c.in-Ok.ensures.ok.1.prefix c.if-first-number.false
